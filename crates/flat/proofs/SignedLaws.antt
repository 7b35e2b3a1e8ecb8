-- Signed numbers and their two's complement.
use mathlib.Core.Path.{◌≡◌, refl}
use native.Mathlib.Omega.{arith}
use lib.IntN.{ℤ, pos, negsuc}
use mir.Syntax.{w32, w64}
use mir.Val.{SFits, to_z, of_z}
use mir.Facts.{to_z-of_z, sfits_widen}
use Rattle.flat.specs.Codes.{twos_complement}

pub bits_complement : (z : ℤ) → of_z w64 z ≡ twos_complement z
unfolding twos_complement
bits_complement (pos n) = refl
bits_complement (negsuc n) = omega arith

-- a number of 32 signed bits is the same in 64
pub widened : {z : ℤ} → SFits w32 z → to_z w64 (of_z w64 (to_z w32 (of_z w32 z))) ≡ z
widened {z} h = rw (to_z-of_z h) (to_z-of_z {w = w64} {z = z} (sfits_widen {w = w32} {w' = w64} tt h))
