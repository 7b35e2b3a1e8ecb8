-- Numbers from their two's complement.
use Prim.Native.Nat.{ℕ, ◌^◌}
use mathlib.Core.Path.{◌≡◌, refl, ap}
use mathlib.Core.Bool.{Bool, true, false}
use native.Mathlib.Omega.{arith}
use lib.Dec.{ltb}
use lib.IntN.{pos, negsuc}
use mir.Syntax.{w32, w64}
use mir.Val.{sel, to_z}
use Rattle.text.specs.Choice.{pick}
use Rattle.flat.specs.Back.{signed_back}

chosen : (t : Bool) (n : ℕ) {a b : ℕ} → a ≡ b → sel t (pos n) (negsuc a) ≡ pick t (pos n) (negsuc b)
chosen true n e = refl
chosen false n e = ap negsuc e

pub signed_32 : (n : ℕ) → to_z w32 n ≡ signed_back (2 ^ 31) n
unfolding signed_back
signed_32 n = chosen (ltb n (2 ^ 31)) n (omega arith)

pub signed_64 : (n : ℕ) → to_z w64 n ≡ signed_back (2 ^ 63) n
unfolding signed_back
signed_64 n = chosen (ltb n (2 ^ 63)) n (omega arith)
