-- Numbers of 32 bits behind a sign: what the machine holds in 64 signed bits, and in 32.
use Prim.Native.Nat.{ℕ, zero, suc, ◌<◌, ◌≤◌, ◌^◌}
use mathlib.Core.Path.{◌≡◌, ◌∙◌, refl, ap}
use mathlib.Core.Bool.{Bool, true, false}
use native.Mathlib.Omega.{arith}
use lib.IntN.{ℤ, pos, neg_ℤ, ◌-ℤ◌, +ℤ_idl}
use mir.Syntax.{w32, w64}
use mir.Val.{SFits, to_z, of_z}
use mir.Facts.{to_z-of_z, to_z_pos}
use borrow.Author.Rules.{rules}
use Rattle.language.specs.Words.{signed}
use Rattle.language.specs.Timeval.{most_offset, offset_bound}
use Rattle.text.proofs.Tests.{le_yes}
use Rattle.tokens.specs.Result.{ok}
use Rattle.model.specs.declared.SolarEvent.{SolarEvent}
use Rattle.model.specs.declared.TimeBound.TheVariants.{Solar}

-- a number of 32 bits is held as it is, and its negation is what the machine computes
as_pos : (n : ℕ) → n < 2 ^ 32 → to_z w64 n ≡ pos n
as_pos n h = to_z_pos w64 (omega arith)

as_neg : (n : ℕ) → n < 2 ^ 32 → pos 0 -ℤ to_z w64 n ≡ neg_ℤ (pos n)
as_neg n h = ap (λ (z : ℤ). pos 0 -ℤ z) (as_pos n h) ∙ +ℤ_idl (neg_ℤ (pos n))

neg64 : (n : ℕ) → n < 2 ^ 32 → SFits w64 (neg_ℤ (pos n))
neg64 zero h = record { sfits = omega arith }
neg64 (suc n) h = record { sfits = omega arith }

neg32 : (n : ℕ) → n ≤ 2147483648 → SFits w32 (neg_ℤ (pos n))
neg32 zero h = record { sfits = omega arith }
neg32 (suc n) h = record { sfits = omega arith }

-- a number of 32 bits is negated within 64 bits
pub negation_fits : (n : ℕ) → n < 2 ^ 32 → SFits w64 (pos 0 -ℤ to_z w64 n)
negation_fits n h = rw (as_neg n h) (neg64 n h)

pub signed-minus : (minus : Bool) (n : ℕ) → n < 2 ^ 32 → minus ≡ true → to_z w64 (of_z w64 (pos 0 -ℤ to_z w64 n)) ≡ signed minus n
unfolding signed
signed-minus minus n h m = rw (m, as_neg n h) (to_z-of_z (neg64 n h))

pub signed-plus : (minus : Bool) (n : ℕ) → n < 2 ^ 32 → minus ≡ false → to_z w64 n ≡ signed minus n
unfolding signed
signed-plus minus n h m = rw m (as_pos n h)

-- an offset that is short enough fits 32 signed bits
fits-offset : (minus : Bool) (ms : ℕ) → ms ≤ most_offset minus → SFits w32 (signed minus ms)
unfolding signed most_offset
fits-offset true ms h = neg32 ms h
fits-offset false ms h = record { sfits = omega arith }

-- what a function answered in 64 signed bits is read back as it is
pub same64 : {z : ℤ} (w : ℤ) → SFits w64 z → z ≡ w → to_z w64 (of_z w64 z) ≡ w
same64 w fits e = to_z-of_z fits ∙ e

pub narrows : (z : ℤ) (minus : Bool) (ms : ℕ) {most : ℕ} → SFits w64 z → z ≡ signed minus ms → most ≡ most_offset minus → ms ≤ most →
    SFits w32 (to_z w64 (of_z w64 z))
narrows z minus ms fits e d h = rw (same64 (signed minus ms) fits e) (fits-offset minus ms (rw (← d) h))

pub narrowed : (z : ℤ) (minus : Bool) (ms : ℕ) {most : ℕ} → SFits w64 z → z ≡ signed minus ms → most ≡ most_offset minus → ms ≤ most →
    to_z w32 (of_z w32 (to_z w64 (of_z w64 z))) ≡ signed minus ms
narrowed z minus ms fits e d h = rw (same64 (signed minus ms) fits e) (to_z-of_z (fits-offset minus ms (rw (← d) h)))

-- a solar event with an offset that is short enough
pub solar_within : (event : SolarEvent) (minus : Bool) (i ms j : ℕ) {z : ℤ} {most : ℕ} → SFits w64 z → z ≡ signed minus ms → most ≡ most_offset minus →
    ms ≤ most → ok (Solar event (to_z w32 (of_z w32 (to_z w64 (of_z w64 z))))) j ≡ offset_bound event minus i ms j
unfolding offset_bound
solar_within event minus i ms j {z} fits e d h =
    rw (narrowed z minus ms fits e d h) (le_yes ms (most_offset minus) _ _ (rw (← d) h) refl)

pub ruleset signs = (rules, negation_fits, signed-minus, signed-plus)
