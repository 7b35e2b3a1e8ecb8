use Prim.Native.Nat.{ℕ, ◌/◌, ◌^◌}
use mathlib.Core.Path.{◌≡◌}
use lib.Dec.{eqb}
use lib.Bits.{bit_and, and_mask}
use borrow.Author.Rules.{rules}
use Rattle.model.specs.declared.Days.{Days}
use Rattle.days.specs.Days.{has_day}
use Rattle.days.proofs.has_day.Statement.{statement}
use Rattle.days.proofs.has_day.Tie as tie

known : (days : Days) (d : ℕ) → eqb (bit_and (days.sum / 2 ^ d) 1) 1 ≡ has_day days d
unfolding has_day
known days d = rw (and_mask (days.sum / 2 ^ d) 1)

pub has_day_spec : {M : Type 1} → statement M
has_day_spec = tie.close (tie.spec (λ c. search rules) (λ c. search (rules, known)))
