use Prim.Native.Nat.{◌-◌}
use lib.ListN.{length}
use mathlib.Core.Path.{◌≡◌}
use Rattle.old_rows.proofs.ShapeLaws.{malformed_at}
use Rattle.old_rows.proofs.convert.first_malformed.Given as goal

-- what is left to ask comes to the same
abbrev pub invariant-loop-at : goal.invariant-loop-at
invariant-loop-at l = malformed_at l.s l.n l.at ≡ malformed_at l.s 1 0

abbrev pub decreases-loop-at : goal.decreases-loop-at
decreases-loop-at l = length l.s - l.at
