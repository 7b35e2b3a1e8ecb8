use mathlib.Core.Path.{◌≡◌}
use Prim.Native.Nat.{◌-◌}
use lib.ListN.{length}
use Rattle.text.specs.Utf8.{chars, row_end}
use Rattle.text.proofs.utf8.row_end.Given as goal

-- the row from here ends where the row from the start does
abbrev pub invariant-loop-at : goal.invariant-loop-at
invariant-loop-at l = row_end l.at (chars l.s l.at) ≡ row_end 0 (chars l.s 0)

abbrev pub decreases-loop-at : goal.decreases-loop-at
decreases-loop-at l = length l.s - l.at
