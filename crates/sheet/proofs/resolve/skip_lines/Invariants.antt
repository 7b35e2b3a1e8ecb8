use Prim.Native.Nat.{◌-◌, ◌≤◌}
use lib.ListN.{length}
use Rattle.sheet.specs.Tally.{Passed}
use Rattle.sheet.proofs.resolve.skip_lines.Given as goal

-- no line from the first offset up to this one has the name
abbrev pub invariant-loop-at : goal.invariant-loop-at
invariant-loop-at l = (Passed l.name l.s l.from l.at) × (l.from ≤ l.at)

abbrev pub decreases-loop-at : goal.decreases-loop-at
decreases-loop-at l = length l.s - l.at
