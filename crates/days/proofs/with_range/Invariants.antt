use Prim.Native.Nat.{◌<◌, ◌≤◌}
use Rattle.days.specs.Read.{gets_day}
use Rattle.days.proofs.DayLaws.{Summed}
use Rattle.days.proofs.with_range.Given as goal

abbrev pub invariant-loop-left : goal.invariant-loop-left
invariant-loop-left l = Summed (gets_day l.days l.from l.to) l.left l.sum × (l.sum < 128) × (l.left ≤ 7)

abbrev pub decreases-loop-left : goal.decreases-loop-left
decreases-loop-left l = l.left
