use mathlib.Core.Path.{◌≡◌}
use Rattle.join.specs.Kept.{Few}
use Rattle.join.proofs.ConditionLaws.{Compared}
use Rattle.join.proofs.same_conditions.Given as goal

abbrev pub invariant-loop-i : goal.invariant-loop-i
invariant-loop-i l = Compared l.first l.second l.xs l.ys l.i × (l.xs.count ≡ l.ys.count) × Few l.xs.rows l.xs.count × Few l.ys.rows l.ys.count
