use Prim.Native.Nat.{◌*◌, ◌≤◌}
use Rattle.join.specs.Kept.{Few}
use Rattle.join.proofs.TopicLaws.{Gathered}
use Rattle.join.proofs.topics_of.Given as goal

abbrev pub invariant-loop-i : goal.invariant-loop-i
invariant-loop-i l = Gathered l.list l.topics l.i × (l.topics.count ≤ l.i * 2) × Few l.list.rows l.list.count
