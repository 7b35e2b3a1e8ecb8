use Prim.Native.Nat.{◌-◌, ◌≤◌}
use mathlib.Core.List.{◌++◌}
use lib.ListN.{length}
use Rattle.topics.specs.Topics.{most_topics}
use Rattle.topics.specs.Ranges.{topics_in}
use Rattle.topics.proofs.KeptLaws.{Counting}
use Rattle.topics.proofs.limit.eight_stand.Given as goal

abbrev pub invariant-loop-at : goal.invariant-loop-at
invariant-loop-at l = Counting l.lent (topics_in l.first l.earlier ++ topics_in l.text l.named) l.count l.lines l.at × (l.count ≤ most_topics)

abbrev pub decreases-loop-at : goal.decreases-loop-at
decreases-loop-at l = length l.lent - l.at
