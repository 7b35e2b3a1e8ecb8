use mathlib.Core.Path.{◌≡◌}
use Prim.Native.Nat.{◌-◌}
use lib.ListN.{length, drop}
use Rattle.topics.specs.Topics.{lent_topics, has}
use Rattle.topics.proofs.limit.is_lent.Given as goal

-- the topic is among the lent ones from here if it is among all
abbrev pub invariant-loop-at : goal.invariant-loop-at
invariant-loop-at l = has l.topic (lent_topics (drop l.at l.lent)) ≡ has l.topic (lent_topics l.lent)

abbrev pub decreases-loop-at : goal.decreases-loop-at
decreases-loop-at l = length l.lent - l.at
