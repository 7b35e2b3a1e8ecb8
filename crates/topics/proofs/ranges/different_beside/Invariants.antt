use mathlib.Core.Path.{◌≡◌}
use mathlib.Core.List.{◌++◌}
use Prim.Native.Nat.{◌+◌, ◌≤◌}
use Rattle.topics.specs.Topics.{different, most_topics}
use Rattle.topics.specs.Ranges.{first_in, topics_in}
use Rattle.topics.proofs.ranges.different_beside.Given as goal

-- so many different ones are in the ranges so far and in the others
abbrev pub invariant-loop-i : goal.invariant-loop-i
invariant-loop-i l = (l.count ≡ different (first_in l.s l.ranges l.i ++ topics_in l.t l.others)) × (l.count ≤ l.before + l.i) × (l.n ≤ most_topics) × (l.before ≤ most_topics)
