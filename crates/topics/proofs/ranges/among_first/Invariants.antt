use mathlib.Core.Path.{◌≡◌}
use mathlib.Core.Bool.{false}
use Rattle.topics.specs.Topics.{has}
use Rattle.topics.specs.Ranges.{first_in}
use Rattle.topics.proofs.ranges.among_first.Given as goal

-- the topic is in none of the ranges so far
abbrev pub invariant-loop-i : goal.invariant-loop-i
invariant-loop-i l = has l.topic (first_in l.s l.ranges l.i) ≡ false
