use mathlib.Core.Path.{◌≡◌}
use Prim.Native.Nat.{◌-◌}
use lib.ListN.{length}
use Rattle.text.specs.Utf8.{chars}
use Rattle.topics.specs.Topic.{forbidden_among}
use Rattle.topics.proofs.topic.has_forbidden.Given as goal

abbrev pub invariant-loop-code : goal.invariant-loop-code
invariant-loop-code l = forbidden_among (chars l.topic l.at) ≡ forbidden_among (chars l.topic 0)

abbrev pub decreases-loop-code : goal.decreases-loop-code
decreases-loop-code l = length l.topic - l.at
