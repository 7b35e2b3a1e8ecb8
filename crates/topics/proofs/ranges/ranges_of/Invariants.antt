use mathlib.Core.Path.{◌≡◌}
use lib.ListN.{length}
use Rattle.topics.specs.Ranges.{ranges_from, ranges_of}
use Rattle.topics.proofs.ranges.ranges_of.Given as goal

-- what the words that are left add comes to all ranges
abbrev pub invariant-loop-rest : goal.invariant-loop-rest
invariant-loop-rest l = ranges_from l.ranges l.rest ≡ ranges_of l.words

abbrev pub decreases-loop-rest : goal.decreases-loop-rest
decreases-loop-rest l = length l.rest
