use Prim.Native.Nat.{ℕ, ◌<◌}
use mathlib.Core.Path.{◌≡◌, sym}
use mathlib.Core.List.{List, ◌++◌}
use mathlib.Core.Bool.{true}
use native.Mathlib.Omega.{arith}
use lib.Dec.{leb}
use borrow.Author.Rules.{rules}
use borrow.Author.Tests.{le-leb}
use Rattle.text.proofs.SplitLaws.{less-left, next_fits}
use Rattle.topics.specs.Topics.{different, most_topics}
use Rattle.topics.proofs.DifferentLaws.{has_right, different-within}
use Rattle.topics.proofs.KeptLaws.{counting-begin, counting-on, counting-full, counting-end}
use Rattle.topics.proofs.limit.eight_stand.Goals as goal

-- with the lent ones there are no fewer
more : (l m : List (List ℕ)) {count : ℕ} → count ≡ different m → most_topics < count → true ≡ leb most_topics (different (l ++ m))
more l m e h = sym (le-leb most_topics (different (l ++ m)) (omega (arith, different-within m (l ++ m) (λ x. has_right x l m))))

pub returns-then-count-gt-MAX_TOPICS : goal.returns-then-count-gt-MAX_TOPICS
returns-then-count-gt-MAX_TOPICS c = search (rules, more)

pub loop-at-init : goal.loop-at-init
loop-at-init c = (search (rules, counting-begin), search rules)

pub returns-then-count-lines : goal.returns-then-count-lines
returns-then-count-lines c = search (rules, counting-full)

pub overflow_add-at : goal.overflow_add-at
overflow_add-at c = search (rules, next_fits)

pub loop-at-smaller : goal.loop-at-smaller
loop-at-smaller c = search (rules, less-left)

pub loop-at-preserved : goal.loop-at-preserved
loop-at-preserved c = (search (rules, counting-on), search rules)

pub returns : goal.returns
returns c = search (rules, counting-end)
