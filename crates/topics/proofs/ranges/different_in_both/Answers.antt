use Prim.Native.Nat.{ℕ}
use mathlib.Core.Path.{◌≡◌}
use mathlib.Core.List.{List, ◌++◌, append-nil}
use borrow.Author.Rules.{rules}
use Rattle.topics.specs.Topics.{different}
use Rattle.topics.specs.Ranges.{no_ranges, topics_in}
use Rattle.topics.specs.declared.ranges.Ranges.{Ranges}
use Rattle.topics.proofs.RangeLaws.{none-stand}
use Rattle.topics.proofs.ranges.different_in_both.Goals as goal

-- in no ranges there are none
none : (t : List ℕ) {ranges : Ranges} → ranges ≡ no_ranges → 0 ≡ different (topics_in t ranges)
unfolding different
none t e = rw (e, (none-stand t).are)

alone : (t : List ℕ) (l : List (List ℕ)) {ranges : Ranges} {count : ℕ} → ranges ≡ no_ranges → count ≡ different (l ++ topics_in t ranges) → count ≡ different l
alone t l e h = rw (e, (none-stand t).are, append-nil) at h

pub different_beside-before-requires : goal.different_beside-before-requires
different_beside-before-requires c = (search (rules, none), search rules)

pub different_beside-requires : goal.different_beside-requires
different_beside-requires c = (search (rules, alone), search rules)
