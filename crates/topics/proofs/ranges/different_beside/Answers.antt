use mathlib.Core.Path.{◌≡◌}
use mathlib.Core.List.{List, ◌++◌}
use Prim.Native.Nat.{ℕ, ◌≤◌}
use native.Mathlib.Omega.{arith}
use borrow.Author.Rules.{rules}
use Rattle.topics.specs.Topics.{different}
use Rattle.topics.specs.Ranges.{first_in, in_use, topics_in}
use Rattle.topics.specs.declared.ranges.Ranges.{Ranges}
use Rattle.topics.proofs.RangeLaws.{one-different, none-different}
use Rattle.topics.proofs.ranges.different_beside.Goals as goal
use Rattle.topics.proofs.ranges.different_beside.Goals.{then-not-holds_first, else-not-holds_first}

begin : (s : List ℕ) (ranges : Ranges) (others : List (List ℕ)) {count : ℕ} → count ≡ different others →
    count ≡ different (first_in s ranges 0 ++ others)
unfolding first_in
begin s ranges others e = e

done : (s : List ℕ) (ranges : Ranges) (others : List (List ℕ)) {n i count : ℕ} → n ≡ in_use ranges →
    count ≡ different (first_in s ranges i ++ others) → i ≤ n → n ≤ i → count ≡ different (topics_in s ranges ++ others)
unfolding topics_in
done s ranges others {n} {i} e o h k =
    let d : n ≡ i = omega arith in
    rw (← e, d) o

pub loop-i-init : goal.loop-i-init
loop-i-init c = (search (rules, begin), search rules, search rules, search rules)

pub loop-i-preserved : goal.loop-i-preserved
loop-i-preserved c =
    elim c.if-not-holds_first.branch [
      | then-not-holds_first w ↦ (search (rules, one-different), omega arith, search rules, search rules)
      | else-not-holds_first w ↦ (search (rules, none-different), omega arith, search rules, search rules)
    ]

pub returns : goal.returns
returns c = record { value = search (rules, done); upper_bound = omega arith }
