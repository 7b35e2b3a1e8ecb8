use mathlib.Core.Path.{◌≡◌, refl}
use mathlib.Core.Bool.{false}
use mathlib.Core.List.{List}
use Prim.Native.Nat.{ℕ}
use borrow.Author.Rules.{rules}
use Rattle.topics.specs.Topics.{has}
use Rattle.topics.specs.Ranges.{first_in}
use Rattle.topics.specs.declared.ranges.Ranges.{Ranges}
use Rattle.topics.proofs.RangeLaws.{found, passed}
use Rattle.topics.proofs.ranges.among_first.Goals as goal

begin : (s topic : List ℕ) (ranges : Ranges) → has topic (first_in s ranges 0) ≡ false
unfolding has first_in
begin s topic ranges = refl

pub loop-i-init : goal.loop-i-init
loop-i-init c = search begin

pub returns-then-same : goal.returns-then-same
returns-then-same c = search (rules, found)

pub loop-i-preserved : goal.loop-i-preserved
loop-i-preserved c = search (rules, passed)
