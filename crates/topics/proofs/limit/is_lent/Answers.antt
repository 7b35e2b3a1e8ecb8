use mathlib.Core.Path.{◌≡◌, ◌∙◌, refl, sym}
use mathlib.Core.Bool.{Bool, true, false}
use mathlib.Core.List.{List}
use mathlib.Core.Logic.{⊎_elim}
use Prim.Native.Nat.{ℕ, ◌+◌, ◌<◌, ◌≤◌}
use lib.ListN.{length, drop}
use lib.Dec.{eqb}
use borrow.Author.Rules.{rules}
use borrow.Author.Tests.{eqb-true, eqb-false}
use Rattle.text.specs.Part.{part_of, same_bytes}
use Rattle.text.specs.Find.{first_at}
use Rattle.text.proofs.PartLaws.{same-eq}
use Rattle.text.proofs.SplitLaws.{less-left, next_fits}
use Rattle.topics.specs.Topics.{lent_topics, has}
use Rattle.topics.proofs.DifferentLaws.{told, has_here}
use Rattle.topics.proofs.LentLaws.{empty-never, lent-end, lent-empty, lent-line}
use Rattle.topics.proofs.limit.is_lent.Goals as goal

empty : (lent topic : List ℕ) → length topic ≡ 0 → false ≡ has topic (lent_topics lent)
unfolding lent_topics
empty lent topic e = empty-never topic e _

-- the topic is among the lent ones from an offset if it is among all of them, which is start
module _ (lent topic : List ℕ) (at : ℕ) {start : Bool} (i : has topic (lent_topics (drop at lent)) ≡ start) where
  none : length lent ≤ at → false ≡ start
  unfolding has
  none h = rw (lent-end lent at h) at i

  module _ (h : at < length lent) {end : ℕ} (e : end ≡ first_at 0x0A lent at) {p : List ℕ} (q : p ≡ part_of lent at end) {r : Bool}
      (said : r ≡ same_bytes p topic) where
    yes : (length topic ≡ 0 → ⊥) → r ≡ true → true ≡ start
    yes f k =
        let d : p ≡ topic = same-eq p topic (sym said ∙ k) in
        rw (lent-line lent at h e q (rw d f), d, has_here topic _) at i

    on : r ≡ false → has topic (lent_topics (drop (end + 1) lent)) ≡ start
    unfolding has
    on k =
        ⊎_elim
        (λ t. rw (lent-empty lent at h e q (eqb-true (length p) 0 t)) at i)
        (λ t. rw (lent-line lent at h e q (eqb-false (length p) 0 t), ← said, k) at i)
        (told (eqb (length p) 0))

pub returns-then-is_empty : goal.returns-then-is_empty
returns-then-is_empty c = search (rules, empty)

pub loop-at-init : goal.loop-at-init
loop-at-init c = refl

pub returns-then-same : goal.returns-then-same
returns-then-same c = search (rules, yes)

pub overflow_add-at : goal.overflow_add-at
overflow_add-at c = search (rules, next_fits)

pub loop-at-smaller : goal.loop-at-smaller
loop-at-smaller c = search (rules, less-left)

pub loop-at-preserved : goal.loop-at-preserved
loop-at-preserved c = search (rules, on)

pub returns : goal.returns
returns c = search (rules, none)
