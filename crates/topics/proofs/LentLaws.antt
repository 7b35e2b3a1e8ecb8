-- Lent topics, line by line.
use Prim.Native.Nat.{ℕ, ◌+◌, ◌<◌, ◌≤◌}
use mathlib.Core.Path.{◌≡◌, ◌∙◌, refl, ap}
use mathlib.Core.List.{List, [], ◌∷◌}
use mathlib.Core.Bool.{false}
use mathlib.Core.Logic.{⊎_elim}
use lib.ListN.{length, drop}
use lib.Dec.{eqb}
use borrow.Author.Tests.{eq-eqb, ne_eqb, eqb-true, eqb-false}
use Rattle.text.specs.Part.{part_of}
use Rattle.text.specs.Find.{first_at}
use Rattle.text.proofs.SplitLaws.{split-none, part-read}
use Rattle.topics.specs.Topics.{filled, lent_topics, has}
use Rattle.topics.proofs.DifferentLaws.{told, unlike}

-- a line is one of the topics unless it is empty
module _ (l : List ℕ) (ls : List (List ℕ)) where
  filled-empty : length l ≡ 0 → filled (l ∷ ls) ≡ filled ls
  unfolding filled
  filled-empty e = rw (eq-eqb (length l) 0 e)

  filled-line : (length l ≡ 0 → ⊥) → filled (l ∷ ls) ≡ l ∷ filled ls
  unfolding filled
  filled-line f = rw (ne_eqb (length l) 0 f)

-- an empty topic is never lent
module _ (topic : List ℕ) (e : length topic ≡ 0) where
  pub empty-never : (ls : List (List ℕ)) → false ≡ has topic (filled ls)
  unfolding has filled
  empty-never [] = refl
  empty-never (l ∷ ls) =
      ⊎_elim
      (λ t. rw (filled-empty l ls (eqb-true (length l) 0 t)) (empty-never ls))
      (λ t.
      let f = eqb-false (length l) 0 t in
      rw (filled-line l ls f, unlike l topic (λ d. f (ap length d ∙ e))) (empty-never ls))
      (told (eqb (length l) 0))

module _ (lent : List ℕ) (at : ℕ) where
  -- there are none at the end
  pub lent-end : length lent ≤ at → lent_topics (drop at lent) ≡ []
  unfolding lent_topics filled
  lent-end h = rw (split-none 0x0A lent at h)

  -- the line at an offset, which ends at end and has the bytes p, as code reads it
  module _ (h : at < length lent) {end : ℕ} (e : end ≡ first_at 0x0A lent at) {p : List ℕ} (q : p ≡ part_of lent at end) where
    pub lent-empty : length p ≡ 0 → lent_topics (drop at lent) ≡ lent_topics (drop (end + 1) lent)
    unfolding lent_topics
    lent-empty z = rw (part-read 0x0A lent at e h q) (filled-empty p _ z)

    pub lent-line : (length p ≡ 0 → ⊥) → lent_topics (drop at lent) ≡ p ∷ lent_topics (drop (end + 1) lent)
    unfolding lent_topics
    lent-line z = rw (part-read 0x0A lent at e h q) (filled-line p _ z)
