-- The lent lines that are kept are as many as there are different ones besides the named ones.
use Prim.Native.Nat.{ℕ, ◌+◌, ◌-◌, ◌<◌, ◌≤◌}
use mathlib.Core.Path.{◌≡◌, ◌∙◌, refl, ap, sym}
use mathlib.Core.List.{List, [], ◌∷◌, ◌++◌, append_assoc}
use mathlib.Core.Bool.{Bool, true, false}
use mathlib.Core.Logic.{⊎_elim}
use native.Mathlib.Omega.{arith}
use lib.ListN.{length, drop, length-append}
use lib.Dec.{leb, eqb}
use borrow.Author.Rules.{rules}
use borrow.Author.Tests.{eq-eqb, ne_eqb, eqb-true, eqb-false, le-leb, lt-leb, leb-true, leb-false}
use Rattle.text.specs.Part.{part_of}
use Rattle.text.specs.Find.{first_at}
use Rattle.topics.specs.Topics.{has, different, lent_topics, most_topics}
use Rattle.topics.specs.Ranges.{no_ranges, with_range, topics_in}
use Rattle.topics.specs.Kept.{kept}
use Rattle.topics.specs.declared.ranges.Ranges.{Ranges}
use Rattle.topics.proofs.DifferentLaws.{told, has_append, has_left, has_right, different-within, inserted, new-first, old_first}
use Rattle.topics.proofs.LentLaws.{lent-end, lent-empty, lent-line}
use Rattle.topics.proofs.RangeLaws.{Stand, none-stand, one-stands}

-- the line p, as code reads it: it is empty, or it is not
module _ (lent : List ℕ) (lines : Ranges) (named : List (List ℕ)) (start end : ℕ) {p : List ℕ} (read : p ≡ part_of lent start end) where
  pub kept-empty : length p ≡ 0 → lines ≡ kept lent lines named start end
  unfolding kept
  kept-empty e = rw (← read, eq-eqb (length p) 0 e)

  module _ (some : length p ≡ 0 → ⊥) {n : Bool} (told : n ≡ has p named) where
    -- it is named, or it is not
    pub kept-named : n ≡ true → lines ≡ kept lent lines named start end
    unfolding kept
    kept-named h = rw (← read, ne_eqb (length p) 0 some, ← told, h)

    module _ (other : n ≡ false) {k : Bool} (told-kept : k ≡ has p (topics_in lent lines)) where
      -- it is kept already, or it is not
      pub kept-before : k ≡ true → lines ≡ kept lent lines named start end
      unfolding kept
      kept-before h = rw (← read, ne_eqb (length p) 0 some, ← told, other, ← told-kept, h)

      pub kept_new : k ≡ false → {x : Ranges} → x ≡ with_range lines start end → x ≡ kept lent lines named start end
      unfolding kept
      kept_new h e = rw (← read, ne_eqb (length p) 0 some, ← told, other, ← told-kept, h) e

-- closes what is left of the function that keeps a line
pub ruleset keeping = (rules, kept-empty, kept-named, kept-before, kept_new)

-- a bound less what was counted first
rest-left : (first : ℕ) → first ≤ most_topics → (n m : ℕ) → m ≡ n + first → leb (most_topics - first) n ≡ leb most_topics m
rest-left first h n m e =
    ⊎_elim
    (λ t. t ∙ sym (le-leb most_topics m (omega (arith, leb-true (most_topics - first) n t))))
    (λ t. t ∙ sym (lt-leb most_topics m (omega (arith, leb-false (most_topics - first) n t))))
    (told (leb (most_topics - first) n))

-- so many lines are kept from before the offset at, and those from there on, with these and the named ones, come to all of them
pub record Counting (lent : List ℕ) (named : List (List ℕ)) (first : ℕ) (lines : Ranges) (at : ℕ) : Type 0 where
  pub topics : List (List ℕ)
  pub stand : Stand lent lines topics
  pub counts : different (topics ++ named) ≡ length topics + first
  pub comes : different (lent_topics (drop at lent) ++ (topics ++ named)) ≡ different (lent_topics lent ++ named)

pub counting-begin : (lent : List ℕ) {named : List (List ℕ)} {first : ℕ} {lines : Ranges} → first ≡ different named → lines ≡ no_ranges →
    Counting lent named first lines 0
counting-begin lent e l = record { topics = []; stand = rw l (none-stand lent); counts = omega (arith, e); comes = refl }

module _ (lent : List ℕ) {named : List (List ℕ)} {first : ℕ} {lines : Ranges} {at : ℕ} (g : Counting lent named first lines at) where
  -- what a step leaves if the line adds no topic
  stays : {next : ℕ} → different (lent_topics (drop next lent) ++ (g.topics ++ named)) ≡ different (lent_topics (drop at lent) ++ (g.topics ++ named)) →
      Counting lent named first lines next
  stays e = record { topics = g.topics; stand = g.stand; counts = g.counts; comes = e ∙ g.comes }

  module _ (h : at < length lent) {end : ℕ} (e : end ≡ first_at 0x0A lent at) where
    p : List ℕ
    p = part_of lent at end

    rest : List (List ℕ)
    rest = lent_topics (drop (end + 1) lent)

    empty-stays : length p ≡ 0 → Counting lent named first lines (end + 1)
    unfolding p
    empty-stays z = stays (rw (lent-empty lent at h e refl z))

    module _ (some : length p ≡ 0 → ⊥) where
      line : lent_topics (drop at lent) ≡ p ∷ rest
      unfolding p rest
      line = lent-line lent at h e refl some

      old_stays : has p (g.topics ++ named) ≡ true → Counting lent named first lines (end + 1)
      unfolding rest
      old_stays o = stays (sym (ap different (ap (◌++ (g.topics ++ named)) line) ∙ old_first p _ (has_right p rest (g.topics ++ named) o)))

      module _ (new : has p (g.topics ++ named) ≡ false) (room : length g.topics < most_topics) where
        new-different : different ((g.topics ++ p ∷ []) ++ named) ≡ length (g.topics ++ p ∷ []) + first
        new-different =
            rw (append_assoc, length-append, inserted g.topics named p, new-first p (g.topics ++ named) new)
            (omega (arith, g.counts))

        new-comes : different (rest ++ ((g.topics ++ p ∷ []) ++ named)) ≡ different (lent_topics lent ++ named)
        new-comes =
            rw (append_assoc, ← append_assoc) (inserted (rest ++ g.topics) named p ∙ rw append_assoc (rw line at g.comes))

        new-counts : Counting lent named first (with_range lines at end) (end + 1)
        unfolding p rest
        new-counts =
            record {
              topics = g.topics ++ p ∷ [];
              stand = one-stands lent g.stand room at end;
              counts = new-different;
              comes = new-comes;
            }

    -- the step that the code makes
    kept_on : lines.count < most_topics → Counting lent named first (kept lent lines named at end) (end + 1)
    unfolding p
    kept_on room =
        let k : (p ≡ part_of lent at end) = refl in
        ⊎_elim
        (λ z. rw (← kept-empty lent lines named at end k (eqb-true (length p) 0 z)) (empty-stays (eqb-true (length p) 0 z)))
        (λ z.
        let some = eqb-false (length p) 0 z in
        ⊎_elim
        (λ n. rw (← kept-named lent lines named at end k some refl n) (old_stays some (has_right p g.topics named n)))
        (λ n.
        ⊎_elim
        (λ w.
        rw (← kept-before lent lines named at end k some refl n refl w)
        (old_stays some (has_left p g.topics named (rw g.stand.are at w))))
        (λ w.
        rw (← kept_new lent lines named at end k some refl n refl w refl)
        (new-counts some
        (rw (has_append p g.topics named, rw g.stand.are at w) n)
        (omega (arith, g.stand.counted))))
        (told (has p (topics_in lent lines))))
        (told (has p named)))
        (told (eqb (length p) 0))

    pub counting-on : first ≤ most_topics → lines.count < most_topics - first → {x : Ranges} → x ≡ kept lent lines named at end →
        Counting lent named first x (end + 1)
    counting-on most room d = rw d (kept_on (omega arith))

  -- what the code answers: there are eight already, or there are no more lines
  pub counting-full : most_topics - first ≤ lines.count → true ≡ leb most_topics (different (lent_topics lent ++ named))
  counting-full full =
      let all = different-within (g.topics ++ named) (lent_topics (drop at lent) ++ (g.topics ++ named))
      (λ x. has_right x (lent_topics (drop at lent)) (g.topics ++ named)) in
      sym (le-leb most_topics (different (lent_topics lent ++ named)) (omega (arith, all, g.comes, g.counts, g.stand.counted)))

  pub counting-end : first ≤ most_topics → length lent ≤ at →
      leb (most_topics - first) lines.count ≡ leb most_topics (different (lent_topics lent ++ named))
  counting-end most done =
      rest-left first most lines.count (different (lent_topics lent ++ named))
      (omega (arith, rw (lent-end lent at done) at g.comes, g.counts, g.stand.counted))
