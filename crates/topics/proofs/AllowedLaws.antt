-- No topic of a text is too many when it is met exactly if the whole list is allowed; and only which topics stand matters, not where.
use Prim.Native.Nat.{ℕ, ◌+◌, ◌<◌, ◌≤◌}
use mathlib.Core.Path.{◌≡◌, ◌∙◌, refl, sym}
use mathlib.Core.List.{List, [], ◌∷◌, ◌++◌, append-nil, append_assoc}
use mathlib.Core.Bool.{Bool, true, false}
use mathlib.Core.Logic.{◌⊎◌, inl, inr, ⊎_elim, ◌↔◌}
use native.Mathlib.Omega.{arith}
use lib.Dec.{leb}
use borrow.Author.Tests.{lt-leb, leb-false}
use Rattle.text.specs.Choice.{pick}
use Rattle.text.proofs.Tests.{picked, pick_same}
use Rattle.topics.specs.Topics.{has, different, most_topics, Allowed, too_many, fits}
use Rattle.topics.specs.Topics.Allowed.{all_lent, few}
use Rattle.topics.proofs.DifferentLaws.{Within, has_here, has-later, has-cases, has_append, has_left, has_right, has_either, told, never, different-within, same-different, swapped, new-first}

-- lent or named earlier: for the step it is the same
new : List (List ℕ) → List ℕ → Bool
new all topic = pick (has topic all) false (leb most_topics (different all))

join-tests : (t u v : Bool) → pick t false (pick u false v) ≡ pick (pick t true u) false v
join-tests true u v = refl
join-tests false u v = refl

too_many-of : (lent earlier : List (List ℕ)) (topic : List ℕ) → too_many lent earlier topic ≡ new (lent ++ earlier) topic
unfolding too_many new
too_many-of lent earlier topic =
    rw (has_append topic lent earlier) (join-tests (has topic lent) (has topic earlier) (leb most_topics (different (lent ++ earlier))))

fits_all : List (List ℕ) → List (List ℕ) → Bool
fits_all all [] = true
fits_all all (x ∷ xs) = pick (new all x) false (fits_all (all ++ x ∷ []) xs)

fits-of : (lent earlier named : List (List ℕ)) → fits lent earlier named ≡ fits_all (lent ++ earlier) named
unfolding fits fits_all
fits-of lent earlier [] = refl
fits-of lent earlier (x ∷ xs) = rw (too_many-of, fits-of lent (earlier ++ x ∷ []) xs, append_assoc)

alone : (x t : List ℕ) → has t (x ∷ []) ≡ true → x ≡ t
unfolding has
alone x t h = ⊎_elim (λ e. e) (λ k. never k refl) (has-cases t x [] h)

-- the same topics, in whatever order and however often
pub record Alike (l m : List (List ℕ)) : Type 0 where
  pub there : Within l m
  pub back : Within m l

by_both : (t u : Bool) → (t ≡ true → u ≡ true) → (u ≡ true → t ≡ true) → t ≡ u
by_both true u f g = sym (f refl)
by_both false true f g = g refl
by_both false false f g = refl

new-alike : {l m : List (List ℕ)} → Alike l m → (x : List ℕ) → new l x ≡ new m x
unfolding new
new-alike {l} {m} a x =
    rw (by_both (has x l) (has x m) (a.there x) (a.back x), same-different l m a.there a.back)

more_within : (l m n : List (List ℕ)) → Within l m → Within (l ++ n) (m ++ n)
more_within l m n f x h = ⊎_elim (λ k. has_left x m n (f x k)) (has_right x m n) (has_either x l n h)

fits_all-alike : (named : List (List ℕ)) {l m : List (List ℕ)} → Alike l m → fits_all l named ≡ fits_all m named
unfolding fits_all
fits_all-alike [] a = refl
fits_all-alike (x ∷ xs) {l} {m} a =
    let n = x ∷ [] in
    rw (new-alike a x, fits_all-alike xs (record { there = more_within l m n a.there; back = more_within m l n a.back }))

-- where the lent and the earlier ones together are the same topics, the step and the steps behind it are the same
module _ (lent earlier lent' earlier' : List (List ℕ)) (a : Alike (lent ++ earlier) (lent' ++ earlier')) where
  pub too_many-alike : (topic : List ℕ) → too_many lent earlier topic ≡ too_many lent' earlier' topic
  too_many-alike topic = too_many-of lent earlier topic ∙ new-alike a topic ∙ sym (too_many-of lent' earlier' topic)

  pub fits-alike : (named : List (List ℕ)) → fits lent earlier named ≡ fits lent' earlier' named
  fits-alike named = fits-of lent earlier named ∙ fits_all-alike named a ∙ sym (fits-of lent' earlier' named)

-- lent or named earlier is the same
pub too_many_lent : (lent first earlier : List (List ℕ)) (topic : List ℕ) → too_many (lent ++ first) earlier topic ≡ too_many lent (first ++ earlier) topic
too_many_lent lent first earlier topic =
    too_many-of (lent ++ first) earlier topic ∙ rw append_assoc (sym (too_many-of lent (first ++ earlier) topic))

-- so are earlier ones in another order, and a repeat among them
behind-within : (l m n : List (List ℕ)) → Within m n → Within (l ++ m) (l ++ n)
behind-within l m n f x h = ⊎_elim (has_left x l n) (λ k. has_right x l n (f x k)) (has_either x l m h)

pub alike-behind : (lent : List (List ℕ)) {l m : List (List ℕ)} → Alike l m → Alike (lent ++ l) (lent ++ m)
alike-behind lent {l} {m} a = record { there = behind-within lent l m a.there; back = behind-within lent m l a.back }

pub alike-swapped : (l m : List (List ℕ)) → Alike (l ++ m) (m ++ l)
alike-swapped l m = record { there = swapped l m; back = swapped m l }

pub alike-repeated : (l : List (List ℕ)) (x : List ℕ) → has x l ≡ true → Alike (l ++ x ∷ []) l
alike-repeated l x h =
    record { there = λ t k. ⊎_elim (λ w. w) (λ w. rw (alone x t w) at h) (has_either t l (x ∷ []) k); back = λ t. has_left t l (x ∷ []) }

-- what a step that is not too many says: the topic stands already, or there is room
Room : List (List ℕ) → List ℕ → Type 0
Room all x = (has x all ≡ true) ⊎ (different all < most_topics)

no_second : (t : Bool) {u : Bool} → pick t false u ≡ false → (t ≡ true) ⊎ (u ≡ false)
no_second true e = inl refl
no_second false e = inr e

neither : (t : Bool) {u : Bool} → pick t false u ≡ true → (t ≡ false) × (u ≡ true)
neither true e = never e refl
neither false e = (refl, e)

module _ (all : List (List ℕ)) (x : List ℕ) where
  room : new all x ≡ false → Room all x
  unfolding new Room
  room e = ⊎_elim inl (λ h. inr (leb-false most_topics (different all) h)) (no_second (has x all) e)

  not_new : Room all x → new all x ≡ false
  unfolding new Room
  not_new (inl h) = rw h
  not_new (inr h) = rw (lt-leb most_topics (different all) h) (pick_same (has x all) false)

  front : (t : List ℕ) → x ≡ t → has t (x ∷ all) ≡ true
  front t e = rw (← e) (has_here x all)

  -- one topic more is at most one different one more
  one_more : different (x ∷ all) ≤ different all + 1
  unfolding different
  one_more = picked (λ (n : ℕ). n ≤ different all + 1) (has x all) (λ h. omega arith) (λ h. omega arith)

  module _ (xs : List (List ℕ)) where
    step : Room all x → Allowed (all ++ x ∷ []) xs → Allowed all (x ∷ xs)
    unfolding Room
    step h (few k) = few (rw append_assoc at k)
    step (inl h) (all_lent f) =
        all_lent
        (λ t m.
        ⊎_elim (λ e. rw e at h) (λ k. ⊎_elim (λ w. w) (λ w. rw (alone x t w) at h) (has_either t all (x ∷ []) (f t k))) (has-cases t x xs m))
    step (inr h) (all_lent f) =
        few
        (omega (
          arith,
          one_more,
          different-within (all ++ x ∷ xs) (x ∷ all)
              (λ t m.
              ⊎_elim
              (has-later t x all)
              (λ k. ⊎_elim (front t) (λ w. ⊎_elim (has-later t x all) (λ v. front t (alone x t v)) (has_either t all (x ∷ []) (f t w))) (has-cases t x xs k))
              (has_either t all (x ∷ xs) m)),
        ))

    among : Within (x ∷ all) (all ++ x ∷ xs)
    among t m =
        ⊎_elim (λ e. has_right t all (x ∷ xs) (rw (← e) (has_here x xs))) (has_left t all (x ∷ xs)) (has-cases t x all m)

    back_step : Allowed all (x ∷ xs) → Room all x × Allowed (all ++ x ∷ []) xs
    unfolding Room
    back_step (all_lent f) = (inl (f x (has_here x xs)), all_lent (λ t m. has_left t all (x ∷ []) (f t (has-later t x xs m))))
    back_step (few k) = (
      ⊎_elim inl (λ h. inr (omega (arith, new-first x all h, different-within (x ∷ all) (all ++ x ∷ xs) among))) (told (has x all)),
      few (rw append_assoc k),
    )

all_sound : (named all : List (List ℕ)) → fits_all all named ≡ true → Allowed all named
unfolding fits_all has
all_sound [] all e = all_lent (λ t h. never h refl)
all_sound (x ∷ xs) all e =
    let n = neither (new all x) e in
    step all x xs (room all x n.0) (all_sound xs (all ++ x ∷ []) n.1)

all-complete : (named all : List (List ℕ)) → Allowed all named → fits_all all named ≡ true
unfolding fits_all
all-complete [] all a = refl
all-complete (x ∷ xs) all a =
    let b = back_step all x xs a in
    rw (not_new all x b.0) (all-complete xs (all ++ x ∷ []) b.1)

-- no topic is too many when it is met exactly if the list is allowed, after earlier ones as if those were lent
pub fits-sound : (lent earlier named : List (List ℕ)) → fits lent earlier named ≡ true → Allowed (lent ++ earlier) named
fits-sound lent earlier named e = all_sound named (lent ++ earlier) (sym (fits-of lent earlier named) ∙ e)

pub fits-complete : (lent earlier named : List (List ℕ)) → Allowed (lent ++ earlier) named → fits lent earlier named ≡ true
fits-complete lent earlier named a = fits-of lent earlier named ∙ all-complete named (lent ++ earlier) a

-- topics that fit, and then others behind them
then-more : (b u v w : Bool) → v ≡ pick u w false → pick b false v ≡ pick (pick b false u) w false
then-more true u v w e = refl
then-more false u v w e = e

pub fits-append : (lent earlier named more : List (List ℕ)) →
    fits lent earlier (named ++ more) ≡ pick (fits lent earlier named) (fits lent (earlier ++ named) more) false
unfolding fits
fits-append lent earlier [] more = rw append-nil
fits-append lent earlier (x ∷ named) more =
    then-more (too_many lent earlier x) _ _ _ (fits-append lent (earlier ++ x ∷ []) named more ∙ rw append_assoc)

-- the same of a whole text
pub fits-allowed : (lent named : List (List ℕ)) → (fits lent [] named ≡ true) ↔ Allowed lent named
fits-allowed lent named =
    (λ e. rw append-nil at (fits-sound lent [] named e), λ a. fits-complete lent [] named (rw append-nil a))
