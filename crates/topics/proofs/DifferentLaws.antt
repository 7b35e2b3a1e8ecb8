-- How many different topics there are depends only on which ones there are, not on their order or on repeats.
use Prim.Native.Nat.{ℕ, ◌+◌, ◌≤◌}
use mathlib.Core.Path.{◌≡◌, ◌∙◌, refl, ap, sym}
use mathlib.Core.List.{List, [], ◌∷◌, ◌++◌}
use mathlib.Core.Bool.{Bool, true, false, false≢true}
use mathlib.Core.Logic.{◌⊎◌, inl, inr, ⊎_elim}
use native.Mathlib.Omega.{arith}
use lib.ListN.{length}
use Rattle.text.specs.Choice.{pick}
use Rattle.text.specs.Part.{same_bytes}
use Rattle.text.proofs.PartLaws.{same_refl, same-eq}
use Rattle.topics.specs.Topics.{has, different}

unlike-by : (a b : List ℕ) (t : Bool) → same_bytes a b ≡ t → (a ≡ b → ⊥) → t ≡ false
unlike-by a b true e f = absurd (f (same-eq a b e))
unlike-by a b false e f = refl

-- the comparison says no of different rows
pub unlike : (a b : List ℕ) → (a ≡ b → ⊥) → same_bytes a b ≡ false
unlike a b = unlike-by a b (same_bytes a b) refl

-- one of two tests
or_assoc : (t u v : Bool) → pick t true (pick u true v) ≡ pick (pick t true u) true v
or_assoc true u v = refl
or_assoc false u v = refl

or_cases : (t : Bool) {u : Bool} → pick t true u ≡ true → (t ≡ true) ⊎ (u ≡ true)
or_cases true e = inl refl
or_cases false e = inr e

or_right : (t : Bool) {u : Bool} → u ≡ true → pick t true u ≡ true
or_right true e = refl
or_right false e = e

-- a topic among these: the first, a later one, or one of two lists
pub has_here : (x : List ℕ) (l : List (List ℕ)) → has x (x ∷ l) ≡ true
unfolding has
has_here x l = rw same_refl

pub has-later : (x y : List ℕ) (l : List (List ℕ)) → has x l ≡ true → has x (y ∷ l) ≡ true
unfolding has
has-later x y l h = or_right (same_bytes y x) h

first_by : {x y : List ℕ} {A : Type 0} → (same_bytes y x ≡ true) ⊎ A → (y ≡ x) ⊎ A
first_by (inl e) = inl (same-eq _ _ e)
first_by (inr h) = inr h

pub has-cases : (x y : List ℕ) (l : List (List ℕ)) → has x (y ∷ l) ≡ true → (y ≡ x) ⊎ (has x l ≡ true)
unfolding has
has-cases x y l h = first_by (or_cases (same_bytes y x) h)

pub has_append : (x : List ℕ) (l m : List (List ℕ)) → has x (l ++ m) ≡ pick (has x l) true (has x m)
unfolding has
has_append x [] m = refl
has_append x (y ∷ l) m = rw (has_append x l m) (or_assoc (same_bytes y x) (has x l) (has x m))

pub has_left : (x : List ℕ) (l m : List (List ℕ)) → has x l ≡ true → has x (l ++ m) ≡ true
has_left x l m h = rw (has_append x l m, h)

pub has_right : (x : List ℕ) (l m : List (List ℕ)) → has x m ≡ true → has x (l ++ m) ≡ true
has_right x l m h = rw (has_append x l m) (or_right (has x l) h)

pub has_either : (x : List ℕ) (l m : List (List ℕ)) → has x (l ++ m) ≡ true → (has x l ≡ true) ⊎ (has x m ≡ true)
has_either x l m h = or_cases (has x l) (rw (has_append x l m) at h)

-- a test holds, or it does not
pub told : (t : Bool) → (t ≡ true) ⊎ (t ≡ false)
told true = inl refl
told false = inr refl

pub never : {A : Type 0} {t : Bool} → t ≡ true → t ≡ false → A
never h k = absurd (false≢true (sym k ∙ h))

-- the list without a topic
without : List ℕ → List (List ℕ) → List (List ℕ)
without x [] = []
without x (y ∷ l) = pick (same_bytes y x) (without x l) (y ∷ without x l)

module _ (x : List ℕ) where
  without-yes : (y : List ℕ) (l : List (List ℕ)) → same_bytes y x ≡ true → without x (y ∷ l) ≡ without x l
  unfolding without
  without-yes y l e = rw e

  without-no : (y : List ℕ) (l : List (List ℕ)) → same_bytes y x ≡ false → without x (y ∷ l) ≡ y ∷ without x l
  unfolding without
  without-no y l e = rw e

  without-none : (l : List (List ℕ)) → has x l ≡ false → without x l ≡ l
  unfolding has without
  without-none [] h = refl
  without-none (y ∷ l) h =
      ⊎_elim
      (λ e. never refl (rw e at h))
      (λ e. rw e (ap (λ (m : List (List ℕ)). y ∷ m) (without-none l (rw e at h))))
      (told (same_bytes y x))

  -- another one is among what is left as before
  has-without : (z : List ℕ) → (x ≡ z → ⊥) → (l : List (List ℕ)) → has z (without x l) ≡ has z l
  unfolding has without
  has-without z f [] = refl
  has-without z f (y ∷ l) =
      ⊎_elim
      (λ e. rw (without-yes y l e, unlike y z (λ d. f (sym (same-eq y x e) ∙ d))) (has-without z f l))
      (λ e. rw (without-no y l e, has-without z f l))
      (told (same_bytes y x))

  -- one is less there
  different-without : (l : List (List ℕ)) → has x l ≡ true → different l ≡ different (without x l) + 1
  unfolding has without different
  different-without [] h = never h refl
  different-without (y ∷ l) h =
      ⊎_elim
      (λ e.
      rw (without-yes y l e, same-eq y x e)
      (⊎_elim
      (λ a. rw a (different-without l a))
      (λ a. rw (without-none l a, a))
      (told (has x l))))
      (λ e.
      let r = different-without l (rw e at h) in
      rw (without-no y l e, has-without y (λ d. never (rw d (same_refl y)) e) l)
      (⊎_elim (λ a. rw a r) (λ a. rw a (omega arith)) (told (has y l))))
      (told (same_bytes y x))

-- each topic of one list is in the other
abbrev pub Within : List (List ℕ) → List (List ℕ) → Type 0
Within l m = (x : List ℕ) → has x l ≡ true → has x m ≡ true

-- then it has no more different ones
pub different-within : (l m : List (List ℕ)) → Within l m → different l ≤ different m
unfolding different
different-within [] m f = omega arith
different-within (x ∷ l) m f =
    ⊎_elim
    (λ a. rw a (different-within l m (λ y h. f y (has-later y x l h))))
    (λ a.
    let r = different-within l (without x m) (λ y h. rw (has-without x y (λ d. never h (rw d at a)) m) (f y (has-later y x l h))) in
    rw a (omega (arith, different-without x m (f x (has_here x l)))))
    (told (has x l))

pub swapped : (l m : List (List ℕ)) → Within (l ++ m) (m ++ l)
swapped l m x h = ⊎_elim (has_right x m l) (has_left x m l) (has_either x l m h)

-- the same topics, in whatever order and however often: as many different ones
pub same-different : (l m : List (List ℕ)) → Within l m → Within m l → different l ≡ different m
same-different l m f g = omega (arith, different-within l m f, different-within m l g)

-- one topic more, at either end, counts if it is new
pub new-first : (x : List ℕ) (l : List (List ℕ)) → has x l ≡ false → different (x ∷ l) ≡ different l + 1
unfolding different
new-first x l h = rw h

pub old_first : (x : List ℕ) (l : List (List ℕ)) → has x l ≡ true → different (x ∷ l) ≡ different l
unfolding different
old_first x l h = rw h

pub turned : (l m : List (List ℕ)) → different (l ++ m) ≡ different (m ++ l)
turned l m = same-different (l ++ m) (m ++ l) (swapped l m) (swapped m l)

pub new-last : (x : List ℕ) (l : List (List ℕ)) → has x l ≡ false → different (l ++ x ∷ []) ≡ different l + 1
new-last x l h = turned l (x ∷ []) ∙ new-first x l h

pub old_last : (x : List ℕ) (l : List (List ℕ)) → has x l ≡ true → different (l ++ x ∷ []) ≡ different l
old_last x l h = turned l (x ∷ []) ∙ old_first x l h

-- a topic may be taken from its place to the front
module _ (l m : List (List ℕ)) (x : List ℕ) where
  to_front : Within (l ++ x ∷ m) (x ∷ l ++ m)
  to_front y h =
      ⊎_elim
      (λ k. has-later y x (l ++ m) (has_left y l m k))
      (λ k. ⊎_elim (λ e. rw (← e) (has_here x (l ++ m))) (λ w. has-later y x (l ++ m) (has_right y l m w)) (has-cases y x m k))
      (has_either y l (x ∷ m) h)

  from_front : Within (x ∷ l ++ m) (l ++ x ∷ m)
  from_front y h =
      ⊎_elim
      (λ e. has_right y l (x ∷ m) (rw (← e) (has_here x m)))
      (λ k. ⊎_elim (has_left y l (x ∷ m)) (λ w. has_right y l (x ∷ m) (has-later y x m w)) (has_either y l m k))
      (has-cases y x (l ++ m) h)

  pub inserted : different (l ++ x ∷ m) ≡ different (x ∷ l ++ m)
  inserted = same-different (l ++ x ∷ m) (x ∷ l ++ m) to_front from_front

-- a list without repeats
pub data Distinct : List (List ℕ) → Type 0 where
  none : Distinct []
  more : {x : List ℕ} {l : List (List ℕ)} → has x l ≡ false → Distinct l → Distinct (x ∷ l)

distinct-all : {l : List (List ℕ)} → Distinct l → different l ≡ length l
unfolding different
distinct-all none = refl
distinct-all (more h d) = rw h (omega (arith, distinct-all d))

-- so many different ones are what any list of the same topics without repeats has
pub different-is : (l : List (List ℕ)) {m : List (List ℕ)} → Distinct m → Within l m → Within m l → different l ≡ length m
different-is l {m} d f g = same-different l m f g ∙ distinct-all d
