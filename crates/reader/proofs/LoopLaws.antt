-- The loop of a section: forms behind a word, put one after the other into a list of four.
use Prim.Native.Nat.{ℕ, zero, suc, ◌+◌, ◌-◌, ◌<◌}
use native.Mathlib.Omega.{arith}
use mathlib.Core.Path.{◌≡◌, refl, sym, ap, ◌∙◌}
use mathlib.Core.Bool.{Bool, true, false}
use mathlib.Core.List.{List, [], ◌∷◌, ◌++◌, append_assoc, append-nil}
use lib.ListN.{length, length-append}
use Rattle.tokens.specs.Result.{Res, ok, no, bind, refuse}
use Rattle.tokens.specs.Cursor.{Tok, is_word, accepted}
use Rattle.tokens.specs.declared.cursor.Cursor.{Cursor}
use Rattle.tokens.specs.declared.cursor.Refusal.{Refusal}
use Rattle.language.specs.Section.{repeated}
use Rattle.std.specs.Prelude.{Option, Some, None}

-- entries xs before those that are answered
abbrev pub onto : {A : Type 0} → List A → Res (List A) → Res (List A)
onto xs m = bind m (λ ys j. ok (xs ++ ys) j)

onto-none : {A : Type 0} (m : Res (List A)) → m ≡ onto [] m
onto-none (ok ys j) = refl
onto-none (no r) = refl

onto-more : {A : Type 0} (xs : List A) (x : A) (m : Res (List A)) → onto xs (bind m (λ ys j. ok (x ∷ ys) j)) ≡ onto (xs ++ (x ∷ [])) m
onto-more xs x (ok ys j) = ap (λ zs. ok zs j) (sym (append_assoc xs (x ∷ []) ys))
onto-more xs x (no r) = refl

abbrev pred : ℕ → ℕ
pred zero = zero
pred (suc n) = n

pred-is : (n : ℕ) → pred n ≡ n - 1
pred-is zero = refl
pred-is (suc n) = omega arith

-- L holds lists of A, with a count
module _ {S A L : Type 0} (of : List A → L) (with : L → A → L) (count : L → ℕ) (counts : (xs : List A) → count (of xs) ≡ length xs)
    (puts : (xs : List A) (x : A) → length xs < 4 → with (of xs) x ≡ of (xs ++ (x ∷ [])))
    (t : ℕ → Tok) (word : List ℕ) (number : ℕ) (form : S → ℕ → Res A) (after : S → A → S) where
  -- the list holds the entries so far, s is what is known of them, and what is left from i on gives the whole answer
  pub record Going (whole : Res (List A)) (list : L) (s : S) (i : ℕ) : Type 0 where
    pub entries : List A
    pub left : ℕ
    pub room : left + length entries ≡ 4
    pub stored : list ≡ of entries
    pub same : whole ≡ onto entries (repeated t word number form after s left i)

  pub begin : (s : S) (i : ℕ) {list : L} → list ≡ of [] → Going (repeated t word number form after s 4 i) list s i
  begin s i e = record { entries = []; left = 4; room = refl; stored = e; same = onto-none _ }

  pub begin_with : (s : S) (x : A) (i : ℕ) {list : L} → list ≡ of (x ∷ []) →
      Going (bind (repeated t word number form after s 3 i) (λ ys j. ok (x ∷ ys) j)) list s i
  begin_with s x i e = record { entries = x ∷ []; left = 3; room = refl; stored = e; same = refl }

  module _ {whole : Res (List A)} {list : L} {s : S} {i : ℕ} (g : Going whole list s i) where
    -- no such word: the list is the answer
    pub at_last : is_word t word i ≡ false → whole ≡ ok g.entries i
    unfolding repeated
    at_last e = g.same ∙ by g.left
      where
        by : (n : ℕ) → onto g.entries (repeated t word number form after s n i) ≡ ok g.entries i
        by zero = rw (e) (ap (λ zs. ok zs i) (append-nil g.entries))
        by (suc n) = rw (e) (ap (λ zs. ok zs i) (append-nil g.entries))

    full : count list ≡ length g.entries
    full = ap count g.stored ∙ counts g.entries

    -- the word once more than four times
    pub too_many_lem : is_word t word i ≡ true → count list ≡ 4 → whole ≡ refuse number i
    unfolding repeated
    too_many_lem e f = g.same ∙ by g.left (let r = g.room in let c = full in omega arith)
      where
        by : (n : ℕ) → n ≡ 0 → onto g.entries (repeated t word number form after s n i) ≡ refuse number i
        by zero z = rw (e)
        by (suc n) z = absurd (omega arith)

    module _ (e : is_word t word i ≡ true) (f : count list ≡ 4 → ⊥) where
      -- a form behind the word
      turned : whole ≡
          onto g.entries (bind (form s (i + 1)) (λ x k. bind (repeated t word number form after (after s x) (pred g.left) k) (λ ys j. ok (x ∷ ys) j)))
      unfolding repeated
      turned = g.same ∙ by g.left (λ z. f (let r = g.room in let c = full in omega arith))
        where
          by : (n : ℕ) → (n ≡ 0 → ⊥) → onto g.entries (repeated t word number form after s n i) ≡
              onto g.entries (bind (form s (i + 1)) (λ x k. bind (repeated t word number form after (after s x) (pred n) k) (λ ys j. ok (x ∷ ys) j)))
          by zero z = absurd (z refl)
          by (suc n) z = rw (e)

      pub one_refused : {r : Refusal} → form s (i + 1) ≡ no r → whole ≡ no r
      one_refused h = turned ∙ rw (h)

      pub one_more : {x : A} {k : ℕ} {more : L} → form s (i + 1) ≡ ok x k → more ≡ with list x → Going whole more (after s x) k
      one_more {x} {k} h m =
          record {
            entries = g.entries ++ (x ∷ []);
            left = pred g.left;
            room =
                let r = g.room in
                let c = full in
                let size = length-append g.entries (x ∷ []) in
                let one = pred-is g.left in
                omega arith;
            stored = m ∙ ap (λ l. with l x) g.stored ∙ puts g.entries x (let r = g.room in let c = full in omega arith);
            same = turned ∙ rw (h) (onto-more g.entries x (repeated t word number form after (after s x) (pred g.left) k));
          }

-- what the test for an optional token shows
abbrev index_of : Option Cursor → ℕ
index_of (Some c) = c.index
index_of None = 0

never : {c : Cursor} → Some c ≡ None → ⊥
never e = let z : ◌≡◌ {A = ℕ} 1 0 = ap tag e in omega arith
  where
    tag : Option Cursor → ℕ
    tag (Some c) = 1
    tag None = 0

pub was_left : (b : Bool) (i : ℕ) {a : Option Cursor} → a ≡ accepted b i → a ≡ None → b ≡ false
unfolding accepted
was_left true i e m = absurd (never (sym e ∙ m))
was_left false i e m = refl

pub was_there : (b : Bool) (i : ℕ) {a : Option Cursor} {c : Cursor} → a ≡ accepted b i → a ≡ Some c → (b ≡ true) × (c.index ≡ i + 1)
unfolding accepted
was_there true i e m = (refl, ap index_of (sym m ∙ e))
was_there false i e m = absurd (never (sym m ∙ e))
