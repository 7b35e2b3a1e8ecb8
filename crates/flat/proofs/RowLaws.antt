-- Rows: what a copy of their words leaves, their comparison, and words that make the same row.
use Prim.Native.Nat.{ℕ, zero, suc, ◌+◌, ◌*◌, ◌-◌, ◌/◌, ◌<◌, ◌≤◌}
use mathlib.Core.Path.{◌≡◌, refl, ◌∙◌, ap, sym}
use mathlib.Core.Bool.{Bool, true, false, ◌&&◌}
use mathlib.Core.List.{List, [], ◌∷◌, ◌++◌, append_assoc}
use lib.Dec.{eqb}
use lib.ListN.{length, get_or, take, drop}
use lib.Pointwise.{pointwise}
use lib.Seq.{sets-eq, drop-drop}
use borrow.Author.Tests.{lt-ltb, le-ltb}
use borrow.Rule.Slice.PartMut.{put_mid}
use native.Mathlib.Omega.{arith}
use Rattle.text.specs.Choice.{pick}
use Rattle.text.specs.Part.{same_bytes}
use Rattle.model.specs.Lists.{padded}
use Rattle.model.specs.declared.Value.{Value}
use Rattle.flat.specs.Flat.{value_words, row_words, whole_row, row_set}

-- a row's words copied to their place
pub row_stored : (ws xs : List ℕ) (row : ℕ) {ys : List ℕ} → row < length xs / 12 → length ws ≡ 12 → ys ≡ ws →
    put_mid (row * 12) (row * 12 + 12 - row * 12) xs ys ≡ row_set xs row ws
unfolding row_set row_words
row_stored ws xs row h l e =
    ap (λ (zs : List ℕ). take (row * 12) xs ++ (zs ++ drop (row * 12 + 12 - row * 12) (drop (row * 12) xs))) e
    ∙ ap (λ (k : ℕ). take (row * 12) xs ++ (ws ++ drop k (drop (row * 12) xs))) count
    ∙ ap (λ (zs : List ℕ). take (row * 12) xs ++ (ws ++ zs)) (drop-drop (length ws) (row * 12) xs)
    ∙ sym (append_assoc (take (row * 12) xs) ws (drop (row * 12 + length ws) xs))
    ∙ sym (sets-eq ws xs (row * 12) (omega arith))
    ∙ rw (lt-ltb _ _ h)
  where
    count : row * 12 + 12 - row * 12 ≡ length ws
    count = omega arith

-- a row for which there is no room
pub row_past : (ws xs : List ℕ) (row : ℕ) → length xs / 12 ≤ row → xs ≡ row_set xs row ws
unfolding row_set row_words
row_past ws xs row h = rw (le-ltb _ _ h)

-- words copied over the first of n zeros
over-zeros : (n : ℕ) (ws : List ℕ) → length ws ≤ n →
    ws ++ drop (length ws) (padded (λ (k : ℕ). k) 0 n []) ≡ padded (λ (k : ℕ). k) 0 n ws
unfolding padded
over-zeros n [] h = refl
over-zeros zero (w ∷ ws) h = absurd (omega arith)
over-zeros (suc n) (w ∷ ws) h = ap (λ (l : List ℕ). w ∷ l) (over-zeros n ws (omega arith))

pub row_filled : (ws : List ℕ) {ys : List ℕ} → length ws ≤ 12 → ys ≡ ws →
    ys ++ drop (length ws) (0 ∷ 0 ∷ 0 ∷ 0 ∷ 0 ∷ 0 ∷ 0 ∷ 0 ∷ 0 ∷ 0 ∷ 0 ∷ 0 ∷ []) ≡ whole_row ws
unfolding whole_row row_words padded
row_filled ws h e = rw e (over-zeros 12 ws h)

-- what `==` says of two rows
pub same_rows : (xs ys : List ℕ) → pointwise eqb xs ys ≡ same_bytes xs ys
unfolding same_bytes
same_rows [] [] = refl
same_rows [] (y ∷ ys) = refl
same_rows (x ∷ xs) [] = refl
same_rows (x ∷ xs) (y ∷ ys) = by (eqb x y) (same_rows xs ys)
  where
    by : (t : Bool) → pointwise eqb xs ys ≡ same_bytes xs ys → t && pointwise eqb xs ys ≡ pick t (same_bytes xs ys) false
    by true h = h
    by false h = refl

-- seven words, read one by one
seven : (ws : List ℕ) → length ws ≡ 7 →
    get_or ws 0 0 ∷ get_or ws 1 0 ∷ get_or ws 2 0 ∷ get_or ws 3 0 ∷ get_or ws 4 0 ∷ get_or ws 5 0 ∷ get_or ws 6 0 ∷ [] ≡ ws
seven [] h = absurd (omega arith)
seven (a ∷ []) h = absurd (omega arith)
seven (a ∷ b ∷ []) h = absurd (omega arith)
seven (a ∷ b ∷ c ∷ []) h = absurd (omega arith)
seven (a ∷ b ∷ c ∷ d ∷ []) h = absurd (omega arith)
seven (a ∷ b ∷ c ∷ d ∷ e ∷ []) h = absurd (omega arith)
seven (a ∷ b ∷ c ∷ d ∷ e ∷ f ∷ []) h = absurd (omega arith)
seven (a ∷ b ∷ c ∷ d ∷ e ∷ f ∷ g ∷ []) h = refl
seven (a ∷ b ∷ c ∷ d ∷ e ∷ f ∷ g ∷ x ∷ xs) h = absurd (omega arith)

-- the words of a value, read one by one
pub value_read : (v : Value) (ws : List ℕ) → ws ≡ value_words v → length ws ≡ 7 →
    get_or ws 0 0 ∷ get_or ws 1 0 ∷ get_or ws 2 0 ∷ get_or ws 3 0 ∷ get_or ws 4 0 ∷ get_or ws 5 0 ∷ get_or ws 6 0 ∷ [] ≡ value_words v
value_read v ws e h = seven ws h ∙ e

-- the same words, and zeros behind those of the second
pub data Alike : List ℕ → List ℕ → Type 0 where
  ends : Alike [] []
  zero_more : {xs : List ℕ} → Alike xs [] → Alike (0 ∷ xs) []
  word : {a b : ℕ} {xs ys : List ℕ} → a ≡ b → Alike xs ys → Alike (a ∷ xs) (b ∷ ys)

alike-padded : (n : ℕ) {xs ys : List ℕ} → Alike xs ys → padded (λ (k : ℕ). k) 0 n xs ≡ padded (λ (k : ℕ). k) 0 n ys
unfolding padded
alike-padded zero h = refl
alike-padded (suc n) ends = refl
alike-padded (suc n) (zero_more h) = ap (λ (l : List ℕ). 0 ∷ l) (alike-padded n h)
alike-padded (suc n) (word e h) = rw (e, alike-padded n h)

pub row-alike : {w xs ys : List ℕ} → w ≡ whole_row xs → Alike xs ys → w ≡ whole_row ys
unfolding whole_row
row-alike e h = e ∙ alike-padded row_words h

-- a row whose twelve words are known is whole
pub row_of : {a b c d e f g h i j k l : ℕ} {ys : List ℕ} → Alike (a ∷ b ∷ c ∷ d ∷ e ∷ f ∷ g ∷ h ∷ i ∷ j ∷ k ∷ l ∷ []) ys →
    a ∷ b ∷ c ∷ d ∷ e ∷ f ∷ g ∷ h ∷ i ∷ j ∷ k ∷ l ∷ [] ≡ whole_row ys
unfolding whole_row row_words padded
row_of h = row-alike refl h
