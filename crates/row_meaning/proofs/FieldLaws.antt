-- Bytes that are put together at a byte that they do not have: a field and its comma, rows and their LF.
use Prim.Native.Nat.{ℕ, suc, ◌+◌, ◌-◌, ◌≤◌, ◌<◌}
use native.Mathlib.Omega.{arith}
use mathlib.Core.Path.{◌≡◌, ◌∙◌, refl, ap}
use mathlib.Core.Bool.{Bool, true, false}
use mathlib.Core.List.{List, [], ◌∷◌, ◌++◌}
use lib.ListN.{length, length-append}
use lib.Seq.{take-append_seam, drop-append-add, get_or-append-add}
use lib.Dec.{eqb}
use borrow.Author.Tests.{lt-ltb, ltb-false, eq-eqb, ne_eqb, eqb-false}
use Rattle.text.specs.Find.{index_of, index_after}
use Rattle.text.specs.Split.{onto, split}
use Rattle.tokens.specs.Rules.{Without}
use Rattle.model.specs.Ranges.{Each}
use Rattle.sheet.specs.Line.{field, rest, has_comma}
use Rattle.old_rows.specs.Convert.{is_ended}

-- ---- where the byte stands

index_seam : {b : ℕ} {w : List ℕ} (l : List ℕ) → Without b w → index_of b (w ++ b ∷ l) ≡ length w
unfolding index_of index_after
index_seam {b} l Without.none = rw (eq-eqb b b refl)
index_seam {b} l (Without.more {d} n h) = rw (ne_eqb d b n, index_seam l h)

-- it does not stand in bytes of which the search finds the end
none-by : {b c : ℕ} {l : List ℕ} (t : Bool) → eqb c b ≡ t → suc (length l) ≤ index_after t (index_of b l) → (length l ≤ index_of b l → Without b l) →
    Without b (c ∷ l)
unfolding index_after
none-by true e h k = absurd (omega arith)
none-by {b} {c} false e h k = Without.more (eqb-false c b e) (k (omega arith))

index-none : (b : ℕ) (l : List ℕ) → length l ≤ index_of b l → Without b l
unfolding index_of
index-none b [] h = Without.none
index-none b (c ∷ l) h = none-by (eqb c b) refl h (index-none b l)

pub comma-free : (l : List ℕ) → has_comma l ≡ false → Without 0x2C l
unfolding has_comma
comma-free l e = index-none 0x2C l (ltb-false _ _ e)

-- ---- a field, its comma, and what is behind it

module _ {w : List ℕ} (free : Without 0x2C w) (l : List ℕ) where
  pub field_seam : field (w ++ 0x2C ∷ l) ≡ w
  unfolding field
  field_seam = rw (index_seam l free) (take-append_seam w (0x2C ∷ l))

  pub rest_seam : rest (w ++ 0x2C ∷ l) ≡ l
  unfolding rest
  rest_seam = rw (index_seam l free) (drop-append-add w (0x2C ∷ l) 1)

  pub comma_seam : has_comma (w ++ 0x2C ∷ l) ≡ true
  unfolding has_comma
  comma_seam = rw (index_seam l free) (lt-ltb (length w) (length (w ++ 0x2C ∷ l)) (simp length-append (omega arith)))

-- ---- rows that each end with LF

unfoldable pub ended : List (List ℕ) → List ℕ
ended [] = []
ended (l ∷ ls) = l ++ 0x0A ∷ ended ls

split_seam : {b : ℕ} {w : List ℕ} (l : List ℕ) → Without b w → split b (w ++ b ∷ l) ≡ w ∷ split b l
unfolding split
split_seam {b} l Without.none = rw (eq-eqb b b refl)
split_seam {b} l (Without.more {d} n h) = rw (ne_eqb d b n) (ap (onto d) (split_seam l h))

pub ended-lines : {ls : List (List ℕ)} → Each (Without 0x0A) ls → split 0x0A (ended ls) ≡ ls
unfolding ended split
ended-lines Each.none = refl
ended-lines (Each.more {x = l} {xs = ls} h hs) = split_seam (ended ls) h ∙ ap (λ (ms : List (List ℕ)). l ∷ ms) (ended-lines hs)

pub ended_some : (l : List ℕ) (ls : List (List ℕ)) → 0 < length (ended (l ∷ ls))
unfolding ended
ended_some l ls = simp length-append (omega arith)

-- only the last byte counts
behind-ended : (a l : List ℕ) → 0 < length l → is_ended (a ++ l) ≡ is_ended l
unfolding is_ended
behind-ended a l h =
    let last : length (a ++ l) - 1 ≡ length a + (length l - 1) = simp length-append (omega arith) in
    rw (last, get_or-append-add a l (length l - 1) 0)

pub ended-ends : (l : List ℕ) (ls : List (List ℕ)) → is_ended (ended (l ∷ ls)) ≡ true
unfolding ended is_ended
ended-ends l [] = behind-ended l (0x0A ∷ []) (omega arith)
ended-ends l (m ∷ ls) =
    behind-ended l (0x0A ∷ ended (m ∷ ls)) (omega arith) ∙ behind-ended (0x0A ∷ []) (ended (m ∷ ls)) (ended_some m ls) ∙ ended-ends m ls
