-- The rows of lists, and those of a whole answer.
use Prim.Native.Nat.{ℕ, zero, suc, ◌+◌, ◌<◌, ◌≤◌}
use native.Mathlib.Nat.{add-zero}
use mathlib.Core.Path.{◌≡◌, ◌∙◌}
use mathlib.Core.List.{List}
use lib.ListN.{length}
use borrow.Author.Tests.{lt-ltb, le-ltb}
use Rattle.model.specs.declared.Answer.{Answer}
use Rattle.flat.specs.Flat.{answer_words, row_set, rows_set, with_triggers, with_conditions, head_row, trigger_row, condition_row, first_trigger, first_condition, list_rows, flat}

-- the first n rows of a list are written, one behind the other
abbrev pub rows_to : ℕ → List ℕ → ℕ → (ℕ → List ℕ) → List ℕ
rows_to zero words first row = words
rows_to (suc n) words first row = row_set (rows_to n words first row) (first + n) (row n)

pub all-four : (n : ℕ) (words : List ℕ) (first : ℕ) (row : ℕ → List ℕ) {a : List ℕ} → n ≡ 4 → a ≡ rows_to n words first row →
    a ≡ rows_set words first row
unfolding rows_set
all-four n words first row four e = rw (four, add-zero first) at e

pub no_room_lem : (words : List ℕ) (a : Answer) → length words < answer_words → words ≡ flat words a
unfolding flat
no_room_lem words a h = rw (lt-ltb _ _ h)

pub all-rows : (words : List ℕ) (a : Answer) (f g : ℕ → List ℕ) {r x y z : List ℕ} → answer_words ≤ length words → r ≡ head_row a →
    x ≡ row_set words 0 r → y ≡ rows_set x 1 f → f 0 ≡ trigger_row a.triggers 0 → f 1 ≡ trigger_row a.triggers 1 → f 2 ≡ trigger_row a.triggers 2 →
    f 3 ≡ trigger_row a.triggers 3 → z ≡ rows_set y 5 g → g 0 ≡ condition_row a.conditions 0 → g 1 ≡ condition_row a.conditions 1 →
    g 2 ≡ condition_row a.conditions 2 → g 3 ≡ condition_row a.conditions 3 → z ≡ flat words a
unfolding flat with_triggers with_conditions rows_set first_trigger first_condition list_rows
all-rows words a f g room e h t t0 t1 t2 t3 c c0 c1 c2 c3 = c ∙ rw (c0, c1, c2, c3, t, t0, t1, t2, t3, h, e, le-ltb _ _ room)
