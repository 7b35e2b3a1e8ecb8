-- The first entry of a list that fails a test, from one entry on.
use Prim.Native.Nat.{ℕ, ◌+◌, ◌<◌, ◌≤◌}
use mathlib.Core.Path.{◌≡◌, ◌∙◌, sym}
use mathlib.Core.List.{List, map}
use mathlib.Core.Bool.{Bool, true, false}
use native.Mathlib.Nat.{add-zero, add_assoc}
use native.Mathlib.Numerals.{add-one}
use lib.ListN.{length, get_or, drop, drop_of_length-le, length-map}
use lib.Seq.{drop-cons}
use Rattle.text.specs.Choice.{pick}
use Rattle.writing.specs.Writing.{failing}

-- an array's length, which the code knows of its elements' values
pub array_length : {A B : Type 0} (f : A → B) (l : List A) (n : ℕ) → length (map f l) ≡ n → length l ≡ n
array_length f l n e = sym (length-map l f) ∙ e

module _ {A : Type 0} (test : A → Bool) (from : ℕ) (rows : List A) where
  pub passed_none : failing test (from + 0) rows ≡ failing test from rows
  passed_none = rw add-zero

  module _ (i : ℕ) (left : failing test (from + i) (drop i rows) ≡ failing test from rows) where
    module _ (here : i < length rows) (unused : A) {r : Bool} (said : r ≡ test (get_or rows i unused)) where
      step : failing test (from + i) (drop i rows) ≡ pick r (failing test (from + (i + 1)) (drop (i + 1) rows)) (from + i)
      unfolding failing
      step = rw (drop-cons rows i unused here, ← said, add_assoc from i 1, add-one i)

      pub passed_on : r ≡ true → failing test (from + (i + 1)) (drop (i + 1) rows) ≡ failing test from rows
      passed_on h = sym (step ∙ rw h) ∙ left

      pub passed-not : r ≡ false → from + i ≡ failing test from rows
      passed-not h = sym (step ∙ rw h) ∙ left

    pub passed-all : length rows ≤ i → 0 ≡ failing test from rows
    unfolding failing
    passed-all past = rw (drop_of_length-le rows past) at left
