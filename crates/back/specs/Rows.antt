-- Whether twelve words are the row of an entry: whether the entry that is read back from them has this row. So a kind or code that nothing has, and a word that
-- is not 0 and that the form does not name, make it no row.
use Rattle.std.specs.Prelude.{ℕ, ◌<◌, ◌^◌, ◌≡◌, Bool, true, List}
use Rattle.text.specs.Part.{same_bytes}
use Rattle.flat.specs.Flat.{trigger_words, condition_words, whole_row}
use Rattle.flat.specs.Back.{word, trigger_back, condition_back}

unfoldable pub is_trigger_row : List ℕ → Bool
is_trigger_row row = same_bytes (whole_row (trigger_words (trigger_back row))) row

unfoldable pub is_condition_row : List ℕ → Bool
is_condition_row row = same_bytes (whole_row (condition_words (condition_back row))) row

-- words of 32 bits
abbrev pub Words : List ℕ → Type 0
Words row = (i : ℕ) → word row i < 2 ^ 32

-- an entry that words can tell (flat/specs/Held.antt) and that has this row
pub record RowOf {A : Type 0} (words : A → List ℕ) (Held : A → Type 0) (row : List ℕ) : Type 0 where
  pub entry : A
  pub held : Held entry
  pub same : row ≡ whole_row (words entry)

-- r says whether there is one
pub record SaysRow {A : Type 0} (words : A → List ℕ) (Held : A → Type 0) (row : List ℕ) (r : Bool) : Type 0 where
  pub yes : r ≡ true → RowOf words Held row
  pub only : RowOf words Held row → r ≡ true
