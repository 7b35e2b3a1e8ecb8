-- The code's way to the rows: they are made apart from the lent buffer, which a refusal leaves as it was. Nothing here need be believed.
use Rattle.std.specs.Prelude.{ℕ, ◌≤◌, ◌≡◌, List, length, Result, Ok, Err}
use Rattle.model.specs.declared.TriggerRow.{TriggerRow}
use Rattle.sheet.specs.View.{View}
use Rattle.spelling.specs.Put.{Put}
use Rattle.writing.specs.Writing.{failing}
use Rattle.old_rows.specs.Back.{is_named, rows_for}

-- how many bytes four rows have at most
abbrev pub most_bytes : ℕ
most_bytes = 272

-- the ordinal of the first trigger without a name, 0 where each has one
abbrev pub unnamed_in : Result ℕ ℕ → ℕ
unnamed_in (Ok size) = 0
unnamed_in (Err ordinal) = ordinal

-- the bytes of all rows, or the first trigger without a name
pub record RowsMade (view : View) (xs : List TriggerRow) (r : Result ℕ ℕ) (before made : List ℕ) : Type 0 where
  pub first : unnamed_in r ≡ failing (is_named view) 1 xs
  pub put : (n : ℕ) → r ≡ Ok n → Put before 0 (rows_for view xs) made n
  pub short : (n : ℕ) → r ≡ Ok n → n ≤ most_bytes
  pub some : (n : ℕ) → r ≡ Err n → 1 ≤ n
  pub long : length made ≡ most_bytes
