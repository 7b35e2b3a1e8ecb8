-- "Only `adapter` rows list an adapter", said of the lines of a sheet themselves.
use Rattle.std.specs.Prelude.{ℕ, ◌≡◌, List, ◌∷◌, Some}
use Rattle.sheet.specs.Line.{line_of}
use Rattle.sheet.specs.declared.line.Line.TheVariants.{Adapter}

-- one of the lines is `adapter,A`
pub data Listed (a : ℕ) : List (List ℕ) → Type 0 where
  here : {l : List ℕ} {ls : List (List ℕ)} → line_of l ≡ Some (Adapter a) → Listed a (l ∷ ls)
  later : {l : List ℕ} {ls : List (List ℕ)} → Listed a ls → Listed a (l ∷ ls)
