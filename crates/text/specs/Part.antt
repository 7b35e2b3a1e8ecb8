-- Parts of byte slices, and their comparison.
use Rattle.std.specs.Prelude.{ℕ, ◌-◌, ◌<◌, List, [], ◌∷◌, Bool, true, false, length, get_or, take, drop, ◌≡◌, eqb}
use Rattle.text.specs.Choice.{pick}

-- the bytes from an offset up to another: none where the first is not below the second; what lies past the end is left out
unfoldable pub part_of : List ℕ → ℕ → ℕ → List ℕ
part_of s start end = take (end - start) (drop start s)

-- whether two rows of bytes have the same length and the same bytes
unfoldable pub same_bytes : List ℕ → List ℕ → Bool
same_bytes [] [] = true
same_bytes [] (b ∷ m) = false
same_bytes (a ∷ l) [] = false
same_bytes (a ∷ l) (b ∷ m) = pick (eqb a b) (same_bytes l m) false

-- two parts of the same length and bytes: the same byte stands at every offset
pub record SameParts (a b : List ℕ) : Type 0 where
  pub long : length a ≡ length b
  pub bytes : (i : ℕ) → i < length a → get_or a i 0 ≡ get_or b i 0

-- document 02 §4: "The comparison promises yes exactly for two parts of the same length and bytes, whatever they are"
pub record SaysSame (a b : List ℕ) (r : Bool) : Type 0 where
  pub yes : r ≡ true → SameParts a b
  pub only : SameParts a b → r ≡ true
