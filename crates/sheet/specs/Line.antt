-- What a line of the name sheet says (document 01, "The name sheet"): `primary,A`, `adapter,A` or `K,A,N,name`; and, by document 02, §6, `party,A,P`.
-- Where a line ends and what a name is are document 02, §8.
use Rattle.std.specs.Prelude.{ℕ, ◌≡◌, ◌+◌, ◌-◌, ◌*◌, List, [], ◌∷◌, Bool, true, false, length, take, drop, get_or, ltb, leb, eqb, Option, Some, None, option_and_then}
use Rattle.text.specs.Find.{index_of}
use Rattle.text.specs.Choice.{pick, within}
use Rattle.text.specs.Literal.{ascii}
use Rattle.text.specs.Part.{same_bytes}
use Rattle.text.specs.Ascii.{is_digit}
use Rattle.model.specs.Limits.{last_adapter, last_party, longest_name}
use Rattle.sheet.specs.Kind.{kind_of, most_of}
use Rattle.sheet.specs.declared.line.Line.{Line}
use Rattle.sheet.specs.declared.line.Line.TheVariants.{Primary, Adapter, Party, Row}

-- "From now on one CR directly before LF or the end of the sheet belongs to the line end": a line without it
unfoldable pub without_return : List ℕ → List ℕ
without_return l = pick (eqb (get_or l (length l - 1) 0) 0x0D) (take (length l - 1) l) l

-- "Fields are parted by commas": a line's first field, what stands behind its comma, and whether there is one
unfoldable pub field : List ℕ → List ℕ
field l = take (index_of 0x2C l) l

unfoldable pub rest : List ℕ → List ℕ
rest l = drop (index_of 0x2C l + 1) l

unfoldable pub has_comma : List ℕ → Bool
has_comma l = ltb (index_of 0x2C l) (length l)

-- f and r are the first field and what stands behind its comma, which is there
pub record Parted (l f r : List ℕ) : Type 0 where
  pub comma : has_comma l ≡ true
  pub first : f ≡ field l
  pub behind : r ≡ rest l

-- a number up to 999 in decimal with no leading zero, if the bytes are one
unfoldable pub digits_on : ℕ → List ℕ → Option ℕ
digits_on v [] = Some v
digits_on v (c ∷ l) = pick (is_digit c) (pick (ltb 999 (v * 10 + (c - 0x30))) None (digits_on (v * 10 + (c - 0x30)) l)) None

unfoldable pub numeral : List ℕ → Option ℕ
numeral [] = None
numeral (c ∷ l) = pick (eqb c 0x30) (pick (eqb (length l) 0) (Some 0) None) (digits_on 0 (c ∷ l))

-- "A name has 1 to 48 bytes" (document 01); "a name has no quote, LF or other CR" (document 02, §8). A line has no LF.
unfoldable pub is_mark : ℕ → Bool
is_mark c = pick (eqb c 0x22) true (eqb c 0x0D)

unfoldable pub plain : List ℕ → Bool
plain [] = true
plain (c ∷ l) = pick (is_mark c) false (plain l)

unfoldable pub is_name : List ℕ → Bool
is_name l = pick (within 1 longest_name (length l)) (plain l) false

-- A,N,name of a kind
unfoldable pub checked_row : ℕ → ℕ → ℕ → List ℕ → Option Line
checked_row kind adapter number name =
    pick (leb adapter last_adapter) (pick (leb number (most_of kind)) (pick (is_name name) (Some (Row kind adapter number)) None) None) None

unfoldable pub read_row : ℕ → List ℕ → Option Line
read_row kind l =
    pick (has_comma l)
    (pick (has_comma (rest l))
    (option_and_then (λ a. option_and_then (λ n. checked_row kind a n (rest (rest l))) (numeral (field (rest l)))) (numeral (field l)))
    None)
    None

-- "A is 0 to 255"
unfoldable pub primary_of : ℕ → Option Line
primary_of a = pick (leb a last_adapter) (Some (Primary a)) None

unfoldable pub adapter_of : ℕ → Option Line
adapter_of a = pick (leb a last_adapter) (Some (Adapter a)) None

-- document 02, §6: "Rows `party,A,P` (P 0 to 255)"
unfoldable pub party_by : ℕ → ℕ → Option Line
party_by a p = pick (leb a last_adapter) (pick (leb p last_party) (Some (Party a p)) None) None

unfoldable pub party_of : List ℕ → Option Line
party_of l = pick (has_comma l) (option_and_then (λ a. option_and_then (party_by a) (numeral (rest l))) (numeral (field l))) None

-- a line by its first field w and what is behind it
unfoldable pub line_by : List ℕ → List ℕ → Option Line
line_by w l =
    pick (same_bytes w (ascii "primary")) (option_and_then primary_of (numeral l))
    (pick (same_bytes w (ascii "adapter")) (option_and_then adapter_of (numeral l))
    (pick (same_bytes w (ascii "party")) (party_of l)
    (option_and_then (λ kind. read_row kind l) (kind_of w))))

-- a line without its CR: what it says, and the name of a row's line, which "runs to the line end, commas included" from behind the third comma
unfoldable pub bare_line : List ℕ → Option Line
bare_line l = pick (has_comma l) (line_by (field l) (rest l)) None

unfoldable pub bare_name : List ℕ → List ℕ
bare_name l = rest (rest (rest l))

unfoldable pub line_of : List ℕ → Option Line
line_of l = bare_line (without_return l)

unfoldable pub name_of : List ℕ → List ℕ
name_of l = bare_name (without_return l)
