-- The name sheet: its lines, when it is well formed (question 3 of document 01), and what they say.
use Rattle.std.specs.Prelude.{ℕ, ◌+◌, List, [], ◌∷◌, Bool, true, false, not, length, ltb, eqb, Option, Some, None}
use Rattle.text.specs.Choice.{pick}
use Rattle.text.specs.Find.{first_at}
use Rattle.text.specs.Split.{split}
use Rattle.sheet.specs.Line.{line_of, name_of}
use Rattle.sheet.specs.declared.line.Line.{Line}
use Rattle.sheet.specs.declared.line.Line.TheVariants.{Primary, Adapter, Party, Row}

-- "lines end with LF, the last may lack it". The CR of document 02, §8, is taken off where a line is read.
abbrev pub lines : List ℕ → List (List ℕ)
lines s = split 0x0A s

-- the offset of the LF that ends the line at an offset, or of the end of s
abbrev pub line_end : List ℕ → ℕ → ℕ
line_end s at = first_at 0x0A s at

-- whether a line says whose the adapter a is
unfoldable pub is_owner_of : ℕ → Option Line → Bool
is_owner_of a (Some (Primary b)) = false
is_owner_of a (Some (Adapter b)) = false
is_owner_of a (Some (Party b party)) = eqb b a
is_owner_of a (Some (Row kind adapter number)) = false
is_owner_of a None = false

-- whether one of these lines does
unfoldable pub has_owner : ℕ → List (List ℕ) → Bool
has_owner a [] = false
has_owner a (l ∷ ls) = pick (is_owner_of a (line_of l)) true (has_owner a ls)

-- a line that may follow the first, by the lines between them: an adapter, a row, or whose an adapter is; "a second such row for one is a bad line"
unfoldable pub may_follow : List (List ℕ) → Option Line → Bool
may_follow earlier (Some (Primary a)) = false
may_follow earlier (Some (Adapter a)) = true
may_follow earlier (Some (Party a party)) = not (has_owner a earlier)
may_follow earlier (Some (Row kind adapter number)) = true
may_follow earlier None = false

-- "Then at most 512 rows"
abbrev pub most_rows : ℕ
most_rows = 512

-- the first line is no row
abbrev pub last_line : ℕ
last_line = most_rows + 1

-- question 3's answer
pub data Sheet : Type 0 where
  well_formed : Sheet
  bad_line_rule : ℕ → Sheet

-- from line n on, which is the first bad line? The earlier lines stand with the last first.
unfoldable pub following_check : ℕ → List (List ℕ) → List (List ℕ) → Sheet
following_check n earlier [] = well_formed
following_check n earlier (l ∷ ls) =
    pick (ltb last_line n) (bad_line_rule n)
    (pick (may_follow earlier (line_of l)) (following_check (n + 1) (l ∷ earlier) ls) (bad_line_rule n))

-- "First `primary,A`."
unfoldable pub is_primary : Option Line → Bool
is_primary (Some (Primary a)) = true
is_primary (Some (Adapter a)) = false
is_primary (Some (Party a party)) = false
is_primary (Some (Row kind adapter number)) = false
is_primary None = false

unfoldable pub lines_check : List (List ℕ) → Sheet
lines_check [] = bad_line_rule 1
lines_check (l ∷ ls) = pick (is_primary (line_of l)) (following_check 2 [] ls) (bad_line_rule 1)

-- "At most 16,384 bytes."
abbrev pub longest_sheet : ℕ
longest_sheet = 16384

-- question 3: well formed, or the first bad line; 0 if the sheet is too long, 1 if it is empty
unfoldable pub sheet_check : List ℕ → Sheet
sheet_check s = pick (ltb longest_sheet (length s)) (bad_line_rule 0) (lines_check (lines s))

-- a row, as it is seen above this layer
pub record Entry : Type 0 where
  pub kind : ℕ
  pub adapter : ℕ
  pub number : ℕ
  pub name : List ℕ

abbrev pub entry_by : Option Line → List ℕ → List Entry → List Entry
entry_by (Some (Primary a)) name es = es
entry_by (Some (Adapter a)) name es = es
entry_by (Some (Party a party)) name es = es
entry_by (Some (Row kind adapter number)) name es = record { kind = kind; adapter = adapter; number = number; name = name } ∷ es
entry_by None name es = es

-- the rows with names, in their order
unfoldable pub entries : List (List ℕ) → List Entry
entries [] = []
entries (l ∷ ls) = entry_by (line_of l) (name_of l) (entries ls)

unfoldable pub is_listing : ℕ → Option Line → Bool
is_listing a (Some (Primary b)) = false
is_listing a (Some (Adapter b)) = eqb b a
is_listing a (Some (Party b party)) = false
is_listing a (Some (Row kind adapter number)) = false
is_listing a None = false

-- "Only `adapter` rows list an adapter"
unfoldable pub lists : ℕ → List (List ℕ) → Bool
lists a [] = false
lists a (l ∷ ls) = pick (is_listing a (line_of l)) true (lists a ls)

abbrev pub primary_by : Option Line → ℕ
primary_by (Some (Primary a)) = a
primary_by (Some (Adapter a)) = 0
primary_by (Some (Party a party)) = 0
primary_by (Some (Row kind adapter number)) = 0
primary_by None = 0

-- the sheet's own primary adapter, which the first line names; 0 where it names none
unfoldable pub primary_line : List (List ℕ) → ℕ
primary_line [] = 0
primary_line (l ∷ ls) = primary_by (line_of l)
