-- Whose an adapter is (document 02, §6), and what of a sheet is one party's.
use Rattle.std.specs.Prelude.{ℕ, ◌≤◌, ◌≡◌, List, [], ◌∷◌, Bool, eqb, Option, Some, None}
use Rattle.text.specs.Choice.{pick}
use Rattle.model.specs.Limits.{last_adapter}
use Rattle.sheet.specs.Line.{line_of, name_of}
use Rattle.sheet.specs.Sheet.{Entry, lines}
use Rattle.sheet.specs.declared.line.Line.{Line}
use Rattle.sheet.specs.declared.line.Line.TheVariants.{Primary, Adapter, Party, Row}

unfoldable pub owner_by : ℕ → Option Line → ℕ → ℕ
owner_by a (Some (Primary b)) other = other
owner_by a (Some (Adapter b)) other = other
owner_by a (Some (Party b party)) other = pick (eqb b a) party other
owner_by a (Some (Row kind adapter number)) other = other
owner_by a None other = other

-- "Rows `party,A,P` say whose an adapter is; without one it is party 0's". A well-formed sheet has at most one for an adapter.
unfoldable pub owner_of : ℕ → List (List ℕ) → ℕ
owner_of a [] = 0
owner_of a (l ∷ ls) = owner_by a (line_of l) (owner_of a ls)

-- which adapters are the party's
unfoldable pub owns : ℕ → List (List ℕ) → ℕ → Bool
owns party ls a = eqb (owner_of a ls) party

-- "Only rows on the party's adapters are candidates"
unfoldable pub entries_on : (ℕ → Bool) → List Entry → List Entry
entries_on own [] = []
entries_on own (e ∷ es) = pick (own e.adapter) (e ∷ entries_on own es) (entries_on own es)

-- a row of an adapter: one that lists it, or one with a name
pub data OwnRow : Type 0 where
  adapter_row : ℕ → OwnRow
  named_row : Entry → OwnRow

abbrev pub own_row_by : (ℕ → Bool) → Option Line → List ℕ → List OwnRow → List OwnRow
own_row_by own (Some (Primary a)) name rows = rows
own_row_by own (Some (Adapter a)) name rows = pick (own a) (adapter_row a ∷ rows) rows
own_row_by own (Some (Party a party)) name rows = rows
own_row_by own (Some (Row kind adapter number)) name rows =
    pick (own adapter) (named_row (record { kind = kind; adapter = adapter; number = number; name = name }) ∷ rows) rows
own_row_by own None name rows = rows

-- the rows of these adapters, in their order
unfoldable pub own_rows : (ℕ → Bool) → List (List ℕ) → List OwnRow
own_rows own [] = []
own_rows own (l ∷ ls) = own_row_by own (line_of l) (name_of l) (own_rows own ls)

-- "two accepted sheets that agree on which adapters are the party's, and on those adapters' rows in their order"
pub record Agree (party : ℕ) (s t : List ℕ) : Type 0 where
  pub same_adapters : (a : ℕ) → a ≤ last_adapter → owns party (lines s) a ≡ owns party (lines t) a
  pub same_rows : own_rows (owns party (lines s)) (lines s) ≡ own_rows (owns party (lines t)) (lines t)
