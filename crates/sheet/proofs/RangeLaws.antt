-- What the lines of a sheet say is in range: "A is 0 to 255, N at most 63 (15 for group)".
use Prim.Native.Nat.{ℕ, ◌≤◌}
use native.Mathlib.Omega.{arith}
use mathlib.Core.Path.{subst}
use mathlib.Core.Bool.{Bool}
use mathlib.Core.List.{List, [], ◌∷◌}
use lib.Dec.{leb}
use borrow.Author.Tests.{leb-true}
use Rattle.std.specs.Prelude.{Option, Some, None}
use Rattle.text.specs.Part.{same_bytes}
use Rattle.text.specs.Literal.{ascii}
use Rattle.text.proofs.Tests.{picked}
use Rattle.model.specs.Limits.{last_adapter, last_party}
use Rattle.sheet.specs.Kind.{kind_of, most_of}
use Rattle.sheet.specs.Line.{without_return, field, rest, has_comma, numeral, is_name, checked_row, read_row, primary_of, adapter_of, party_by, party_of, line_by, bare_line, line_of, name_of}
use Rattle.sheet.specs.Sheet.{Entry, lines, entry_by, entries, primary_by, primary_line}
use Rattle.sheet.specs.Party.{entries_on}
use Rattle.sheet.specs.View.{View, seen}
use Rattle.sheet.specs.declared.Call.{Call}
use Rattle.sheet.specs.Picks.{Picks, past, here}
use Rattle.sheet.specs.declared.line.Line.{Line}
use Rattle.sheet.specs.declared.line.Line.TheVariants.{Primary, Adapter, Party, Row}
use Rattle.sheet.specs.declared.resolve.Scope.{Scope}
use Rattle.sheet.proofs.LineLaws.{given}

-- a line with its adapter and its number in range
unfoldable pub LineInRange : Option Line → Type 0
LineInRange (Some (Primary a)) = a ≤ last_adapter
LineInRange (Some (Adapter a)) = a ≤ last_adapter
LineInRange (Some (Party a party)) = a ≤ last_adapter
LineInRange (Some (Row kind a n)) = (a ≤ last_adapter) × (n ≤ most_of kind)
LineInRange None = Unit {0}

bad : LineInRange None
unfolding LineInRange
bad = tt

primary_in : (a : ℕ) → LineInRange (primary_of a)
unfolding primary_of LineInRange
primary_in a = picked LineInRange (leb a last_adapter) (λ e. leb-true _ _ e) (λ e. tt)

adapter_in : (a : ℕ) → LineInRange (adapter_of a)
unfolding adapter_of LineInRange
adapter_in a = picked LineInRange (leb a last_adapter) (λ e. leb-true _ _ e) (λ e. tt)

party_by_in : (a party : ℕ) → LineInRange (party_by a party)
unfolding party_by LineInRange
party_by_in a party =
    picked LineInRange (leb a last_adapter)
    (λ e. picked LineInRange (leb party last_party) (λ f. leb-true _ _ e) (λ f. tt))
    (λ e. tt)

party_in : (l : List ℕ) → LineInRange (party_of l)
unfolding party_of
party_in l = picked LineInRange (has_comma l)
    (λ e. given LineInRange _ (numeral (field l)) bad (λ a _. given LineInRange _ (numeral (rest l)) bad (λ p _. party_by_in a p)))
    (λ e. bad)

checked_in : (kind a n : ℕ) (name : List ℕ) → LineInRange (checked_row kind a n name)
unfolding checked_row LineInRange
checked_in kind a n name =
    picked LineInRange (leb a last_adapter)
    (λ e.
    picked LineInRange (leb n (most_of kind))
    (λ f. picked LineInRange (is_name name) (λ g. (leb-true _ _ e, leb-true _ _ f)) (λ g. tt))
    (λ f. tt))
    (λ e. tt)

row_in : (kind : ℕ) (l : List ℕ) → LineInRange (read_row kind l)
unfolding read_row
row_in kind l =
    picked LineInRange (has_comma l)
    (λ e. picked LineInRange (has_comma (rest l)) (λ f. given LineInRange _ (numeral (field l)) bad (λ a _. given LineInRange _ (numeral (field (rest l))) bad (λ n _. checked_in kind a n _))) (λ f. bad))
    (λ e. bad)

by_in : (w l : List ℕ) → LineInRange (line_by w l)
unfolding line_by
by_in w l =
    picked LineInRange (same_bytes w (ascii "primary")) (λ e. given LineInRange _ (numeral l) bad (λ a _. primary_in a))
    (λ e.
    picked LineInRange (same_bytes w (ascii "adapter")) (λ f. given LineInRange _ (numeral l) bad (λ a _. adapter_in a))
    (λ f.
    picked LineInRange (same_bytes w (ascii "party")) (λ g. party_in l)
    (λ g. given LineInRange _ (kind_of w) bad (λ kind _. row_in kind l))))

bare_in : (l : List ℕ) → LineInRange (bare_line l)
unfolding bare_line
bare_in l = picked LineInRange (has_comma l) (λ e. by_in (field l) (rest l)) (λ e. bad)

pub line_in : (l : List ℕ) → LineInRange (line_of l)
unfolding line_of
line_in l = bare_in (without_return l)

-- every row is in range
pub data RowsInRange : List Entry → Type 0 where
  no_row : RowsInRange []
  a_row : {e : Entry} {es : List Entry} → e.adapter ≤ last_adapter → e.number ≤ most_of e.kind → RowsInRange es → RowsInRange (e ∷ es)

entry_in : (l : Option Line) (name : List ℕ) (es : List Entry) → LineInRange l → RowsInRange es → RowsInRange (entry_by l name es)
unfolding LineInRange
entry_in (Some (Primary a)) name es h g = g
entry_in (Some (Adapter a)) name es h g = g
entry_in (Some (Party a party)) name es h g = g
entry_in (Some (Row kind a n)) name es h g = a_row h.0 h.1 g
entry_in None name es h g = g

pub rows_in : (ls : List (List ℕ)) → RowsInRange (entries ls)
unfolding entries
rows_in [] = no_row
rows_in (l ∷ ls) = entry_in (line_of l) (name_of l) (entries ls) (line_in l) (rows_in ls)

pub rows_on_in : (own : ℕ → Bool) {es : List Entry} → RowsInRange es → RowsInRange (entries_on own es)
unfolding entries_on
rows_on_in own no_row = no_row
rows_on_in own (a_row {e} a n h) =
    picked RowsInRange (own e.adapter) (λ _. a_row a n (rows_on_in own h)) (λ _. rows_on_in own h)

by_primary_lem : (l : Option Line) → LineInRange l → primary_by l ≤ last_adapter
unfolding LineInRange
by_primary_lem (Some (Primary a)) h = h
by_primary_lem (Some (Adapter a)) h = omega arith
by_primary_lem (Some (Party a party)) h = omega arith
by_primary_lem (Some (Row kind a n)) h = omega arith
by_primary_lem None h = omega arith

-- the sheet's own primary adapter, too
pub primary_line_in : (ls : List (List ℕ)) → primary_line ls ≤ last_adapter
unfolding primary_line
primary_line_in [] = omega arith
primary_line_in (l ∷ ls) = by_primary_lem (line_of l) (line_in l)

-- what a call sees of its sheet: the primary adapter and every row are in range
pub record ViewInRange (view : View) : Type 0 where
  pub primary : view.primary ≤ last_adapter
  pub rows : RowsInRange view.rows

pub view_in : (call : Call) (s : List ℕ) → call.primary ≤ last_adapter → ViewInRange (seen call s)
unfolding seen
view_in call s h = record { primary = h; rows = rows_on_in _ (rows_in (lines s)) }

-- and so is the row that a name picks, with the range of its kind
pub picked_in : {kind : ℕ} {name : List ℕ} {scope : Scope} {es : List Entry} {e : Entry} → RowsInRange es → Picks kind name scope es e →
    (e.adapter ≤ last_adapter) × (e.number ≤ most_of kind)
picked_in {kind = kind} {name = name} {scope = scope} {e = e} no_row p = elim p [ ]
picked_in (a_row a n h) (past x p) = picked_in h p
picked_in (a_row {e} a n h) (here s w) = (a, subst (λ (k : ℕ). e.number ≤ most_of k) s.same_kind n)
