-- The code's way to `pick_named`, in one pass over the rows. Nothing here need be believed: `found-tally` shows that it comes to the same.
use Rattle.std.specs.Prelude.{ℕ, ◌+◌, ◌-◌, ◌≡◌, List, [], ◌∷◌, Bool, true, false, length, drop, eqb, Option, Some, None, Result, Ok}
use Rattle.text.specs.Choice.{pick}
use Rattle.text.specs.Part.{same_bytes}
use Rattle.text.specs.Place.{counted}
use Rattle.sheet.specs.Line.{line_of, name_of}
use Rattle.model.specs.declared.Ref.{Ref}
use Rattle.sheet.specs.Sheet.{Entry, lines, entries}
use Rattle.sheet.specs.Party.{entries_on}
use Rattle.sheet.specs.Resolve.{is_candidate, is_in, not_found}
use Rattle.sheet.specs.declared.line.Line.{Line}
use Rattle.sheet.specs.declared.line.Line.TheVariants.{Primary, Adapter, Party, Row}
use Rattle.sheet.specs.declared.resolve.Scope.{Scope}
use Rattle.sheet.specs.declared.resolve.Unfound.{Unfound}
use Rattle.sheet.specs.declared.resolve.Scoped.{Scoped}
use Rattle.sheet.specs.declared.resolve.Tally.{Tally}

-- one candidate more in scope
unfoldable pub scoped_on : Option Scoped → Ref → Scoped
scoped_on None row = record { row = row; count = 1; spans = false }
scoped_on (Some x) row =
    record { row = x.row; count = counted (x.count + 1); spans = pick (eqb row.adapter x.row.adapter) x.spans true }

-- one candidate more, in scope or not: what is known of those that were seen
abbrev pub first_on : Option ℕ → ℕ → Option ℕ
first_on None adapter = Some adapter
first_on (Some a) adapter = Some a

unfoldable pub tallied : Scope → Tally → ℕ → ℕ → Tally
tallied scope t adapter number =
    record {
      first = first_on t.first adapter;
      scoped = pick (is_in scope adapter) (Some (scoped_on t.scoped (record { adapter = adapter; number = number }))) t.scoped;
    }

unfoldable pub tally : ℕ → List ℕ → Scope → Tally → List Entry → Tally
tally kind name scope t [] = t
tally kind name scope t (e ∷ es) =
    tally kind name scope (pick (is_candidate kind name e) (tallied scope t e.adapter e.number) t) es

-- the same for one line: it is a candidate on one of the party's own adapters, or it changes nothing
abbrev pub line_tally_by : (ℕ → Bool) → ℕ → List ℕ → Scope → Tally → List ℕ → Option Line → Tally
line_tally_by own kind name scope t written (Some (Row k adapter number)) =
    pick (eqb k kind) (pick (own adapter) (pick (same_bytes written name) (tallied scope t adapter number) t) t) t
line_tally_by own kind name scope t written (Some (Primary a)) = t
line_tally_by own kind name scope t written (Some (Adapter a)) = t
line_tally_by own kind name scope t written (Some (Party a party)) = t
line_tally_by own kind name scope t written None = t

unfoldable pub line_tally : (ℕ → Bool) → ℕ → List ℕ → Scope → Tally → List ℕ → Tally
line_tally own kind name scope t l = line_tally_by own kind name scope t (name_of l) (line_of l)

abbrev pub no_tally : Tally
no_tally = record { first = None; scoped = None }

-- whether a line ends with a name, which is asked before the line is read
unfoldable pub ends_with : List ℕ → List ℕ → Bool
ends_with l name = same_bytes (drop (length l - length name) l) name

-- no row between two offsets has the name: those from both on come to the same
abbrev pub Passed : List ℕ → List ℕ → ℕ → ℕ → Type 0
Passed name s from at =
    (own : ℕ → Bool) (kind : ℕ) (scope : Scope) (t : Tally) →
    tally kind name scope t (entries_on own (entries (lines (drop at s)))) ≡ tally kind name scope t (entries_on own (entries (lines (drop from s))))

-- by the candidates in scope, and the adapter of the first in any
abbrev pub found_among : Option Scoped → Option ℕ → Result Ref Unfound
found_among None None = not_found 31 0
found_among None (Some adapter) = not_found 32 adapter
found_among (Some t) first = pick (eqb t.count 1) (Ok t.row) (not_found (pick t.spans 34 33) t.count)

unfoldable pub found_by : Tally → Result Ref Unfound
found_by t = found_among t.scoped t.first
