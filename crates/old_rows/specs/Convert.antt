-- Rows converted to triggers (document 02, §10): the whole call, as one function of the party and its primary adapter, the rows and the sheet.
use Rattle.std.specs.Prelude.{ℕ, ◌+◌, ◌-◌, List, [], ◌∷◌, Bool, true, false, length, get_or, ltb, eqb, Option, Some, None, Result, Ok, Err}
use Rattle.text.specs.Choice.{pick}
use Rattle.model.specs.Lists.{accepted_with, refused_with}
use Rattle.model.specs.declared.Ref.{Ref}
use Rattle.model.specs.declared.Trigger.{Trigger}
use Rattle.model.specs.declared.Trigger.TheVariants.{LampTurns, GroupBecomes, DeviceOnline, HttpTrigger}
use Rattle.model.specs.declared.Answer.{Answer}
use Rattle.sheet.specs.Kind.{no_kind, lamp_kind, group_kind, device_kind}
use Rattle.sheet.specs.Sheet.{Sheet, well_formed, bad_line_rule, sheet_check, lines}
use Rattle.sheet.specs.View.{View, seen, own_primary}
use Rattle.sheet.specs.Resolve.{not_found, pick_named}
use Rattle.sheet.specs.declared.resolve.Scope.{Scope}
use Rattle.sheet.specs.declared.resolve.Unfound.{Unfound}
use Rattle.language.specs.Limits.{most_triggers}
use Rattle.language.specs.Read.{rule_call}
use Rattle.old_rows.specs.Row.{row_of, row_name}
use Rattle.old_rows.specs.declared.row.Change.{Change}
use Rattle.old_rows.specs.declared.row.Change.TheVariants.{Lamp, Group, Device, Unknown}
use Rattle.old_rows.specs.declared.row.Row.{Row}

-- ---- the shape of the rows

unfoldable pub is_well : Option Row → Bool
is_well (Some row) = true
is_well None = false

-- "A row ends with LF": so does the last
unfoldable pub is_ended : List ℕ → Bool
is_ended s = eqb (get_or s (length s - 1) 0) 0x0A

-- a row, by whether the last one ends with LF, and those behind it
unfoldable pub is_whole : Bool → List (List ℕ) → Bool
is_whole ended [] = ended
is_whole ended (l ∷ ls) = true

-- "a malformed or fifth row": the first such row from the n-th on; 0 where there is none
unfoldable pub malformed_from : Bool → ℕ → List (List ℕ) → ℕ
malformed_from ended n [] = 0
malformed_from ended n (l ∷ ls) =
    pick (ltb most_triggers n) n
    (pick (is_whole ended ls) (pick (is_well (row_of l)) (malformed_from ended (n + 1) ls) n) n)

unfoldable pub first_malformed : List ℕ → ℕ
first_malformed s = malformed_from (is_ended s) 1 (lines s)

-- ---- the trigger of a row

unfoldable pub changed_kind : Change → ℕ
changed_kind (Lamp power) = lamp_kind
changed_kind (Group state) = group_kind
changed_kind (Device state) = device_kind
changed_kind Unknown = no_kind

-- a lamp turns on or off, a group becomes any_on or all_off, a device goes offline or comes online
unfoldable pub trigger_by : Change → Ref → Trigger
trigger_by (Lamp power) r = LampTurns r power
trigger_by (Group state) r = GroupBecomes r state
trigger_by (Device state) r = DeviceOnline r state
trigger_by Unknown r = HttpTrigger

unfoldable pub is_seen : View → Scope → Bool
is_seen view Scope.Any = true
is_seen view (Scope.On a) = view.listed a

-- "through the name rules (25, then 31 to 34)"
unfoldable pub found_of : View → Change → Scope → List ℕ → Result Ref Unfound
found_of view change scope name = pick (is_seen view scope) (pick_named (changed_kind change) name scope view.rows) (not_found 25 0)

-- what is found, and the change: a row that is malformed is refused before any name is looked up
unfoldable pub found_in : View → Option Row → List ℕ → Result Ref Unfound
found_in view (Some row) name = found_of view row.change row.scope name
found_in view None name = not_found 60 0

unfoldable pub change_in : Option Row → Change
change_in (Some row) = row.change
change_in None = Unknown

-- ---- the rows one by one

-- the triggers, or a refusal at a row
pub data Conversion : Type 0 where
  converted : List Trigger → Conversion
  stopped : ℕ → ℕ → ℕ → Conversion

unfoldable pub onto : Trigger → Conversion → Conversion
onto x (converted xs) = converted (x ∷ xs)
onto x (stopped number row detail) = stopped number row detail

unfoldable pub by_found : ℕ → Change → Result Ref Unfound → Conversion → Conversion
by_found n change (Ok r) others = onto (trigger_by change r) others
by_found n change (Err e) others = stopped e.number n e.detail

-- "row by row (25, then 31 to 34, at the row, column 0)"
unfoldable pub convert_from : View → ℕ → List (List ℕ) → Conversion
convert_from view n [] = converted []
convert_from view n (l ∷ ls) =
    by_found n (change_in (row_of l)) (found_in view (row_of l) (row_name l)) (convert_from view (n + 1) ls)

-- ---- the call

unfoldable pub answered : Conversion → Answer
answered (converted xs) = accepted_with xs []
answered (stopped number row detail) = refused_with number row 0 detail

-- "It refuses a malformed or fifth row, or none, with 60 at the first such row (0 for none), before any name is looked up"
unfoldable pub by_shape : View → List ℕ → Answer
by_shape view s =
    pick (eqb (length s) 0) (refused_with 60 0 0 0)
    (pick (eqb (first_malformed s) 0) (answered (convert_from view 1 (lines s))) (refused_with 60 (first_malformed s) 0 0))

-- document 02, §6: "one that reads no rule text gives 3, then 53, first"
unfoldable pub by_primary : View → List ℕ → Bool → Answer
by_primary view s true = by_shape view s
by_primary view s false = refused_with 53 0 0 0

unfoldable pub by_sheet : View → List ℕ → Bool → Sheet → Answer
by_sheet view s own well_formed = by_primary view s own
by_sheet view s own (bad_line_rule n) = refused_with 3 n 0 0

unfoldable pub rows_of : ℕ → ℕ → List ℕ → List ℕ → Answer
rows_of party primary s sheet = by_sheet (seen (rule_call party primary) sheet) s (own_primary (rule_call party primary) sheet) (sheet_check sheet)
