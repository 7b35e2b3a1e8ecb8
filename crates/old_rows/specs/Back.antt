-- A list converted back to rows (document 02, §10): the whole call, with every byte of the buffer at exit, as one function of the party and its primary
-- adapter, the sheet, the lists and the buffer. Of the conditions only their count plays a part.
use Rattle.std.specs.Prelude.{ℕ, ◌+◌, List, [], ◌∷◌, ◌++◌, Bool, true, false, not, length, take, ltb, eqb}
use Rattle.text.specs.Choice.{pick, within}
use Rattle.text.specs.Literal.{ascii}
use Rattle.model.specs.declared.Power.TheVariants.{On, Off}
use Rattle.model.specs.declared.Aggregate.TheVariants.{AnyOn, AllOff}
use Rattle.model.specs.declared.Online.TheVariants.{GoesOffline, ComesOnline}
use Rattle.model.specs.declared.Ref.{Ref}
use Rattle.model.specs.declared.Trigger.{Trigger}
use Rattle.model.specs.declared.TriggerRow.{TriggerRow}
use Rattle.model.specs.declared.Triggers.{Triggers}
use Rattle.sheet.specs.Line.{has_comma}
use Rattle.sheet.specs.Sheet.{Sheet, well_formed, bad_line_rule, sheet_check}
use Rattle.sheet.specs.View.{View, seen, own_primary}
use Rattle.sheet.specs.Resolve.{pick_named}
use Rattle.sheet.specs.Names.{names_for, is_found}
use Rattle.sheet.specs.declared.resolve.Scope.{Scope}
use Rattle.sheet.specs.declared.names.Numbered.{Numbered}
use Rattle.language.specs.Limits.{most_triggers}
use Rattle.language.specs.Read.{rule_call}
use Rattle.writing.specs.Pieces.{decimal}
use Rattle.writing.specs.Writing.{Outcome, refused_at, written_with, failing}
use Rattle.old_rows.specs.Row.{is_known}
use Rattle.old_rows.specs.Convert.{changed_kind}
use Rattle.old_rows.specs.declared.row.Change.{Change}
use Rattle.old_rows.specs.declared.row.Change.TheVariants.{Lamp, Group, Device, Unknown}
use Rattle.old_rows.specs.declared.restore.Changed.{Changed}

-- "going back, a buffer under 512 bytes with 54"
abbrev pub least_bytes : ℕ
least_bytes = 512

-- ---- what a trigger says

unfoldable pub changed_by : Change → Ref → Changed
changed_by change r =
    record { change = change; of = record { kind = changed_kind change; adapter = r.adapter; number = r.number } }

-- a change and of which lamp, group or device; of every other trigger the change is unknown
unfoldable pub other : Changed
other = changed_by Unknown (record { adapter = 0; number = 0 })

unfoldable pub changed_of : Trigger → Changed
changed_of (Trigger.LampTurns r power) = changed_by (Lamp power) r
changed_of (Trigger.GroupBecomes r state) = changed_by (Group state) r
changed_of (Trigger.DeviceOnline r state) = changed_by (Device state) r
changed_of (Trigger.InputEvent selector event) = other
changed_of (Trigger.InputOccupancy r state) = other
changed_of (Trigger.InputLightCross r crossing threshold) = other
changed_of (Trigger.InputPositionChange r) = other
changed_of (Trigger.InputDevicePowerCycled r) = other
changed_of (Trigger.InputDeviceManualConfigChanged r) = other
changed_of (Trigger.AtTime minutes days) = other
changed_of (Trigger.AtSolar event offset days) = other
changed_of (Trigger.Every ms) = other
changed_of (Trigger.LampLevelCross r crossing threshold) = other
changed_of (Trigger.SceneRecalled adapter scene) = other
changed_of (Trigger.HclOverride target state) = other
changed_of (Trigger.TimerFires name) = other
changed_of Trigger.ControllerStarts = other
changed_of Trigger.ControllerBecomesActive = other
changed_of (Trigger.RuleFails name) = other
changed_of Trigger.HttpTrigger = other
changed_of (Trigger.MqttMessage name) = other

-- ---- the name of a reference

-- "which, with that adapter named, picks that reference and has no comma"
unfoldable pub is_fitting : View → Numbered → List ℕ → Bool
is_fitting view of name =
    pick (has_comma name) false (is_found of (pick_named of.kind name (Scope.On of.adapter) view.rows))

unfoldable pub first_fitting : View → Numbered → List (List ℕ) → List ℕ
first_fitting view of [] = []
first_fitting view of (name ∷ names) = pick (is_fitting view of name) name (first_fitting view of names)

-- "the name and A are those of the first sheet row on a listed adapter": no bytes where there is no such row
unfoldable pub name_back : View → Numbered → List ℕ
name_back view of = pick (view.listed of.adapter) (first_fitting view of (names_for of view.rows)) []

-- ---- the rows

-- "`K,name,A,word`": a kind with its comma; the word of what becomes of it, behind a comma. "A row ends with LF"
unfoldable pub kind_word : Change → List ℕ
kind_word (Lamp power) = ascii "lamp,"
kind_word (Group state) = ascii "group,"
kind_word (Device state) = ascii "device,"
kind_word Unknown = []

unfoldable pub change_word : Change → List ℕ
change_word (Lamp On) = ascii ",on" ++ 0x0A ∷ []
change_word (Lamp Off) = ascii ",off" ++ 0x0A ∷ []
change_word (Group AnyOn) = ascii ",any_on" ++ 0x0A ∷ []
change_word (Group AllOff) = ascii ",all_off" ++ 0x0A ∷ []
change_word (Device GoesOffline) = ascii ",offline" ++ 0x0A ∷ []
change_word (Device ComesOnline) = ascii ",online" ++ 0x0A ∷ []
change_word Unknown = 0x0A ∷ []

unfoldable pub row_bytes : Change → List ℕ → ℕ → List ℕ
row_bytes change name adapter = kind_word change ++ name ++ 0x2C ∷ decimal adapter ++ change_word change

unfoldable pub row_for : View → Changed → List ℕ
row_for view c = row_bytes c.change (name_back view c.of) c.of.adapter

unfoldable pub rows_for : View → List TriggerRow → List ℕ
rows_for view [] = []
rows_for view (x ∷ xs) = row_for view (changed_of x.trigger) ++ rows_for view xs

-- ---- the call

-- those in use
abbrev pub triggers_in : Triggers → List TriggerRow
triggers_in l = take l.count l.rows

-- "a condition or another trigger": the first such entry, triggers first; 0 where there is none
unfoldable pub is_change : TriggerRow → Bool
is_change x = is_known (changed_of x.trigger).change

unfoldable pub after_all : ℕ → ℕ → ℕ
after_all triggers conditions = pick (eqb conditions 0) 0 (triggers + 1)

unfoldable pub first_other : Triggers → ℕ → ℕ
first_other l conditions =
    pick (eqb (failing is_change 1 (triggers_in l)) 0) (after_all l.count conditions) (failing is_change 1 (triggers_in l))

-- "a reference without such a sheet row": the first such entry
unfoldable pub is_named : View → TriggerRow → Bool
is_named view x = not (eqb (length (name_back view (changed_of x.trigger).of)) 0)

unfoldable pub first_unnamed : View → Triggers → ℕ
first_unnamed view l = failing (is_named view) 1 (triggers_in l)

-- "then a reference without such a sheet row with 62, at the first such entry's ordinal, column 0"
unfoldable pub by_names : View → Triggers → List ℕ → Outcome
by_names view l buffer =
    pick (eqb (first_unnamed view l) 0) (written_with (rows_for view (triggers_in l)) buffer) (refused_at 62 (first_unnamed view l) buffer)

-- "then a trigger count other than one to four (entry 0), a condition or another trigger with 61"
unfoldable pub by_entries : View → Triggers → ℕ → List ℕ → Outcome
by_entries view l conditions buffer =
    pick (within 1 most_triggers l.count)
    (pick (eqb (first_other l conditions) 0) (by_names view l buffer) (refused_at 61 (first_other l conditions) buffer))
    (refused_at 61 0 buffer)

-- "going back, a buffer under 512 bytes with 54 at 0:0", behind 53
unfoldable pub by_room : View → Triggers → ℕ → List ℕ → Bool → Outcome
by_room view l conditions buffer true =
    pick (ltb (length buffer) least_bytes) (refused_at 54 0 buffer) (by_entries view l conditions buffer)
by_room view l conditions buffer false = refused_at 53 0 buffer

unfoldable pub by_sheet : View → Triggers → ℕ → List ℕ → Bool → Sheet → Outcome
by_sheet view l conditions buffer own well_formed = by_room view l conditions buffer own
by_sheet view l conditions buffer own (bad_line_rule n) = refused_at 3 n buffer

unfoldable pub back_of : ℕ → ℕ → List ℕ → Triggers → ℕ → List ℕ → Outcome
back_of party primary sheet l conditions buffer =
    by_sheet (seen (rule_call party primary) sheet) l conditions buffer (own_primary (rule_call party primary) sheet) (sheet_check sheet)
