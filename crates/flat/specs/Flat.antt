-- An answer as words, "nine rows of twelve words" (include/tergyosul.h). Row 0 says how the reading went; four rows of triggers and four of conditions
-- follow. The first word of an entry is its kind. Kinds count from 1 in the order of the Rust's lists PARSED_TRIGGER_KINDS and PARSED_CONDITION_KINDS,
-- but for DayIn (document 02, §1), which has the number behind the other conditions.
use Rattle.std.specs.Prelude.{ℕ, ◌+◌, ◌*◌, ◌/◌, List, [], ◌∷◌, ◌++◌, length, get_or, ltb, Some, None}
use Rattle.std.proofs.lemmas.List.Edits.{sets}
use Rattle.text.specs.Choice.{pick}
use Rattle.text.specs.Place.{counted}
use Rattle.model.specs.Lists.{padded}
use Rattle.model.specs.declared.Answer.{Answer}
use Rattle.model.specs.declared.Condition.{Condition}
use Rattle.model.specs.declared.ConditionRow.{ConditionRow}
use Rattle.model.specs.declared.Conditions.{Conditions}
use Rattle.model.specs.declared.Days.{Days}
use Rattle.model.specs.declared.Event.{Event}
use Rattle.model.specs.declared.InputRef.{InputRef}
use Rattle.model.specs.declared.LampProperty.{LampProperty}
use Rattle.model.specs.declared.LightTarget.{LightTarget}
use Rattle.model.specs.declared.Name.{Name}
use Rattle.model.specs.declared.Operand.{Operand}
use Rattle.model.specs.declared.Reading.{Reading}
use Rattle.model.specs.declared.Ref.{Ref}
use Rattle.model.specs.declared.Selector.{Selector}
use Rattle.model.specs.declared.TimeBound.{TimeBound}
use Rattle.model.specs.declared.Trigger.{Trigger}
use Rattle.model.specs.declared.TriggerRow.{TriggerRow}
use Rattle.model.specs.declared.Triggers.{Triggers}
use Rattle.model.specs.declared.Value.{Value}
use Rattle.flat.specs.Codes.{power_code, occupancy_code, crossing_code, aggregate_code, online_code, override_code, sun_code, hcl_code, solar_code, comparison_code, lamp_reading_code, group_reading_code, input_reading_code, time_reading_code, sun_reading_code, event_reading_code, var_code, low_word, high_word, type_or_none}

-- the parts of a row, in the order in which the header names them: REF, INPUT, NAME, SELECTOR, EVENT, TARGET, BOUND, DAYS, VALUE, OPERAND

abbrev pub ref_words : Ref → List ℕ
ref_words r = r.adapter ∷ r.number ∷ []

abbrev pub input_words : InputRef → List ℕ
input_words r = r.device.adapter ∷ r.device.number ∷ r.instance ∷ []

abbrev pub name_words : Name → List ℕ
name_words n = n.start ∷ n.length ∷ []

unfoldable pub selector_words : Selector → List ℕ
selector_words (Selector.Instance device instance) = 1 ∷ device.adapter ∷ device.number ∷ instance ∷ []
selector_words (Selector.Group adapter group of) = 2 ∷ adapter ∷ group ∷ type_or_none of ∷ []

-- "code, data": "the data is 0 except for a raw event"
unfoldable pub event_words : Event → List ℕ
event_words Event.Press = 1 ∷ 0 ∷ []
event_words Event.Release = 2 ∷ 0 ∷ []
event_words Event.ShortPress = 3 ∷ 0 ∷ []
event_words Event.DoublePress = 4 ∷ 0 ∷ []
event_words Event.LongPressStart = 5 ∷ 0 ∷ []
event_words Event.LongPressRepeat = 6 ∷ 0 ∷ []
event_words Event.LongPressStop = 7 ∷ 0 ∷ []
event_words Event.ButtonFree = 8 ∷ 0 ∷ []
event_words Event.ButtonStuck = 9 ∷ 0 ∷ []
event_words Event.Movement = 10 ∷ 0 ∷ []
event_words Event.NoMovement = 11 ∷ 0 ∷ []
event_words Event.AnyEvent = 12 ∷ 0 ∷ []
event_words (Event.Raw n) = 13 ∷ n ∷ []

unfoldable pub target_words : LightTarget → List ℕ
target_words (LightTarget.Lamp r) = 1 ∷ ref_words r
target_words (LightTarget.Group r) = 2 ∷ ref_words r
target_words (LightTarget.Broadcast adapter) = 3 ∷ adapter ∷ 0 ∷ []

-- "minutes since midnight", or "a solar event with an offset"
unfoldable pub bound_words : TimeBound → List ℕ
bound_words (TimeBound.Clock m) = 1 ∷ m ∷ 0 ∷ []
bound_words (TimeBound.Solar e offset) = 2 ∷ solar_code e ∷ low_word offset ∷ []

-- "the sum of 1 for mon, 2 for tue, 4 for wed, 8 for thu, 16 for fri, 32 for sat and 64 for sun"
abbrev pub days_words : Days → List ℕ
days_words days = days.sum ∷ []

-- "a code with the REF, INPUT or NAME beside it"
unfoldable pub reading_words : Reading → List ℕ
reading_words (Reading.Lamp r p) = lamp_reading_code p ∷ r.adapter ∷ r.number ∷ 0 ∷ []
reading_words (Reading.Group r p) = group_reading_code p ∷ r.adapter ∷ r.number ∷ 0 ∷ []
reading_words (Reading.Input r p) = input_reading_code p ∷ input_words r
reading_words (Reading.Time p) = time_reading_code p ∷ 0 ∷ 0 ∷ 0 ∷ []
reading_words (Reading.Sun p) = sun_reading_code p ∷ 0 ∷ 0 ∷ 0 ∷ []
reading_words (Reading.Event p) = event_reading_code p ∷ 0 ∷ 0 ∷ 0 ∷ []
reading_words (Reading.Var n) = var_code ∷ n.start ∷ n.length ∷ 0 ∷ []

-- "kind 1: a number; kind 2: a reading; kind 3: a reading with a number added"
unfoldable pub value_words : Value → List ℕ
value_words (Value.Literal z) = 1 ∷ 0 ∷ 0 ∷ 0 ∷ 0 ∷ low_word z ∷ high_word z ∷ []
value_words (Value.Reads r None) = 2 ∷ reading_words r ++ 0 ∷ 0 ∷ []
value_words (Value.Reads r (Some z)) = 3 ∷ reading_words r ++ low_word z ∷ high_word z ∷ []

-- "a VALUE, or 4, start, length"
unfoldable pub operand_words : Operand → List ℕ
operand_words (Operand.Text t) = 4 ∷ name_words t
operand_words (Operand.Number v) = value_words v

-- the entries: a kind, and the parts beside it

unfoldable pub trigger_words : Trigger → List ℕ
trigger_words (Trigger.InputEvent s e) = 1 ∷ selector_words s ++ event_words e
trigger_words (Trigger.InputOccupancy r state) = 2 ∷ input_words r ++ occupancy_code state ∷ []
trigger_words (Trigger.InputLightCross r way n) = 3 ∷ input_words r ++ crossing_code way ∷ n ∷ []
trigger_words (Trigger.InputPositionChange r) = 4 ∷ input_words r
trigger_words (Trigger.InputDevicePowerCycled r) = 5 ∷ ref_words r
trigger_words (Trigger.InputDeviceManualConfigChanged r) = 6 ∷ ref_words r
trigger_words (Trigger.AtTime m days) = 7 ∷ m ∷ days_words days
trigger_words (Trigger.AtSolar e offset days) = 8 ∷ solar_code e ∷ low_word offset ∷ days_words days
trigger_words (Trigger.Every ms) = 9 ∷ ms ∷ []
trigger_words (Trigger.LampTurns r to) = 10 ∷ ref_words r ++ power_code to ∷ []
trigger_words (Trigger.LampLevelCross r way n) = 11 ∷ ref_words r ++ crossing_code way ∷ n ∷ []
trigger_words (Trigger.GroupBecomes r state) = 12 ∷ ref_words r ++ aggregate_code state ∷ []
trigger_words (Trigger.SceneRecalled adapter scene) = 13 ∷ adapter ∷ scene ∷ []
trigger_words (Trigger.DeviceOnline r change) = 14 ∷ ref_words r ++ online_code change ∷ []
trigger_words (Trigger.HclOverride to change) = 15 ∷ target_words to ++ override_code change ∷ []
trigger_words (Trigger.TimerFires n) = 16 ∷ name_words n
trigger_words Trigger.ControllerStarts = 17 ∷ []
trigger_words Trigger.ControllerBecomesActive = 18 ∷ []
trigger_words (Trigger.RuleFails n) = 19 ∷ name_words n
trigger_words Trigger.HttpTrigger = 20 ∷ []
trigger_words (Trigger.MqttMessage topic) = 21 ∷ name_words topic

-- the two kinds of a lamp's property that is compared
abbrev pub property_kind : LampProperty → ℕ
property_kind LampProperty.Level = 4
property_kind LampProperty.Cct = 5

unfoldable pub condition_words : Condition → List ℕ
condition_words (Condition.TimeInRange from to) = 1 ∷ bound_words from ++ bound_words to
condition_words (Condition.SunIs state) = 2 ∷ sun_code state ∷ []
condition_words (Condition.LampIs r state) = 3 ∷ ref_words r ++ power_code state ∷ []
condition_words (Condition.LampCompare r p c v) = property_kind p ∷ ref_words r ++ comparison_code c ∷ value_words v
condition_words (Condition.GroupState r state) = 6 ∷ ref_words r ++ aggregate_code state ∷ []
condition_words (Condition.InputOccupancy r state) = 7 ∷ input_words r ++ occupancy_code state ∷ []
condition_words (Condition.InputLight r way v) = 8 ∷ input_words r ++ crossing_code way ∷ value_words v
condition_words (Condition.HclState to state) = 9 ∷ target_words to ++ hcl_code state ∷ []
condition_words (Condition.DeviceOnline r) = 10 ∷ ref_words r
condition_words (Condition.RuleEnabled n) = 11 ∷ name_words n
condition_words (Condition.LastFiredOlderThan n ms) = 12 ∷ name_words n ++ ms ∷ []
condition_words (Condition.TimerRunning n) = 13 ∷ name_words n
condition_words Condition.ControllerActive = 14 ∷ []
condition_words (Condition.VarCompare n c v) = 15 ∷ name_words n ++ comparison_code c ∷ operand_words v
condition_words (Condition.DayIn days) = 16 ∷ days_words days

-- the rows

unfoldable pub row_words : ℕ
row_words = 12

-- how many rows a list has
unfoldable pub list_rows : ℕ
list_rows = 4

-- "rows 1 to 4 are the triggers and rows 5 to 8 the conditions"
unfoldable pub first_trigger : ℕ
first_trigger = 1

unfoldable pub first_condition : ℕ
first_condition = first_trigger + list_rows

unfoldable pub row_count : ℕ
row_count = first_condition + list_rows

-- the length of an answer
abbrev pub answer_words : ℕ
answer_words = row_count * row_words

-- "Words that a row does not name are 0."
unfoldable pub whole_row : List ℕ → List ℕ
whole_row named = padded (λ (n : ℕ). n) 0 row_words named

-- the words with a whole row written; unchanged where there is no room
unfoldable pub row_set : List ℕ → ℕ → List ℕ → List ℕ
row_set words row whole = pick (ltb row (length words / row_words)) (sets words (row * row_words) whole) words

-- what is read past the end of a list's rows: there are always four, so that it plays no part
abbrev pub no_trigger : TriggerRow
no_trigger = record { trigger = Trigger.InputEvent (Selector.Instance (record { adapter = 0; number = 0 }) 0) Event.Press }

abbrev pub no_condition : ConditionRow
no_condition = record { condition = Condition.TimeInRange (TimeBound.Clock 0) (TimeBound.Clock 0) }

-- the entry with an index; "The rows of entries that are not in use are 0."
unfoldable pub trigger_row : Triggers → ℕ → List ℕ
trigger_row l i = whole_row (pick (ltb i l.count) (trigger_words (get_or l.rows i no_trigger).trigger) [])

unfoldable pub condition_row : Conditions → ℕ → List ℕ
condition_row l i = whole_row (pick (ltb i l.count) (condition_words (get_or l.rows i no_condition).condition) [])

-- four rows written, of which the first has a given index
unfoldable pub rows_set : List ℕ → ℕ → (ℕ → List ℕ) → List ℕ
rows_set words first rows =
    row_set (row_set (row_set (row_set words first (rows 0)) (first + 1) (rows 1)) (first + 2) (rows 2)) (first + 3) (rows 3)

unfoldable pub with_triggers : List ℕ → Triggers → List ℕ
with_triggers words l = rows_set words first_trigger (trigger_row l)

unfoldable pub with_conditions : List ℕ → Conditions → List ℕ
with_conditions words l = rows_set words first_condition (condition_row l)

-- "number, line, column, detail, count of triggers, count of conditions"
unfoldable pub head_row : Answer → List ℕ
head_row a =
    whole_row (a.number ∷ a.line ∷ a.column ∷ a.detail ∷ counted a.triggers.count ∷ counted a.conditions.count ∷ [])

-- the lent words with the answer in them; unchanged where they are too few for all rows
unfoldable pub flat : List ℕ → Answer → List ℕ
flat words a =
    pick
    (ltb (length words) answer_words)
    words
    (with_conditions (with_triggers (row_set words 0 (head_row a)) a.triggers) a.conditions)
