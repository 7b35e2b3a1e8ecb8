-- Which entries a text can give (document 02, §7): "a name outside its text, or an entry that by itself no text could give under any sheet". A test, number
-- by number and name by name, as the code puts it; that it says yes exactly of the entries that some text gives with some sheet is shown (Given.antt).
use Rattle.std.specs.Prelude.{ℕ, ◌+◌, ◌^◌, List, Bool, true, false, length, ℤ, pos, negsuc, ltb, leb, eqb, Result, Ok, Err, Option, Some, None}
use Rattle.text.specs.Choice.{pick, within}
use Rattle.text.specs.Find.{first_at}
use Rattle.text.specs.Place.{check_of}
use Rattle.text.specs.declared.place.IllFormed.{IllFormed}
use Rattle.tokens.specs.Amount.{most_ms}
use Rattle.tokens.specs.Rules.{most_run}
use Rattle.tokens.specs.Numbers.{day_minutes}
use Rattle.topics.specs.Topic.{topic_number}
use Rattle.topics.specs.Ranges.{name_in}
use Rattle.language.specs.Limits.{least_period, most_later, most_earlier, most_text}
use Rattle.model.specs.Limits.{last_short_address, last_group, last_scene, last_level, last_instance, last_instance_group, last_instance_type, last_event_information, last_adapter, longest_name, week_days}
use Rattle.model.specs.declared.Condition.{Condition}
use Rattle.model.specs.declared.Days.{Days}
use Rattle.model.specs.declared.Event.{Event}
use Rattle.model.specs.declared.InputRef.{InputRef}
use Rattle.model.specs.declared.LightTarget.{LightTarget}
use Rattle.model.specs.declared.Name.{Name}
use Rattle.model.specs.declared.Operand.{Operand}
use Rattle.model.specs.declared.Reading.{Reading}
use Rattle.model.specs.declared.Ref.{Ref}
use Rattle.model.specs.declared.Selector.{Selector}
use Rattle.model.specs.declared.TimeBound.{TimeBound}
use Rattle.model.specs.declared.Trigger.{Trigger}
use Rattle.model.specs.declared.Value.{Value}

-- ---- names

-- a name that stands inside its text
unfoldable pub is_inside : List ℕ → Name → Bool
is_inside text n = leb (n.start + n.length) (length text)

-- bytes that a string can have: UTF-8 by themselves, and neither quote nor LF
unfoldable pub is_well_formed : Result Unit IllFormed → Bool
is_well_formed (Ok _) = true
is_well_formed (Err at) = false

unfoldable pub has_byte : ℕ → List ℕ → Bool
has_byte b bytes = ltb (first_at b bytes 0) (length bytes)

unfoldable pub is_string : List ℕ → Bool
is_string bytes = pick (has_byte 0x22 bytes) false (pick (has_byte 0x0A bytes) false (is_well_formed (check_of bytes)))

-- a string of least to most bytes
unfoldable pub possible_string : List ℕ → ℕ → ℕ → Name → Bool
possible_string text least most n =
    pick (is_inside text n) (pick (within least most n.length) (is_string (name_in text n)) false) false

-- "Name or string 1 to 48 bytes", "a string, empty allowed", of at most 16 bytes
abbrev pub possible_name : List ℕ → Name → Bool
possible_name text n = possible_string text 1 longest_name n

abbrev pub possible_text : List ℕ → Name → Bool
possible_text text n = possible_string text 0 most_text n

-- §12: "A topic has 1 to 48 bytes and no `+`, `#`, control character or Unicode noncharacter."
unfoldable pub possible_topic : List ℕ → Name → Bool
possible_topic text n = pick (possible_name text n) (eqb (topic_number (name_in text n)) 0) false

-- ---- numbers

unfoldable pub possible_ref : ℕ → Ref → Bool
possible_ref most r = pick (leb r.adapter last_adapter) (leb r.number most) false

unfoldable pub possible_input : InputRef → Bool
possible_input r = pick (possible_ref last_short_address r.device) (leb r.instance last_instance) false

unfoldable pub possible_type : Option ℕ → Bool
possible_type None = true
possible_type (Some n) = leb n last_instance_type

unfoldable pub possible_selector : Selector → Bool
possible_selector (Selector.Instance r n) = pick (possible_ref last_short_address r) (leb n last_instance) false
possible_selector (Selector.Group a g of) = pick (leb a last_adapter) (pick (leb g last_instance_group) (possible_type of) false) false

unfoldable pub possible_target : LightTarget → Bool
possible_target (LightTarget.Lamp r) = possible_ref last_short_address r
possible_target (LightTarget.Group r) = possible_ref last_group r
possible_target (LightTarget.Broadcast a) = leb a last_adapter

unfoldable pub possible_event : Event → Bool
possible_event Event.Press = true
possible_event Event.Release = true
possible_event Event.ShortPress = true
possible_event Event.DoublePress = true
possible_event Event.LongPressStart = true
possible_event Event.LongPressRepeat = true
possible_event Event.LongPressStop = true
possible_event Event.ButtonFree = true
possible_event Event.ButtonStuck = true
possible_event Event.Movement = true
possible_event Event.NoMovement = true
possible_event Event.AnyEvent = true
possible_event (Event.Raw n) = leb n last_event_information

-- at least one day, and none but the seven
unfoldable pub possible_days : Days → Bool
possible_days days = pick (leb 1 days.sum) (ltb days.sum (2 ^ week_days)) false

unfoldable pub possible_time : ℕ → Bool
possible_time m = ltb m day_minutes

-- `negsuc n` is n + 1 below 0
unfoldable pub is_signed_up_to : ℕ → ℕ → ℤ → Bool
is_signed_up_to above below (pos n) = leb n above
is_signed_up_to above below (negsuc n) = ltb n below

abbrev pub possible_integer : ℤ → Bool
possible_integer z = is_signed_up_to most_run most_run z

unfoldable pub possible_bound : TimeBound → Bool
possible_bound (TimeBound.Clock m) = possible_time m
possible_bound (TimeBound.Solar event offset) = is_signed_up_to most_later most_earlier offset

-- ---- entries, of which names stand in a text

unfoldable pub possible_reading : List ℕ → Reading → Bool
possible_reading text (Reading.Lamp r p) = possible_ref last_short_address r
possible_reading text (Reading.Group r p) = possible_ref last_group r
possible_reading text (Reading.Input r p) = possible_input r
possible_reading text (Reading.Time p) = true
possible_reading text (Reading.Sun p) = true
possible_reading text (Reading.Event p) = true
possible_reading text (Reading.Var n) = possible_name text n

unfoldable pub possible_delta : Option ℤ → Bool
possible_delta None = true
possible_delta (Some z) = possible_integer z

unfoldable pub possible_value : List ℕ → Value → Bool
possible_value text (Value.Literal z) = possible_integer z
possible_value text (Value.Reads r delta) = pick (possible_reading text r) (possible_delta delta) false

unfoldable pub possible_operand : List ℕ → Operand → Bool
possible_operand text (Operand.Text n) = possible_text text n
possible_operand text (Operand.Number v) = possible_value text v

unfoldable pub possible_trigger : List ℕ → Trigger → Bool
possible_trigger text (Trigger.InputEvent s e) = pick (possible_selector s) (possible_event e) false
possible_trigger text (Trigger.InputOccupancy r state) = possible_input r
possible_trigger text (Trigger.InputLightCross r way n) = pick (possible_input r) (leb n last_event_information) false
possible_trigger text (Trigger.InputPositionChange r) = possible_input r
possible_trigger text (Trigger.InputDevicePowerCycled r) = possible_ref last_short_address r
possible_trigger text (Trigger.InputDeviceManualConfigChanged r) = possible_ref last_short_address r
possible_trigger text (Trigger.AtTime m days) = pick (possible_time m) (possible_days days) false
possible_trigger text (Trigger.AtSolar event offset days) = pick (is_signed_up_to most_later most_earlier offset) (possible_days days) false
possible_trigger text (Trigger.Every ms) = pick (leb least_period ms) (leb ms most_ms) false
possible_trigger text (Trigger.LampTurns r to) = possible_ref last_short_address r
possible_trigger text (Trigger.LampLevelCross r way n) = pick (possible_ref last_short_address r) (leb n last_level) false
possible_trigger text (Trigger.GroupBecomes r state) = possible_ref last_group r
possible_trigger text (Trigger.SceneRecalled a scene) = pick (leb a last_adapter) (leb scene last_scene) false
possible_trigger text (Trigger.DeviceOnline r change) = possible_ref last_short_address r
possible_trigger text (Trigger.HclOverride to change) = possible_target to
possible_trigger text (Trigger.TimerFires n) = possible_name text n
possible_trigger text Trigger.ControllerStarts = true
possible_trigger text Trigger.ControllerBecomesActive = true
possible_trigger text (Trigger.RuleFails n) = possible_name text n
possible_trigger text Trigger.HttpTrigger = true
possible_trigger text (Trigger.MqttMessage topic) = possible_topic text topic

unfoldable pub possible_condition : List ℕ → Condition → Bool
possible_condition text (Condition.TimeInRange from to) = pick (possible_bound from) (possible_bound to) false
possible_condition text (Condition.SunIs state) = true
possible_condition text (Condition.LampIs r state) = possible_ref last_short_address r
possible_condition text (Condition.LampCompare r p c v) = pick (possible_ref last_short_address r) (possible_value text v) false
possible_condition text (Condition.GroupState r state) = possible_ref last_group r
possible_condition text (Condition.InputOccupancy r state) = possible_input r
possible_condition text (Condition.InputLight r way v) = pick (possible_input r) (possible_value text v) false
possible_condition text (Condition.HclState to state) = possible_target to
possible_condition text (Condition.DeviceOnline r) = possible_ref last_short_address r
possible_condition text (Condition.RuleEnabled n) = possible_name text n
possible_condition text (Condition.LastFiredOlderThan n ms) = pick (possible_name text n) (leb ms most_ms) false
possible_condition text (Condition.TimerRunning n) = possible_name text n
possible_condition text Condition.ControllerActive = true
possible_condition text (Condition.VarCompare n c v) = pick (possible_name text n) (possible_operand text v) false
possible_condition text (Condition.DayIn days) = possible_days days
