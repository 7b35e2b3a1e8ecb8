-- What is written for the entries of two lists (document 02, §7), form by form in the order of the model.
use Rattle.std.specs.Prelude.{ℕ, zero, suc, ◌+◌, List, [], ◌∷◌, ◌++◌, eqb, ℤ, pos, negsuc, Option, Some, None}
use Rattle.text.specs.Choice.{pick}
use Rattle.text.specs.Literal.{ascii}
use Rattle.tokens.specs.Kind.{OPEN, CLOSE, COMMA, POINT, POINTS, ASSIGN, EQ, NE, GE, LE, GT, LT, PLUS, MINUS}
use Rattle.days.specs.Days.{has_day, every_day}
use Rattle.model.specs.declared.Aggregate.{Aggregate}
use Rattle.model.specs.declared.Comparison.{Comparison}
use Rattle.model.specs.declared.Condition.{Condition}
use Rattle.model.specs.declared.Crossing.{Crossing}
use Rattle.model.specs.declared.Days.{Days}
use Rattle.model.specs.declared.Event.{Event}
use Rattle.model.specs.declared.EventReading.{EventReading}
use Rattle.model.specs.declared.GroupReading.{GroupReading}
use Rattle.model.specs.declared.Hcl.{Hcl}
use Rattle.model.specs.declared.InputReading.{InputReading}
use Rattle.model.specs.declared.InputRef.{InputRef}
use Rattle.model.specs.declared.LampProperty.{LampProperty}
use Rattle.model.specs.declared.LampReading.{LampReading}
use Rattle.model.specs.declared.LightTarget.{LightTarget}
use Rattle.model.specs.declared.Name.{Name}
use Rattle.model.specs.declared.Occupancy.{Occupancy}
use Rattle.model.specs.declared.Online.{Online}
use Rattle.model.specs.declared.Operand.{Operand}
use Rattle.model.specs.declared.Override.{Override}
use Rattle.model.specs.declared.Power.{Power}
use Rattle.model.specs.declared.Reading.{Reading}
use Rattle.model.specs.declared.Ref.{Ref}
use Rattle.model.specs.declared.Selector.{Selector}
use Rattle.model.specs.declared.SolarEvent.{SolarEvent}
use Rattle.model.specs.declared.Sun.{Sun}
use Rattle.model.specs.declared.SunReading.{SunReading}
use Rattle.model.specs.declared.TimeBound.{TimeBound}
use Rattle.model.specs.declared.TimeReading.{TimeReading}
use Rattle.model.specs.declared.Trigger.{Trigger}
use Rattle.model.specs.declared.Value.{Value}
use Rattle.writing.specs.Pieces.{Piece, words}
use Rattle.writing.specs.Pieces.Piece.{word, string, integer, time, duration, sign}

-- choices by their words

abbrev pub power_word : Power → List ℕ
power_word Power.On = ascii "on"
power_word Power.Off = ascii "off"

abbrev pub occupancy_word : Occupancy → List ℕ
occupancy_word Occupancy.Occupied = ascii "occupied"
occupancy_word Occupancy.Vacant = ascii "vacant"

abbrev pub crossing_word : Crossing → List ℕ
crossing_word Crossing.Above = ascii "above"
crossing_word Crossing.Below = ascii "below"

abbrev pub aggregate_word : Aggregate → List ℕ
aggregate_word Aggregate.AnyOn = ascii "any_on"
aggregate_word Aggregate.AllOff = ascii "all_off"

abbrev pub online_words : Online → List ℕ
online_words Online.GoesOffline = ascii "goes offline"
online_words Online.ComesOnline = ascii "comes online"

abbrev pub override_word : Override → List ℕ
override_word Override.Starts = ascii "starts"
override_word Override.Clears = ascii "clears"

abbrev pub sun_word : Sun → List ℕ
sun_word Sun.Up = ascii "up"
sun_word Sun.Down = ascii "down"

abbrev pub hcl_word : Hcl → List ℕ
hcl_word Hcl.Enabled = ascii "enabled"
hcl_word Hcl.Overridden = ascii "overridden"

abbrev pub solar_word : SolarEvent → List ℕ
solar_word SolarEvent.Sunrise = ascii "sunrise"
solar_word SolarEvent.Sunset = ascii "sunset"

abbrev pub property_word : LampProperty → List ℕ
property_word LampProperty.Level = ascii "level"
property_word LampProperty.Cct = ascii "cct"

abbrev pub comparison_sign : Comparison → ℕ
comparison_sign Comparison.Eq = EQ
comparison_sign Comparison.Ne = NE
comparison_sign Comparison.Ge = GE
comparison_sign Comparison.Le = LE
comparison_sign Comparison.Gt = GT
comparison_sign Comparison.Lt = LT

abbrev pub lamp_reading_word : LampReading → List ℕ
lamp_reading_word LampReading.Level = ascii "level"
lamp_reading_word LampReading.Cct = ascii "cct"
lamp_reading_word LampReading.IsOn = ascii "is_on"
lamp_reading_word LampReading.LastLevel = ascii "last_level"

abbrev pub group_reading_word : GroupReading → List ℕ
group_reading_word GroupReading.AnyOn = ascii "any_on"
group_reading_word GroupReading.AllOff = ascii "all_off"
group_reading_word GroupReading.MemberCount = ascii "member_count"

abbrev pub input_reading_word : InputReading → List ℕ
input_reading_word InputReading.Occupied = ascii "occupied"
input_reading_word InputReading.Light = ascii "light"
input_reading_word InputReading.Position = ascii "position"
input_reading_word InputReading.LastEventAge = ascii "last_event_age"

abbrev pub time_reading_word : TimeReading → List ℕ
time_reading_word TimeReading.Now = ascii "now"
time_reading_word TimeReading.Hour = ascii "hour"
time_reading_word TimeReading.Minute = ascii "minute"
time_reading_word TimeReading.Weekday = ascii "weekday"

abbrev pub sun_reading_word : SunReading → List ℕ
sun_reading_word SunReading.Rise = ascii "rise"
sun_reading_word SunReading.Set = ascii "set"
sun_reading_word SunReading.IsUp = ascii "is_up"

abbrev pub event_reading_word : EventReading → List ℕ
event_reading_word EventReading.Value = ascii "value"
event_reading_word EventReading.Device = ascii "device"
event_reading_word EventReading.Instance = ascii "instance"
event_reading_word EventReading.Option = ascii "option"

-- "event(data=0..1023)" or a word
unfoldable pub event_pieces : Event → List Piece
event_pieces Event.Press = words (ascii "press")
event_pieces Event.Release = words (ascii "release")
event_pieces Event.ShortPress = words (ascii "short_press")
event_pieces Event.DoublePress = words (ascii "double_press")
event_pieces Event.LongPressStart = words (ascii "long_press_start")
event_pieces Event.LongPressRepeat = words (ascii "long_press_repeat")
event_pieces Event.LongPressStop = words (ascii "long_press_stop")
event_pieces Event.ButtonFree = words (ascii "button_free")
event_pieces Event.ButtonStuck = words (ascii "button_stuck")
event_pieces Event.Movement = words (ascii "movement")
event_pieces Event.NoMovement = words (ascii "no_movement")
event_pieces Event.AnyEvent = words (ascii "any_event")
event_pieces (Event.Raw n) =
    word (ascii "event") ∷ sign OPEN ∷ word (ascii "data") ∷ sign ASSIGN ∷ integer n ∷ sign CLOSE ∷ []

-- a named argument
abbrev pub argument : List ℕ → ℕ → List Piece
argument name n = word name ∷ sign ASSIGN ∷ integer n ∷ []

-- days from mon on, one by one, a comma between
unfoldable pub day_if_in : Days → ℕ → List ℕ → List Piece
day_if_in days d name = pick (has_day days d) (word name ∷ []) []

unfoldable pub commas : List Piece → List Piece
commas [] = []
commas (p ∷ []) = p ∷ []
commas (p ∷ q ∷ ps) = p ∷ sign COMMA ∷ commas (q ∷ ps)

-- "Days are written singly from mon"
unfoldable pub days_pieces : Days → List Piece
days_pieces days =
    commas
    (day_if_in days 0 (ascii "mon") ++ day_if_in days 1 (ascii "tue") ++ day_if_in days 2 (ascii "wed") ++ day_if_in days 3 (ascii "thu")
    ++ day_if_in days 4 (ascii "fri") ++ day_if_in days 5 (ascii "sat") ++ day_if_in days 6 (ascii "sun"))

-- "and `on` only if fewer than seven"
unfoldable pub on_pieces : Days → List Piece
on_pieces days = pick (eqb days.sum every_day.sum) [] (word (ascii "on") ∷ days_pieces days)

-- "a solar offset of 0 is left out"
unfoldable pub offset_pieces : ℤ → List Piece
offset_pieces (pos zero) = []
offset_pieces (pos (suc n)) = sign PLUS ∷ duration (suc n) ∷ []
offset_pieces (negsuc n) = sign MINUS ∷ duration (n + 1) ∷ []

unfoldable pub bound_pieces : TimeBound → List Piece
bound_pieces (TimeBound.Clock m) = time m ∷ []
bound_pieces (TimeBound.Solar event offset) = word (solar_word event) ∷ offset_pieces offset

-- "a literal has `-` if negative"
unfoldable pub literal_pieces : ℤ → List Piece
literal_pieces (pos n) = integer n ∷ []
literal_pieces (negsuc n) = sign MINUS ∷ integer (n + 1) ∷ []

-- "an offset `+` or `-` (0 takes `+`)"
unfoldable pub delta_pieces : Option ℤ → List Piece
delta_pieces None = []
delta_pieces (Some (pos n)) = sign PLUS ∷ integer n ∷ []
delta_pieces (Some (negsuc n)) = sign MINUS ∷ integer (n + 1) ∷ []

unfoldable pub type_pieces : Option ℕ → List Piece
type_pieces None = []
type_pieces (Some n) = sign COMMA ∷ argument (ascii "type") n

-- what is written of references needs the call's primary adapter
module _ (primary : ℕ) where
  -- "with `adapter=` only where the adapter is not the primary"
  unfoldable pub adapter_pieces : ℕ → List Piece
  adapter_pieces a = pick (eqb a primary) [] (sign COMMA ∷ argument (ascii "adapter") a)

  -- "references as ids"
  unfoldable pub ref_pieces : Ref → List Piece
  ref_pieces r = sign OPEN ∷ integer r.number ∷ adapter_pieces r.adapter ++ sign CLOSE ∷ []

  -- "Arguments of `input(` and the dev of `input device(` are named, in the order dev, inst, group, type, adapter; types are numbers"
  unfoldable pub device_pieces : Ref → List Piece
  device_pieces r = sign OPEN ∷ argument (ascii "dev") r.number ++ adapter_pieces r.adapter ++ sign CLOSE ∷ []

  unfoldable pub instance_pieces : Ref → ℕ → List Piece
  instance_pieces r n =
      sign OPEN ∷ argument (ascii "dev") r.number ++ sign COMMA ∷ argument (ascii "inst") n ++ adapter_pieces r.adapter ++ sign CLOSE ∷ []

  unfoldable pub selector_pieces : Selector → List Piece
  selector_pieces (Selector.Instance r n) = instance_pieces r n
  selector_pieces (Selector.Group a g of) = sign OPEN ∷ argument (ascii "group") g ++ type_pieces of ++ adapter_pieces a ++ sign CLOSE ∷ []

  unfoldable pub input_pieces : InputRef → List Piece
  input_pieces r = word (ascii "input") ∷ instance_pieces r.device r.instance

  unfoldable pub target_pieces : LightTarget → List Piece
  target_pieces (LightTarget.Lamp r) = word (ascii "lamp") ∷ ref_pieces r
  target_pieces (LightTarget.Group r) = word (ascii "group") ∷ ref_pieces r
  target_pieces (LightTarget.Broadcast a) = word (ascii "broadcast") ∷ []

-- a quoted name in parentheses
unfoldable pub name_pieces : (Name → List ℕ) → Name → List Piece
name_pieces bytes n = sign OPEN ∷ string (bytes n) ∷ sign CLOSE ∷ []

-- and what is written of entries the bytes of names
module _ (primary : ℕ) (bytes : Name → List ℕ) where
  unfoldable pub reading_pieces : Reading → List Piece
  reading_pieces (Reading.Lamp r p) = word (ascii "lamp") ∷ ref_pieces primary r ++ sign POINT ∷ word (lamp_reading_word p) ∷ []
  reading_pieces (Reading.Group r p) = word (ascii "group") ∷ ref_pieces primary r ++ sign POINT ∷ word (group_reading_word p) ∷ []
  reading_pieces (Reading.Input r p) = input_pieces primary r ++ sign POINT ∷ word (input_reading_word p) ∷ []
  reading_pieces (Reading.Time p) = word (ascii "time") ∷ sign POINT ∷ word (time_reading_word p) ∷ []
  reading_pieces (Reading.Sun p) = word (ascii "sun") ∷ sign POINT ∷ word (sun_reading_word p) ∷ []
  reading_pieces (Reading.Event p) = word (ascii "event") ∷ sign POINT ∷ word (event_reading_word p) ∷ []
  reading_pieces (Reading.Var n) = word (ascii "var") ∷ name_pieces bytes n

  unfoldable pub value_pieces : Value → List Piece
  value_pieces (Value.Literal z) = literal_pieces z
  value_pieces (Value.Reads r delta) = reading_pieces r ++ delta_pieces delta

  unfoldable pub operand_pieces : Operand → List Piece
  operand_pieces (Operand.Text n) = string (bytes n) ∷ []
  operand_pieces (Operand.Number v) = value_pieces v

  unfoldable pub trigger_pieces : Trigger → List Piece
  trigger_pieces (Trigger.InputEvent s e) = word (ascii "input") ∷ selector_pieces primary s ++ word (ascii "is") ∷ event_pieces e
  trigger_pieces (Trigger.InputOccupancy r state) = input_pieces primary r ++ words (ascii "becomes") ++ word (occupancy_word state) ∷ []
  trigger_pieces (Trigger.InputLightCross r way n) =
      input_pieces primary r ++ sign POINT ∷ words (ascii "light crosses") ++ word (crossing_word way) ∷ integer n ∷ []
  trigger_pieces (Trigger.InputPositionChange r) = input_pieces primary r ++ sign POINT ∷ words (ascii "position changes")
  trigger_pieces (Trigger.InputDevicePowerCycled r) = words (ascii "input device") ++ device_pieces primary r ++ words (ascii "power cycled")
  trigger_pieces (Trigger.InputDeviceManualConfigChanged r) =
      words (ascii "input device") ++ device_pieces primary r ++ words (ascii "manual config changed")
  trigger_pieces (Trigger.AtTime m days) = word (ascii "at") ∷ time m ∷ on_pieces days
  trigger_pieces (Trigger.AtSolar e offset days) = word (ascii "at") ∷ bound_pieces (TimeBound.Solar e offset) ++ on_pieces days
  trigger_pieces (Trigger.Every ms) = word (ascii "every") ∷ duration ms ∷ []
  trigger_pieces (Trigger.LampTurns r to) = word (ascii "lamp") ∷ ref_pieces primary r ++ word (ascii "turns") ∷ word (power_word to) ∷ []
  trigger_pieces (Trigger.LampLevelCross r way n) =
      word (ascii "lamp") ∷ ref_pieces primary r ++ sign POINT ∷ words (ascii "level crosses") ++ word (crossing_word way) ∷ integer n ∷ []
  trigger_pieces (Trigger.GroupBecomes r state) = word (ascii "group") ∷ ref_pieces primary r ++ word (ascii "becomes") ∷ word (aggregate_word state) ∷ []
  trigger_pieces (Trigger.SceneRecalled a scene) = word (ascii "scene") ∷ sign OPEN ∷ integer scene ∷ adapter_pieces primary a ++ sign CLOSE ∷ word (ascii "recalled") ∷ []
  trigger_pieces (Trigger.DeviceOnline r change) = word (ascii "device") ∷ ref_pieces primary r ++ words (online_words change)
  trigger_pieces (Trigger.HclOverride to change) =
      words (ascii "hcl override") ++ word (override_word change) ∷ word (ascii "for") ∷ target_pieces primary to
  trigger_pieces (Trigger.TimerFires n) = word (ascii "timer") ∷ name_pieces bytes n ++ word (ascii "fires") ∷ []
  trigger_pieces Trigger.ControllerStarts = words (ascii "controller starts")
  trigger_pieces Trigger.ControllerBecomesActive = words (ascii "controller becomes active")
  trigger_pieces (Trigger.RuleFails n) = word (ascii "rule") ∷ name_pieces bytes n ++ word (ascii "fails") ∷ []
  trigger_pieces Trigger.HttpTrigger = words (ascii "http trigger")
  trigger_pieces (Trigger.MqttMessage topic) = word (ascii "mqtt") ∷ string (bytes topic) ∷ []

  unfoldable pub condition_pieces : Condition → List Piece
  condition_pieces (Condition.TimeInRange from to) = words (ascii "time in") ++ bound_pieces from ++ sign POINTS ∷ bound_pieces to
  condition_pieces (Condition.SunIs state) = words (ascii "sun is") ++ word (sun_word state) ∷ []
  condition_pieces (Condition.LampIs r state) = word (ascii "lamp") ∷ ref_pieces primary r ++ word (ascii "is") ∷ word (power_word state) ∷ []
  condition_pieces (Condition.LampCompare r p c v) =
      word (ascii "lamp") ∷ ref_pieces primary r ++ sign POINT ∷ word (property_word p) ∷ sign (comparison_sign c) ∷ value_pieces v
  condition_pieces (Condition.GroupState r state) = word (ascii "group") ∷ ref_pieces primary r ++ word (aggregate_word state) ∷ []
  condition_pieces (Condition.InputOccupancy r state) = input_pieces primary r ++ word (ascii "is") ∷ word (occupancy_word state) ∷ []
  condition_pieces (Condition.InputLight r way v) = input_pieces primary r ++ sign POINT ∷ word (ascii "light") ∷ word (crossing_word way) ∷ value_pieces v
  condition_pieces (Condition.HclState to state) = words (ascii "hcl is") ++ word (hcl_word state) ∷ word (ascii "for") ∷ target_pieces primary to
  condition_pieces (Condition.DeviceOnline r) = word (ascii "device") ∷ ref_pieces primary r ++ words (ascii "is online")
  condition_pieces (Condition.RuleEnabled n) = word (ascii "rule") ∷ name_pieces bytes n ++ words (ascii "is enabled")
  condition_pieces (Condition.LastFiredOlderThan n ms) = word (ascii "last_fired") ∷ name_pieces bytes n ++ words (ascii "older than") ++ duration ms ∷ []
  condition_pieces (Condition.TimerRunning n) = word (ascii "timer") ∷ name_pieces bytes n ++ words (ascii "is running")
  condition_pieces Condition.ControllerActive = words (ascii "controller is active")
  condition_pieces (Condition.VarCompare n c v) = word (ascii "var") ∷ name_pieces bytes n ++ sign (comparison_sign c) ∷ operand_pieces v
  condition_pieces (Condition.DayIn days) = words (ascii "day in") ++ days_pieces days
