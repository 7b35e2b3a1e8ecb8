-- The parts of which what is written is made: bytes that stand in the code, and what is written by another function, one law for each function.
use Rattle.std.specs.Prelude.{Option}
use Prim.Native.Nat.{ℕ}
use mathlib.Core.Path.{◌≡◌, sym, ap, subst}
use mathlib.Core.List.{List, [], ◌∷◌, ◌++◌, append_assoc, append-nil}
use lib.IntN.{ℤ}
use Rattle.text.specs.Literal.{ascii}
use Rattle.text.specs.Split.{split}
use Rattle.tokens.specs.Kind.{OPEN, CLOSE, POINT, POINTS, ASSIGN}
use Rattle.topics.specs.Ranges.{name_in}
use Rattle.model.specs.declared.Aggregate.{Aggregate}
use Rattle.model.specs.declared.Comparison.{Comparison}
use Rattle.model.specs.declared.Condition.{Condition}
use Rattle.model.specs.declared.Crossing.{Crossing}
use Rattle.model.specs.declared.Days.{Days}
use Rattle.model.specs.declared.Event.{Event}
use Rattle.model.specs.declared.EventReading.{EventReading}
use Rattle.model.specs.declared.GroupReading.{GroupReading}
use Rattle.model.specs.declared.Hcl.{Hcl}
use Rattle.model.specs.declared.InputReading.{InputReading}
use Rattle.model.specs.declared.InputRef.{InputRef}
use Rattle.model.specs.declared.LampProperty.{LampProperty}
use Rattle.model.specs.declared.LampReading.{LampReading}
use Rattle.model.specs.declared.LightTarget.{LightTarget}
use Rattle.model.specs.declared.Name.{Name}
use Rattle.model.specs.declared.Occupancy.{Occupancy}
use Rattle.model.specs.declared.Online.{Online}
use Rattle.model.specs.declared.Operand.{Operand}
use Rattle.model.specs.declared.Override.{Override}
use Rattle.model.specs.declared.Power.{Power}
use Rattle.model.specs.declared.Reading.{Reading}
use Rattle.model.specs.declared.Ref.{Ref}
use Rattle.model.specs.declared.Selector.{Selector}
use Rattle.model.specs.declared.SolarEvent.{SolarEvent}
use Rattle.model.specs.declared.Sun.{Sun}
use Rattle.model.specs.declared.SunReading.{SunReading}
use Rattle.model.specs.declared.TimeBound.{TimeBound}
use Rattle.model.specs.declared.TimeReading.{TimeReading}
use Rattle.model.specs.declared.Trigger.{Trigger}
use Rattle.model.specs.declared.Value.{Value}
use Rattle.writing.specs.Pieces.{Piece, spelled, spelled_sign, words, further}
use Rattle.spelling.specs.Put.{no_bytes}
use Rattle.writing.specs.Write.{event_pieces, days_pieces, on_pieces, adapter_pieces, ref_pieces, device_pieces, input_pieces, selector_pieces, target_pieces, name_pieces, bound_pieces, delta_pieces, reading_pieces, value_pieces, operand_pieces, trigger_pieces, condition_pieces, power_word, occupancy_word, crossing_word, aggregate_word, online_words, override_word, sun_word, hcl_word, property_word, comparison_sign, lamp_reading_word, group_reading_word, input_reading_word, time_reading_word, sun_reading_word, event_reading_word}
use Rattle.spelling.proofs.PutLaws.{Made}
use Rattle.spelling.proofs.FormLaws.{of_form, chained, made_of}

pub input_event-made : (primary : ℕ) (s : Selector) (event : Event) → Made (further (trigger_pieces primary no_bytes (Trigger.InputEvent s event))) ((ascii " input") ∷ (further (selector_pieces primary s)) ∷ (ascii " is") ∷ (further (event_pieces event)) ∷ [])
unfolding chained further spelled spelled_sign trigger_pieces split
input_event-made primary s event = made_of (trigger_pieces primary no_bytes (Trigger.InputEvent s event)) ((Piece.word (ascii "input") ∷ []) ∷ (selector_pieces primary s) ∷ (Piece.word (ascii "is") ∷ []) ∷ (event_pieces event) ∷ []) (simp (append_assoc, append-nil))

pub input_occupancy-made : (primary : ℕ) (r : InputRef) (state : Occupancy) → Made (further (trigger_pieces primary no_bytes (Trigger.InputOccupancy r state))) ((further (input_pieces primary r)) ∷ (ascii " becomes") ∷ (further (Piece.word (occupancy_word state) ∷ [])) ∷ [])
unfolding chained further spelled spelled_sign trigger_pieces split
input_occupancy-made primary r state = made_of (trigger_pieces primary no_bytes (Trigger.InputOccupancy r state)) ((input_pieces primary r) ∷ (Piece.word (ascii "becomes") ∷ []) ∷ (Piece.word (occupancy_word state) ∷ []) ∷ []) (simp (append_assoc, append-nil))

pub input_light-made : (primary : ℕ) (r : InputRef) (way : Crossing) (light : ℕ) → Made (further (trigger_pieces primary no_bytes (Trigger.InputLightCross r way light))) ((further (input_pieces primary r)) ∷ (ascii " . light crosses") ∷ (further (Piece.word (crossing_word way) ∷ [])) ∷ (further (Piece.integer light ∷ [])) ∷ [])
unfolding chained further spelled spelled_sign trigger_pieces split
input_light-made primary r way light = made_of (trigger_pieces primary no_bytes (Trigger.InputLightCross r way light)) ((input_pieces primary r) ∷ (Piece.sign POINT ∷ Piece.word (ascii "light") ∷ Piece.word (ascii "crosses") ∷ []) ∷ (Piece.word (crossing_word way) ∷ []) ∷ (Piece.integer light ∷ []) ∷ []) (simp (append_assoc, append-nil))

pub input_position-made : (primary : ℕ) (r : InputRef) → Made (further (trigger_pieces primary no_bytes (Trigger.InputPositionChange r))) ((further (input_pieces primary r)) ∷ (ascii " . position changes") ∷ [])
unfolding chained further spelled spelled_sign trigger_pieces split
input_position-made primary r = made_of (trigger_pieces primary no_bytes (Trigger.InputPositionChange r)) ((input_pieces primary r) ∷ (Piece.sign POINT ∷ Piece.word (ascii "position") ∷ Piece.word (ascii "changes") ∷ []) ∷ []) (simp (append_assoc, append-nil))

pub power_cycled-made : (primary : ℕ) (r : Ref) → Made (further (trigger_pieces primary no_bytes (Trigger.InputDevicePowerCycled r))) ((ascii " input device") ∷ (further (device_pieces primary r)) ∷ (ascii " power cycled") ∷ [])
unfolding chained further spelled spelled_sign trigger_pieces split
power_cycled-made primary r = made_of (trigger_pieces primary no_bytes (Trigger.InputDevicePowerCycled r)) ((Piece.word (ascii "input") ∷ Piece.word (ascii "device") ∷ []) ∷ (device_pieces primary r) ∷ (Piece.word (ascii "power") ∷ Piece.word (ascii "cycled") ∷ []) ∷ []) (simp (append_assoc, append-nil))

pub config_changed-made : (primary : ℕ) (r : Ref) → Made (further (trigger_pieces primary no_bytes (Trigger.InputDeviceManualConfigChanged r))) ((ascii " input device") ∷ (further (device_pieces primary r)) ∷ (ascii " manual config changed") ∷ [])
unfolding chained further spelled spelled_sign trigger_pieces split
config_changed-made primary r = made_of (trigger_pieces primary no_bytes (Trigger.InputDeviceManualConfigChanged r)) ((Piece.word (ascii "input") ∷ Piece.word (ascii "device") ∷ []) ∷ (device_pieces primary r) ∷ (Piece.word (ascii "manual") ∷ Piece.word (ascii "config") ∷ Piece.word (ascii "changed") ∷ []) ∷ []) (simp (append_assoc, append-nil))

pub at_time-made : (m : ℕ) (days : Days) → Made (further (trigger_pieces 0 no_bytes (Trigger.AtTime m days))) ((ascii " at") ∷ (further (Piece.time m ∷ [])) ∷ (further (on_pieces days)) ∷ [])
unfolding chained further spelled spelled_sign trigger_pieces split
at_time-made m days = made_of (trigger_pieces 0 no_bytes (Trigger.AtTime m days)) ((Piece.word (ascii "at") ∷ []) ∷ (Piece.time m ∷ []) ∷ (on_pieces days) ∷ []) (simp (append_assoc, append-nil))

pub at_solar-made : (event : SolarEvent) (offset : ℤ) (days : Days) → Made (further (trigger_pieces 0 no_bytes (Trigger.AtSolar event offset days))) ((ascii " at") ∷ (further (bound_pieces (TimeBound.Solar event offset))) ∷ (further (on_pieces days)) ∷ [])
unfolding chained further spelled spelled_sign trigger_pieces split
at_solar-made event offset days = made_of (trigger_pieces 0 no_bytes (Trigger.AtSolar event offset days)) ((Piece.word (ascii "at") ∷ []) ∷ (bound_pieces (TimeBound.Solar event offset)) ∷ (on_pieces days) ∷ []) (simp (append_assoc, append-nil))

pub every_made : (ms : ℕ) → Made (further (trigger_pieces 0 no_bytes (Trigger.Every ms))) ((ascii " every") ∷ (further (Piece.duration ms ∷ [])) ∷ [])
unfolding chained further spelled spelled_sign trigger_pieces split
every_made ms = made_of (trigger_pieces 0 no_bytes (Trigger.Every ms)) ((Piece.word (ascii "every") ∷ []) ∷ (Piece.duration ms ∷ []) ∷ []) (simp (append_assoc, append-nil))

pub lamp_turns-made : (primary : ℕ) (r : Ref) (to : Power) → Made (further (trigger_pieces primary no_bytes (Trigger.LampTurns r to))) ((ascii " lamp" ++ further (ref_pieces primary r)) ∷ (ascii " turns") ∷ (further (Piece.word (power_word to) ∷ [])) ∷ [])
unfolding chained further spelled spelled_sign trigger_pieces split
lamp_turns-made primary r to = made_of (trigger_pieces primary no_bytes (Trigger.LampTurns r to)) ((Piece.word (ascii "lamp") ∷ ref_pieces primary r) ∷ (Piece.word (ascii "turns") ∷ []) ∷ (Piece.word (power_word to) ∷ []) ∷ []) (simp (append_assoc, append-nil))

pub lamp_level-made : (primary : ℕ) (r : Ref) (way : Crossing) (level : ℕ) → Made (further (trigger_pieces primary no_bytes (Trigger.LampLevelCross r way level))) ((ascii " lamp" ++ further (ref_pieces primary r)) ∷ (ascii " . level crosses") ∷ (further (Piece.word (crossing_word way) ∷ [])) ∷ (further (Piece.integer level ∷ [])) ∷ [])
unfolding chained further spelled spelled_sign trigger_pieces split
lamp_level-made primary r way level = made_of (trigger_pieces primary no_bytes (Trigger.LampLevelCross r way level)) ((Piece.word (ascii "lamp") ∷ ref_pieces primary r) ∷ (Piece.sign POINT ∷ Piece.word (ascii "level") ∷ Piece.word (ascii "crosses") ∷ []) ∷ (Piece.word (crossing_word way) ∷ []) ∷ (Piece.integer level ∷ []) ∷ []) (simp (append_assoc, append-nil))

pub group_becomes-made : (primary : ℕ) (r : Ref) (state : Aggregate) → Made (further (trigger_pieces primary no_bytes (Trigger.GroupBecomes r state))) ((ascii " group" ++ further (ref_pieces primary r)) ∷ (ascii " becomes") ∷ (further (Piece.word (aggregate_word state) ∷ [])) ∷ [])
unfolding chained further spelled spelled_sign trigger_pieces split
group_becomes-made primary r state = made_of (trigger_pieces primary no_bytes (Trigger.GroupBecomes r state)) ((Piece.word (ascii "group") ∷ ref_pieces primary r) ∷ (Piece.word (ascii "becomes") ∷ []) ∷ (Piece.word (aggregate_word state) ∷ []) ∷ []) (simp (append_assoc, append-nil))

pub scene_recalled-made : (primary : ℕ) (adapter : ℕ) (scene : ℕ) → Made (further (trigger_pieces primary no_bytes (Trigger.SceneRecalled adapter scene))) ((ascii " scene (" ++ further (Piece.integer scene ∷ [])) ∷ (further (adapter_pieces primary adapter ++ Piece.sign CLOSE ∷ [])) ∷ (ascii " recalled") ∷ [])
unfolding chained further spelled spelled_sign trigger_pieces split
scene_recalled-made primary adapter scene = made_of (trigger_pieces primary no_bytes (Trigger.SceneRecalled adapter scene)) ((Piece.word (ascii "scene") ∷ Piece.sign OPEN ∷ Piece.integer scene ∷ []) ∷ (adapter_pieces primary adapter ++ Piece.sign CLOSE ∷ []) ∷ (Piece.word (ascii "recalled") ∷ []) ∷ []) (simp (append_assoc, append-nil))

pub device_online-made : (primary : ℕ) (r : Ref) (change : Online) → Made (further (trigger_pieces primary no_bytes (Trigger.DeviceOnline r change))) ((ascii " device" ++ further (ref_pieces primary r)) ∷ (further (words (online_words change))) ∷ [])
unfolding chained further spelled spelled_sign trigger_pieces split
device_online-made primary r change = made_of (trigger_pieces primary no_bytes (Trigger.DeviceOnline r change)) ((Piece.word (ascii "device") ∷ ref_pieces primary r) ∷ (words (online_words change)) ∷ []) (simp (append_assoc, append-nil))

pub hcl_override-made : (primary : ℕ) (to : LightTarget) (change : Override) → Made (further (trigger_pieces primary no_bytes (Trigger.HclOverride to change))) ((ascii " hcl override") ∷ (further (Piece.word (override_word change) ∷ [])) ∷ (ascii " for") ∷ (further (target_pieces primary to)) ∷ [])
unfolding chained further spelled spelled_sign trigger_pieces split
hcl_override-made primary to change = made_of (trigger_pieces primary no_bytes (Trigger.HclOverride to change)) ((Piece.word (ascii "hcl") ∷ Piece.word (ascii "override") ∷ []) ∷ (Piece.word (override_word change) ∷ []) ∷ (Piece.word (ascii "for") ∷ []) ∷ (target_pieces primary to) ∷ []) (simp (append_assoc, append-nil))

pub mqtt_message-made : (text : List ℕ) (name : Name) → Made (further (trigger_pieces 0 (name_in text) (Trigger.MqttMessage name))) ((ascii " mqtt") ∷ (further (Piece.string (name_in text name) ∷ [])) ∷ [])
unfolding chained further spelled spelled_sign trigger_pieces split
mqtt_message-made text name = made_of (trigger_pieces 0 (name_in text) (Trigger.MqttMessage name)) ((Piece.word (ascii "mqtt") ∷ []) ∷ (Piece.string (name_in text name) ∷ []) ∷ []) (simp (append_assoc, append-nil))

pub time_in_range-made : (from : TimeBound) (to : TimeBound) → Made (further (condition_pieces 0 no_bytes (Condition.TimeInRange from to))) ((ascii " time in") ∷ (further (bound_pieces from)) ∷ (ascii " ..") ∷ (further (bound_pieces to)) ∷ [])
unfolding chained further spelled spelled_sign condition_pieces split
time_in_range-made from to = made_of (condition_pieces 0 no_bytes (Condition.TimeInRange from to)) ((Piece.word (ascii "time") ∷ Piece.word (ascii "in") ∷ []) ∷ (bound_pieces from) ∷ (Piece.sign POINTS ∷ []) ∷ (bound_pieces to) ∷ []) (simp (append_assoc, append-nil))

pub sun_is-made : (state : Sun) → Made (further (condition_pieces 0 no_bytes (Condition.SunIs state))) ((ascii " sun is") ∷ (further (Piece.word (sun_word state) ∷ [])) ∷ [])
unfolding chained further spelled spelled_sign condition_pieces split
sun_is-made state = made_of (condition_pieces 0 no_bytes (Condition.SunIs state)) ((Piece.word (ascii "sun") ∷ Piece.word (ascii "is") ∷ []) ∷ (Piece.word (sun_word state) ∷ []) ∷ []) (simp (append_assoc, append-nil))

pub lamp_is-made : (primary : ℕ) (r : Ref) (state : Power) → Made (further (condition_pieces primary no_bytes (Condition.LampIs r state))) ((ascii " lamp" ++ further (ref_pieces primary r)) ∷ (ascii " is") ∷ (further (Piece.word (power_word state) ∷ [])) ∷ [])
unfolding chained further spelled spelled_sign condition_pieces split
lamp_is-made primary r state = made_of (condition_pieces primary no_bytes (Condition.LampIs r state)) ((Piece.word (ascii "lamp") ∷ ref_pieces primary r) ∷ (Piece.word (ascii "is") ∷ []) ∷ (Piece.word (power_word state) ∷ []) ∷ []) (simp (append_assoc, append-nil))

pub lamp_compare-made : (primary : ℕ) (text : List ℕ) (r : Ref) (property : LampProperty) (comparison : Comparison) (value : Value) → Made (further (condition_pieces primary (name_in text) (Condition.LampCompare r property comparison value))) ((ascii " lamp" ++ further (ref_pieces primary r)) ∷ (further (Piece.sign POINT ∷ Piece.word (property_word property) ∷ [])) ∷ (further (Piece.sign (comparison_sign comparison) ∷ [])) ∷ (further (value_pieces primary (name_in text) value)) ∷ [])
unfolding chained further spelled spelled_sign condition_pieces split
lamp_compare-made primary text r property comparison value = made_of (condition_pieces primary (name_in text) (Condition.LampCompare r property comparison value)) ((Piece.word (ascii "lamp") ∷ ref_pieces primary r) ∷ (Piece.sign POINT ∷ Piece.word (property_word property) ∷ []) ∷ (Piece.sign (comparison_sign comparison) ∷ []) ∷ (value_pieces primary (name_in text) value) ∷ []) (simp (append_assoc, append-nil))

pub group_state-made : (primary : ℕ) (r : Ref) (state : Aggregate) → Made (further (condition_pieces primary no_bytes (Condition.GroupState r state))) ((ascii " group" ++ further (ref_pieces primary r)) ∷ (further (Piece.word (aggregate_word state) ∷ [])) ∷ [])
unfolding chained further spelled spelled_sign condition_pieces split
group_state-made primary r state = made_of (condition_pieces primary no_bytes (Condition.GroupState r state)) ((Piece.word (ascii "group") ∷ ref_pieces primary r) ∷ (Piece.word (aggregate_word state) ∷ []) ∷ []) (simp (append_assoc, append-nil))

pub input_state-made : (primary : ℕ) (r : InputRef) (state : Occupancy) → Made (further (condition_pieces primary no_bytes (Condition.InputOccupancy r state))) ((further (input_pieces primary r)) ∷ (ascii " is") ∷ (further (Piece.word (occupancy_word state) ∷ [])) ∷ [])
unfolding chained further spelled spelled_sign condition_pieces split
input_state-made primary r state = made_of (condition_pieces primary no_bytes (Condition.InputOccupancy r state)) ((input_pieces primary r) ∷ (Piece.word (ascii "is") ∷ []) ∷ (Piece.word (occupancy_word state) ∷ []) ∷ []) (simp (append_assoc, append-nil))

pub light_compare-made : (primary : ℕ) (text : List ℕ) (r : InputRef) (way : Crossing) (value : Value) → Made (further (condition_pieces primary (name_in text) (Condition.InputLight r way value))) ((further (input_pieces primary r)) ∷ (ascii " . light") ∷ (further (Piece.word (crossing_word way) ∷ [])) ∷ (further (value_pieces primary (name_in text) value)) ∷ [])
unfolding chained further spelled spelled_sign condition_pieces split
light_compare-made primary text r way value = made_of (condition_pieces primary (name_in text) (Condition.InputLight r way value)) ((input_pieces primary r) ∷ (Piece.sign POINT ∷ Piece.word (ascii "light") ∷ []) ∷ (Piece.word (crossing_word way) ∷ []) ∷ (value_pieces primary (name_in text) value) ∷ []) (simp (append_assoc, append-nil))

pub hcl_state-made : (primary : ℕ) (to : LightTarget) (state : Hcl) → Made (further (condition_pieces primary no_bytes (Condition.HclState to state))) ((ascii " hcl is") ∷ (further (Piece.word (hcl_word state) ∷ [])) ∷ (ascii " for") ∷ (further (target_pieces primary to)) ∷ [])
unfolding chained further spelled spelled_sign condition_pieces split
hcl_state-made primary to state = made_of (condition_pieces primary no_bytes (Condition.HclState to state)) ((Piece.word (ascii "hcl") ∷ Piece.word (ascii "is") ∷ []) ∷ (Piece.word (hcl_word state) ∷ []) ∷ (Piece.word (ascii "for") ∷ []) ∷ (target_pieces primary to) ∷ []) (simp (append_assoc, append-nil))

pub device_is_online-made : (primary : ℕ) (r : Ref) → Made (further (condition_pieces primary no_bytes (Condition.DeviceOnline r))) ((ascii " device" ++ further (ref_pieces primary r)) ∷ (ascii " is online") ∷ [])
unfolding chained further spelled spelled_sign condition_pieces split
device_is_online-made primary r = made_of (condition_pieces primary no_bytes (Condition.DeviceOnline r)) ((Piece.word (ascii "device") ∷ ref_pieces primary r) ∷ (Piece.word (ascii "is") ∷ Piece.word (ascii "online") ∷ []) ∷ []) (simp (append_assoc, append-nil))

pub last_fired-made : (text : List ℕ) (name : Name) (ms : ℕ) → Made (further (condition_pieces 0 (name_in text) (Condition.LastFiredOlderThan name ms))) ((ascii " last_fired") ∷ (further (name_pieces (name_in text) name)) ∷ (ascii " older than") ∷ (further (Piece.duration ms ∷ [])) ∷ [])
unfolding chained further spelled spelled_sign condition_pieces split
last_fired-made text name ms = made_of (condition_pieces 0 (name_in text) (Condition.LastFiredOlderThan name ms)) ((Piece.word (ascii "last_fired") ∷ []) ∷ (name_pieces (name_in text) name) ∷ (Piece.word (ascii "older") ∷ Piece.word (ascii "than") ∷ []) ∷ (Piece.duration ms ∷ []) ∷ []) (simp (append_assoc, append-nil))

pub var_compare-made : (primary : ℕ) (text : List ℕ) (name : Name) (comparison : Comparison) (operand : Operand) → Made (further (condition_pieces primary (name_in text) (Condition.VarCompare name comparison operand))) ((ascii " var") ∷ (further (name_pieces (name_in text) name)) ∷ (further (Piece.sign (comparison_sign comparison) ∷ [])) ∷ (further (operand_pieces primary (name_in text) operand)) ∷ [])
unfolding chained further spelled spelled_sign condition_pieces split
var_compare-made primary text name comparison operand = made_of (condition_pieces primary (name_in text) (Condition.VarCompare name comparison operand)) ((Piece.word (ascii "var") ∷ []) ∷ (name_pieces (name_in text) name) ∷ (Piece.sign (comparison_sign comparison) ∷ []) ∷ (operand_pieces primary (name_in text) operand) ∷ []) (simp (append_assoc, append-nil))

pub day_in-made : (days : Days) → Made (further (condition_pieces 0 no_bytes (Condition.DayIn days))) ((ascii " day in") ∷ (further (days_pieces days)) ∷ [])
unfolding chained further spelled spelled_sign condition_pieces split
day_in-made days = made_of (condition_pieces 0 no_bytes (Condition.DayIn days)) ((Piece.word (ascii "day") ∷ Piece.word (ascii "in") ∷ []) ∷ (days_pieces days) ∷ []) (simp (append_assoc, append-nil))

pub lamp_reading-made : (primary : ℕ) (r : Ref) (property : LampReading) → Made (further (reading_pieces primary no_bytes (Reading.Lamp r property))) ((ascii " lamp" ++ further (ref_pieces primary r)) ∷ (further (Piece.sign POINT ∷ Piece.word (lamp_reading_word property) ∷ [])) ∷ [])
unfolding chained further spelled spelled_sign reading_pieces split
lamp_reading-made primary r property = made_of (reading_pieces primary no_bytes (Reading.Lamp r property)) ((Piece.word (ascii "lamp") ∷ ref_pieces primary r) ∷ (Piece.sign POINT ∷ Piece.word (lamp_reading_word property) ∷ []) ∷ []) (simp (append_assoc, append-nil))

pub group_reading-made : (primary : ℕ) (r : Ref) (property : GroupReading) → Made (further (reading_pieces primary no_bytes (Reading.Group r property))) ((ascii " group" ++ further (ref_pieces primary r)) ∷ (further (Piece.sign POINT ∷ Piece.word (group_reading_word property) ∷ [])) ∷ [])
unfolding chained further spelled spelled_sign reading_pieces split
group_reading-made primary r property = made_of (reading_pieces primary no_bytes (Reading.Group r property)) ((Piece.word (ascii "group") ∷ ref_pieces primary r) ∷ (Piece.sign POINT ∷ Piece.word (group_reading_word property) ∷ []) ∷ []) (simp (append_assoc, append-nil))

pub input_reading-made : (primary : ℕ) (r : InputRef) (property : InputReading) → Made (further (reading_pieces primary no_bytes (Reading.Input r property))) ((further (input_pieces primary r)) ∷ (further (Piece.sign POINT ∷ Piece.word (input_reading_word property) ∷ [])) ∷ [])
unfolding chained further spelled spelled_sign reading_pieces split
input_reading-made primary r property = made_of (reading_pieces primary no_bytes (Reading.Input r property)) ((input_pieces primary r) ∷ (Piece.sign POINT ∷ Piece.word (input_reading_word property) ∷ []) ∷ []) (simp (append_assoc, append-nil))

pub time_reading-made : (property : TimeReading) → Made (further (reading_pieces 0 no_bytes (Reading.Time property))) ((ascii " time") ∷ (further (Piece.sign POINT ∷ Piece.word (time_reading_word property) ∷ [])) ∷ [])
unfolding chained further spelled spelled_sign reading_pieces split
time_reading-made property = made_of (reading_pieces 0 no_bytes (Reading.Time property)) ((Piece.word (ascii "time") ∷ []) ∷ (Piece.sign POINT ∷ Piece.word (time_reading_word property) ∷ []) ∷ []) (simp (append_assoc, append-nil))

pub sun_reading-made : (property : SunReading) → Made (further (reading_pieces 0 no_bytes (Reading.Sun property))) ((ascii " sun") ∷ (further (Piece.sign POINT ∷ Piece.word (sun_reading_word property) ∷ [])) ∷ [])
unfolding chained further spelled spelled_sign reading_pieces split
sun_reading-made property = made_of (reading_pieces 0 no_bytes (Reading.Sun property)) ((Piece.word (ascii "sun") ∷ []) ∷ (Piece.sign POINT ∷ Piece.word (sun_reading_word property) ∷ []) ∷ []) (simp (append_assoc, append-nil))

pub event_reading-made : (property : EventReading) → Made (further (reading_pieces 0 no_bytes (Reading.Event property))) ((ascii " event") ∷ (further (Piece.sign POINT ∷ Piece.word (event_reading_word property) ∷ [])) ∷ [])
unfolding chained further spelled spelled_sign reading_pieces split
event_reading-made property = made_of (reading_pieces 0 no_bytes (Reading.Event property)) ((Piece.word (ascii "event") ∷ []) ∷ (Piece.sign POINT ∷ Piece.word (event_reading_word property) ∷ []) ∷ []) (simp (append_assoc, append-nil))

pub var_reading-made : (text : List ℕ) (name : Name) → Made (further (reading_pieces 0 (name_in text) (Reading.Var name))) ((ascii " var") ∷ (further (name_pieces (name_in text) name)) ∷ [])
unfolding chained further spelled spelled_sign reading_pieces split
var_reading-made text name = made_of (reading_pieces 0 (name_in text) (Reading.Var name)) ((Piece.word (ascii "var") ∷ []) ∷ (name_pieces (name_in text) name) ∷ []) (simp (append_assoc, append-nil))

pub reads_made : (primary : ℕ) (text : List ℕ) (reading : Reading) (delta : Option ℤ) → Made (further (value_pieces primary (name_in text) (Value.Reads reading delta))) ((further (reading_pieces primary (name_in text) reading)) ∷ (further (delta_pieces delta)) ∷ [])
unfolding chained further spelled spelled_sign value_pieces
reads_made primary text reading delta = made_of (value_pieces primary (name_in text) (Value.Reads reading delta)) ((reading_pieces primary (name_in text) reading) ∷ (delta_pieces delta) ∷ []) (simp (append_assoc, append-nil))

pub raw_event-made : (n : ℕ) → Made (further (event_pieces (Event.Raw n))) ((ascii " event ( data =" ++ further (Piece.integer n ∷ [])) ∷ (ascii " )") ∷ [])
unfolding chained further spelled spelled_sign event_pieces
raw_event-made n = made_of (event_pieces (Event.Raw n)) ((Piece.word (ascii "event") ∷ Piece.sign OPEN ∷ Piece.word (ascii "data") ∷ Piece.sign ASSIGN ∷ Piece.integer n ∷ []) ∷ (Piece.sign CLOSE ∷ []) ∷ []) (simp (append_assoc, append-nil))

pub trigger-held : (primary : ℕ) (bytes : Name → List ℕ) {x : Trigger} {event : SolarEvent} {offset held : ℤ} {days : Days} →
    x ≡ Trigger.AtSolar event offset days → held ≡ offset →
    Made (further (trigger_pieces primary bytes x)) (further (trigger_pieces 0 no_bytes (Trigger.AtSolar event held days)) ∷ [])
unfolding trigger_pieces
trigger-held primary bytes {event = event} {days = days} e h =
    of_form (trigger_pieces primary bytes) e (ap (λ (z : ℤ). further (trigger_pieces 0 no_bytes (Trigger.AtSolar event z days))) (sym h))

pub at_solar-held : (event : SolarEvent) (offset : ℤ) (days : Days) {held : ℤ} → held ≡ offset →
    Made (further (trigger_pieces 0 no_bytes (Trigger.AtSolar event offset days)))
    (ascii " at" ∷ further (bound_pieces (TimeBound.Solar event held)) ∷ further (on_pieces days) ∷ [])
at_solar-held event offset days e =
    subst
    (λ (z : ℤ). Made (further (trigger_pieces 0 no_bytes (Trigger.AtSolar event offset days))) (ascii " at" ∷ further (bound_pieces (TimeBound.Solar event z)) ∷ further (on_pieces days) ∷ []))
    (sym e) (at_solar-made event offset days)
