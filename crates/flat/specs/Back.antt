-- An entry read back from its row of words. A kind or code stands for the form whose words begin with it (Flat.antt, Codes.antt), so that no such number is said
-- again here. The form's parts are read from the words behind it, and a word that the form does not name is not looked at. What is read from words that no
-- entry gives plays no part: any entry will do.
use Rattle.std.specs.Prelude.{ℕ, ◌+◌, ◌*◌, ◌-◌, ◌^◌, List, [], ◌∷◌, get_or, ltb, eqb, ℤ, pos, negsuc, Option, Some, None}
use Rattle.text.specs.Choice.{pick}
use Rattle.model.specs.declared.Aggregate.{Aggregate}
use Rattle.model.specs.declared.Comparison.{Comparison}
use Rattle.model.specs.declared.Condition.{Condition}
use Rattle.model.specs.declared.Crossing.{Crossing}
use Rattle.model.specs.declared.Crossing.TheVariants.{Above, Below}
use Rattle.model.specs.declared.Days.{Days}
use Rattle.model.specs.declared.Event.{Event}
use Rattle.model.specs.declared.EventReading.{EventReading}
use Rattle.model.specs.declared.GroupReading.{GroupReading}
use Rattle.model.specs.declared.Hcl.{Hcl}
use Rattle.model.specs.declared.InputReading.{InputReading}
use Rattle.model.specs.declared.InputRef.{InputRef}
use Rattle.model.specs.declared.LampProperty.{LampProperty}
use Rattle.model.specs.declared.LampReading.{LampReading}
use Rattle.model.specs.declared.LightTarget.{LightTarget}
use Rattle.model.specs.declared.Name.{Name}
use Rattle.model.specs.declared.Occupancy.{Occupancy}
use Rattle.model.specs.declared.Online.{Online}
use Rattle.model.specs.declared.Operand.{Operand}
use Rattle.model.specs.declared.Override.{Override}
use Rattle.model.specs.declared.Power.{Power}
use Rattle.model.specs.declared.Reading.{Reading}
use Rattle.model.specs.declared.Ref.{Ref}
use Rattle.model.specs.declared.Selector.{Selector}
use Rattle.model.specs.declared.SolarEvent.{SolarEvent}
use Rattle.model.specs.declared.Sun.{Sun}
use Rattle.model.specs.declared.SunReading.{SunReading}
use Rattle.model.specs.declared.TimeBound.{TimeBound}
use Rattle.model.specs.declared.TimeReading.{TimeReading}
use Rattle.model.specs.declared.Trigger.{Trigger}
use Rattle.model.specs.declared.Value.{Value}
use Rattle.flat.specs.Codes.{power_code, occupancy_code, crossing_code, aggregate_code, online_code, override_code, sun_code, hcl_code, solar_code, comparison_code, no_type}
use Rattle.flat.specs.Flat.{selector_words, event_words, target_words, bound_words, reading_words, value_words, operand_words, trigger_words, condition_words}

-- a word of a row; 0 past the row's end
abbrev pub word : List ℕ → ℕ → ℕ
word row i = get_or row i 0

-- the first of x and xs that has the code n, and the last where none has
unfoldable pub coded : {A : Type 0} → (A → ℕ) → ℕ → A → List A → A
coded code n x [] = x
coded code n x (y ∷ ys) = pick (eqb n (code x)) x (coded code n y ys)

-- the first of x and xs whose words begin with n, and the last where none do
unfoldable pub headed : {A : Type 0} → (A → List ℕ) → ℕ → A → List A → A
headed words n x xs = coded (λ y. word (words y) 0) n x xs

-- the choices

unfoldable pub power_back : ℕ → Power
power_back n = coded power_code n Power.On (Power.Off ∷ [])

unfoldable pub occupancy_back : ℕ → Occupancy
occupancy_back n = coded occupancy_code n Occupancy.Occupied (Occupancy.Vacant ∷ [])

unfoldable pub crossing_back : ℕ → Crossing
crossing_back n = coded crossing_code n Above (Below ∷ [])

unfoldable pub aggregate_back : ℕ → Aggregate
aggregate_back n = coded aggregate_code n Aggregate.AnyOn (Aggregate.AllOff ∷ [])

unfoldable pub online_back : ℕ → Online
online_back n = coded online_code n Online.GoesOffline (Online.ComesOnline ∷ [])

unfoldable pub override_back : ℕ → Override
override_back n = coded override_code n Override.Starts (Override.Clears ∷ [])

unfoldable pub sun_back : ℕ → Sun
sun_back n = coded sun_code n Sun.Up (Sun.Down ∷ [])

unfoldable pub hcl_back : ℕ → Hcl
hcl_back n = coded hcl_code n Hcl.Enabled (Hcl.Overridden ∷ [])

unfoldable pub solar_back : ℕ → SolarEvent
solar_back n = coded solar_code n SolarEvent.Sunrise (SolarEvent.Sunset ∷ [])

unfoldable pub comparison_back : ℕ → Comparison
comparison_back n =
    coded comparison_code n Comparison.Eq
    (Comparison.Ne ∷ Comparison.Ge ∷ Comparison.Le ∷ Comparison.Gt ∷ Comparison.Lt ∷ [])

-- numbers

-- from its two's complement, a number from -most to most - 1
unfoldable pub signed_back : ℕ → ℕ → ℤ
signed_back most n = pick (ltb n most) (pos n) (negsuc (2 * most - 1 - n))

-- of 32 bits, from its lower word
unfoldable pub offset_back : ℕ → ℤ
offset_back low = signed_back (2 ^ 31) low

-- of 64 bits, from both words
unfoldable pub number_back : ℕ → ℕ → ℤ
number_back low high = signed_back (2 ^ 63) (low + 2 ^ 32 * high)

unfoldable pub type_back : ℕ → Option ℕ
type_back n = pick (eqb n no_type) None (Some n)

-- the parts of a row, each from its words

abbrev pub ref_back : ℕ → ℕ → Ref
ref_back a b = record { adapter = a; number = b }

abbrev pub input_back : ℕ → ℕ → ℕ → InputRef
input_back a b c = record { device = ref_back a b; instance = c }

abbrev pub name_back : ℕ → ℕ → Name
name_back a b = record { start = a; length = b }

abbrev pub days_back : ℕ → Days
days_back n = record { sum = n }

unfoldable pub selector_back : ℕ → ℕ → ℕ → ℕ → Selector
selector_back n a b c =
    headed selector_words n
    (Selector.Instance (ref_back a b) c)
    (Selector.Group a b (type_back c) ∷ [])

unfoldable pub event_back : ℕ → ℕ → Event
event_back n a =
    headed event_words n
    Event.Press
    (Event.Release
    ∷ Event.ShortPress
    ∷ Event.DoublePress
    ∷ Event.LongPressStart
    ∷ Event.LongPressRepeat
    ∷ Event.LongPressStop
    ∷ Event.ButtonFree
    ∷ Event.ButtonStuck
    ∷ Event.Movement
    ∷ Event.NoMovement
    ∷ Event.AnyEvent
    ∷ Event.Raw a
    ∷ [])

unfoldable pub target_back : ℕ → ℕ → ℕ → LightTarget
target_back n a b =
    headed target_words n
    (LightTarget.Lamp (ref_back a b))
    (LightTarget.Group (ref_back a b) ∷ LightTarget.Broadcast a ∷ [])

unfoldable pub bound_back : ℕ → ℕ → ℕ → TimeBound
bound_back n a b =
    headed bound_words n
    (TimeBound.Clock a)
    (TimeBound.Solar (solar_back a) (offset_back b) ∷ [])

unfoldable pub reading_back : ℕ → ℕ → ℕ → ℕ → Reading
reading_back n a b c =
    let ref = ref_back a b in
    let input = input_back a b c in
    headed reading_words n
    (Reading.Lamp ref LampReading.Level)
    (Reading.Lamp ref LampReading.Cct
    ∷ Reading.Lamp ref LampReading.IsOn
    ∷ Reading.Lamp ref LampReading.LastLevel
    ∷ Reading.Group ref GroupReading.AnyOn
    ∷ Reading.Group ref GroupReading.AllOff
    ∷ Reading.Group ref GroupReading.MemberCount
    ∷ Reading.Input input InputReading.Occupied
    ∷ Reading.Input input InputReading.Light
    ∷ Reading.Input input InputReading.Position
    ∷ Reading.Input input InputReading.LastEventAge
    ∷ Reading.Time TimeReading.Now
    ∷ Reading.Time TimeReading.Hour
    ∷ Reading.Time TimeReading.Minute
    ∷ Reading.Time TimeReading.Weekday
    ∷ Reading.Sun SunReading.Rise
    ∷ Reading.Sun SunReading.Set
    ∷ Reading.Sun SunReading.IsUp
    ∷ Reading.Event EventReading.Value
    ∷ Reading.Event EventReading.Device
    ∷ Reading.Event EventReading.Instance
    ∷ Reading.Event EventReading.Option
    ∷ Reading.Var (name_back a b)
    ∷ [])

unfoldable pub value_back : ℕ → ℕ → ℕ → ℕ → ℕ → ℕ → ℕ → Value
value_back n code a b c low high =
    headed value_words n
    (Value.Literal (number_back low high))
    (Value.Reads (reading_back code a b c) None
    ∷ Value.Reads (reading_back code a b c) (Some (number_back low high))
    ∷ [])

-- a string, or a number from the words of a value
unfoldable pub operand_back : ℕ → ℕ → ℕ → ℕ → ℕ → ℕ → ℕ → Operand
operand_back n a b c d low high =
    headed operand_words n
    (Operand.Text (name_back a b))
    (Operand.Number (value_back n a b c d low high) ∷ [])

-- the entries, each from its row

unfoldable pub trigger_back : List ℕ → Trigger
trigger_back row =
    let w = word row in
    let ref = ref_back (w 1) (w 2) in
    let input = input_back (w 1) (w 2) (w 3) in
    let name = name_back (w 1) (w 2) in
    headed trigger_words (w 0)
    (Trigger.InputEvent (selector_back (w 1) (w 2) (w 3) (w 4)) (event_back (w 5) (w 6)))
    (Trigger.InputOccupancy input (occupancy_back (w 4))
    ∷ Trigger.InputLightCross input (crossing_back (w 4)) (w 5)
    ∷ Trigger.InputPositionChange input
    ∷ Trigger.InputDevicePowerCycled ref
    ∷ Trigger.InputDeviceManualConfigChanged ref
    ∷ Trigger.AtTime (w 1) (days_back (w 2))
    ∷ Trigger.AtSolar (solar_back (w 1)) (offset_back (w 2)) (days_back (w 3))
    ∷ Trigger.Every (w 1)
    ∷ Trigger.LampTurns ref (power_back (w 3))
    ∷ Trigger.LampLevelCross ref (crossing_back (w 3)) (w 4)
    ∷ Trigger.GroupBecomes ref (aggregate_back (w 3))
    ∷ Trigger.SceneRecalled (w 1) (w 2)
    ∷ Trigger.DeviceOnline ref (online_back (w 3))
    ∷ Trigger.HclOverride (target_back (w 1) (w 2) (w 3)) (override_back (w 4))
    ∷ Trigger.TimerFires name
    ∷ Trigger.ControllerStarts
    ∷ Trigger.ControllerBecomesActive
    ∷ Trigger.RuleFails name
    ∷ Trigger.HttpTrigger
    ∷ Trigger.MqttMessage name
    ∷ [])

unfoldable pub condition_back : List ℕ → Condition
condition_back row =
    let w = word row in
    let ref = ref_back (w 1) (w 2) in
    let input = input_back (w 1) (w 2) (w 3) in
    let name = name_back (w 1) (w 2) in
    let compared = value_back (w 4) (w 5) (w 6) (w 7) (w 8) (w 9) (w 10) in
    headed condition_words (w 0)
    (Condition.TimeInRange (bound_back (w 1) (w 2) (w 3)) (bound_back (w 4) (w 5) (w 6)))
    (Condition.SunIs (sun_back (w 1))
    ∷ Condition.LampIs ref (power_back (w 3))
    ∷ Condition.LampCompare ref LampProperty.Level (comparison_back (w 3)) compared
    ∷ Condition.LampCompare ref LampProperty.Cct (comparison_back (w 3)) compared
    ∷ Condition.GroupState ref (aggregate_back (w 3))
    ∷ Condition.InputOccupancy input (occupancy_back (w 4))
    ∷ Condition.InputLight input (crossing_back (w 4)) (value_back (w 5) (w 6) (w 7) (w 8) (w 9) (w 10) (w 11))
    ∷ Condition.HclState (target_back (w 1) (w 2) (w 3)) (hcl_back (w 4))
    ∷ Condition.DeviceOnline ref
    ∷ Condition.RuleEnabled name
    ∷ Condition.LastFiredOlderThan name (w 3)
    ∷ Condition.TimerRunning name
    ∷ Condition.ControllerActive
    ∷ Condition.VarCompare name (comparison_back (w 3)) (operand_back (w 4) (w 5) (w 6) (w 7) (w 8) (w 9) (w 10))
    ∷ Condition.DayIn (days_back (w 1))
    ∷ [])
