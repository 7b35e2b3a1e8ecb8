-- Every reference in a value of a rule, and every instance, scene, level, event information and day set, is within the range of its kind (Limits.antt):
-- said of the values alone, one line for each case.
use Rattle.std.specs.Prelude.{ℕ, ◌^◌, ◌≤◌, ◌<◌, List, [], ◌∷◌, Option, Some, None}
use Rattle.model.specs.Limits.{last_short_address, last_group, last_scene, last_level, last_instance, last_instance_group, last_instance_type, last_event_information, last_adapter, week_days}
use Rattle.model.specs.declared.Ref.{Ref}
use Rattle.model.specs.declared.InputRef.{InputRef}
use Rattle.model.specs.declared.Selector.{Selector}
use Rattle.model.specs.declared.LightTarget.{LightTarget}
use Rattle.model.specs.declared.Days.{Days}
use Rattle.model.specs.declared.Event.{Event}
use Rattle.model.specs.declared.Event.TheVariants.{Press, Release, ShortPress, DoublePress, LongPressStart, LongPressRepeat, LongPressStop, ButtonFree, ButtonStuck, Movement, NoMovement, AnyEvent, Raw}
use Rattle.model.specs.declared.Reading.{Reading}
use Rattle.model.specs.declared.Value.{Value}
use Rattle.model.specs.declared.Value.TheVariants.{Literal, Reads}
use Rattle.model.specs.declared.Operand.{Operand}
use Rattle.model.specs.declared.Trigger.{Trigger}
use Rattle.model.specs.declared.Condition.{Condition}

-- nothing to say: no such number in the value
abbrev pub Free : Type 0
Free = Unit {0}

-- "A is 0 to 255", and the number on the adapter is at most `most`
abbrev pub RefInRange : ℕ → Ref → Type 0
RefInRange most r = (r.adapter ≤ last_adapter) × (r.number ≤ most)

-- "Ids: lamp and device 0 to 63, group 0 to 15."
abbrev pub LampInRange : Ref → Type 0
LampInRange r = RefInRange last_short_address r

abbrev pub DeviceInRange : Ref → Type 0
DeviceInRange r = RefInRange last_short_address r

abbrev pub GroupInRange : Ref → Type 0
GroupInRange r = RefInRange last_group r

-- "DEV is an input device's name or address 0 to 63."
abbrev pub DevInRange : Ref → Type 0
DevInRange r = RefInRange last_short_address r

-- "inst=0..31"
abbrev pub InputInRange : InputRef → Type 0
InputInRange r = DevInRange r.device × (r.instance ≤ last_instance)

-- "type=0..31 or button 1, absolute 2, occupancy 3, light 4"
unfoldable pub TypeInRange : Option ℕ → Type 0
TypeInRange None = Free
TypeInRange (Some n) = n ≤ last_instance_type

-- "inst=0..31, group=0..31"
unfoldable pub SelectorInRange : Selector → Type 0
SelectorInRange (Selector.Instance r n) = DevInRange r × (n ≤ last_instance)
SelectorInRange (Selector.Group a g kind) = (a ≤ last_adapter) × (g ≤ last_instance_group) × TypeInRange kind

-- "TARGET is lamp R, group R or broadcast (primary)."
unfoldable pub TargetInRange : LightTarget → Type 0
TargetInRange (LightTarget.Lamp r) = LampInRange r
TargetInRange (LightTarget.Group r) = GroupInRange r
TargetInRange (LightTarget.Broadcast a) = a ≤ last_adapter

-- "event(data=0..1023)"
unfoldable pub EventInRange : Event → Type 0
EventInRange Press = Free
EventInRange Release = Free
EventInRange ShortPress = Free
EventInRange DoublePress = Free
EventInRange LongPressStart = Free
EventInRange LongPressRepeat = Free
EventInRange LongPressStop = Free
EventInRange ButtonFree = Free
EventInRange ButtonStuck = Free
EventInRange Movement = Free
EventInRange NoMovement = Free
EventInRange AnyEvent = Free
EventInRange (Raw n) = n ≤ last_event_information

-- document 02, §1: at least one day, and none but the seven
unfoldable pub DaysInRange : Days → Type 0
DaysInRange days = (1 ≤ days.sum) × (days.sum < 2 ^ week_days)

-- "scene (0..15 …)", "crosses above or below 0..254", "crosses above or below 0..1023"
unfoldable pub TriggerInRange : Trigger → Type 0
TriggerInRange (Trigger.InputEvent s event) = SelectorInRange s × EventInRange event
TriggerInRange (Trigger.InputOccupancy r state) = InputInRange r
TriggerInRange (Trigger.InputLightCross r way light) = InputInRange r × (light ≤ last_event_information)
TriggerInRange (Trigger.InputPositionChange r) = InputInRange r
TriggerInRange (Trigger.InputDevicePowerCycled r) = DevInRange r
TriggerInRange (Trigger.InputDeviceManualConfigChanged r) = DevInRange r
TriggerInRange (Trigger.AtTime m days) = DaysInRange days
TriggerInRange (Trigger.AtSolar event offset days) = DaysInRange days
TriggerInRange (Trigger.Every ms) = Free
TriggerInRange (Trigger.LampTurns r power) = LampInRange r
TriggerInRange (Trigger.LampLevelCross r way level) = LampInRange r × (level ≤ last_level)
TriggerInRange (Trigger.GroupBecomes r state) = GroupInRange r
TriggerInRange (Trigger.SceneRecalled a scene) = (a ≤ last_adapter) × (scene ≤ last_scene)
TriggerInRange (Trigger.DeviceOnline r change) = DeviceInRange r
TriggerInRange (Trigger.HclOverride target change) = TargetInRange target
TriggerInRange (Trigger.TimerFires name) = Free
TriggerInRange Trigger.ControllerStarts = Free
TriggerInRange Trigger.ControllerBecomesActive = Free
TriggerInRange (Trigger.RuleFails name) = Free
TriggerInRange Trigger.HttpTrigger = Free
TriggerInRange (Trigger.MqttMessage topic) = Free

-- the references in a reading, and in a value or an operand with one
unfoldable pub ReadingInRange : Reading → Type 0
ReadingInRange (Reading.Lamp r p) = LampInRange r
ReadingInRange (Reading.Group r p) = GroupInRange r
ReadingInRange (Reading.Input r p) = InputInRange r
ReadingInRange (Reading.Time p) = Free
ReadingInRange (Reading.Sun p) = Free
ReadingInRange (Reading.Event p) = Free
ReadingInRange (Reading.Var name) = Free

unfoldable pub ValueInRange : Value → Type 0
ValueInRange (Literal z) = Free
ValueInRange (Reads r delta) = ReadingInRange r

unfoldable pub OperandInRange : Operand → Type 0
OperandInRange (Operand.Text name) = Free
OperandInRange (Operand.Number v) = ValueInRange v

unfoldable pub ConditionInRange : Condition → Type 0
ConditionInRange (Condition.TimeInRange start end) = Free
ConditionInRange (Condition.SunIs sun) = Free
ConditionInRange (Condition.LampIs r power) = LampInRange r
ConditionInRange (Condition.LampCompare r p c v) = LampInRange r × ValueInRange v
ConditionInRange (Condition.GroupState r state) = GroupInRange r
ConditionInRange (Condition.InputOccupancy r state) = InputInRange r
ConditionInRange (Condition.InputLight r way v) = InputInRange r × ValueInRange v
ConditionInRange (Condition.HclState target state) = TargetInRange target
ConditionInRange (Condition.DeviceOnline r) = DeviceInRange r
ConditionInRange (Condition.RuleEnabled name) = Free
ConditionInRange (Condition.LastFiredOlderThan name ms) = Free
ConditionInRange (Condition.TimerRunning name) = Free
ConditionInRange Condition.ControllerActive = Free
ConditionInRange (Condition.VarCompare name c v) = OperandInRange v
ConditionInRange (Condition.DayIn days) = DaysInRange days

-- each entry of a list
pub data Each {A : Type 0} (P : A → Type 0) : List A → Type 0 where
  none : Each P []
  more : {x : A} {xs : List A} → P x → Each P xs → Each P (x ∷ xs)

-- the lists of a reading
pub record InRange (xs : List Trigger) (ys : List Condition) : Type 0 where
  pub triggers : Each TriggerInRange xs
  pub conditions : Each ConditionInRange ys
