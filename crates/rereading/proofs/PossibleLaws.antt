-- An entry whose numbers are in range, and whose names a text can give, is possible: the test of writing/specs/Possible.antt from what is said of the
-- values alone.
use Rattle.std.specs.Prelude.{Option, Some, None}
use Prim.Native.Nat.{ℕ}
use mathlib.Core.Path.{◌≡◌, refl}
use mathlib.Core.Bool.{Bool, true, false}
use mathlib.Core.List.{List}
use lib.IntN.{ℤ, pos, negsuc}
use borrow.Author.Tests.{le-leb, lt-ltb}
use Rattle.text.specs.Choice.{pick}
use Rattle.model.specs.Limits.{last_short_address}
use Rattle.model.specs.Ranges.{Free, RefInRange, InputInRange, TypeInRange, SelectorInRange, TargetInRange, EventInRange, DaysInRange, TriggerInRange, ReadingInRange, ValueInRange, OperandInRange, ConditionInRange}
use Rattle.model.specs.declared.Condition.{Condition}
use Rattle.model.specs.declared.Days.{Days}
use Rattle.model.specs.declared.Event.{Event}
use Rattle.model.specs.declared.InputRef.{InputRef}
use Rattle.model.specs.declared.LightTarget.{LightTarget}
use Rattle.model.specs.declared.Operand.{Operand}
use Rattle.model.specs.declared.Reading.{Reading}
use Rattle.model.specs.declared.Ref.{Ref}
use Rattle.model.specs.declared.Selector.{Selector}
use Rattle.model.specs.declared.TimeBound.{TimeBound}
use Rattle.model.specs.declared.Trigger.{Trigger}
use Rattle.model.specs.declared.Value.{Value}
use Rattle.language.specs.Numbers.{SignedUpTo, BoundNumbers, TriggerNumbers, DeltaNumbers, ValueNumbers, OperandNumbers, ConditionNumbers}
use Rattle.writing.specs.Possible.{possible_name, possible_text, possible_topic, possible_ref, possible_input, possible_type, possible_selector, possible_target, possible_event, possible_days, possible_time, is_signed_up_to, possible_bound, possible_reading, possible_delta, possible_value, possible_operand, possible_trigger, possible_condition}

-- ---- names

-- every name of an entry is one that a text can give, as its form asks
unfoldable pub ReadingNames : List ℕ → Reading → Type 0
ReadingNames text (Reading.Lamp r p) = Free
ReadingNames text (Reading.Group r p) = Free
ReadingNames text (Reading.Input r p) = Free
ReadingNames text (Reading.Time p) = Free
ReadingNames text (Reading.Sun p) = Free
ReadingNames text (Reading.Event p) = Free
ReadingNames text (Reading.Var n) = possible_name text n ≡ true

unfoldable pub ValueNames : List ℕ → Value → Type 0
ValueNames text (Value.Literal z) = Free
ValueNames text (Value.Reads r delta) = ReadingNames text r

unfoldable pub OperandNames : List ℕ → Operand → Type 0
OperandNames text (Operand.Text n) = possible_text text n ≡ true
OperandNames text (Operand.Number v) = ValueNames text v

unfoldable pub TriggerNames : List ℕ → Trigger → Type 0
TriggerNames text (Trigger.InputEvent s e) = Free
TriggerNames text (Trigger.InputOccupancy r state) = Free
TriggerNames text (Trigger.InputLightCross r way n) = Free
TriggerNames text (Trigger.InputPositionChange r) = Free
TriggerNames text (Trigger.InputDevicePowerCycled r) = Free
TriggerNames text (Trigger.InputDeviceManualConfigChanged r) = Free
TriggerNames text (Trigger.AtTime m days) = Free
TriggerNames text (Trigger.AtSolar event offset days) = Free
TriggerNames text (Trigger.Every ms) = Free
TriggerNames text (Trigger.LampTurns r to) = Free
TriggerNames text (Trigger.LampLevelCross r way n) = Free
TriggerNames text (Trigger.GroupBecomes r state) = Free
TriggerNames text (Trigger.SceneRecalled a scene) = Free
TriggerNames text (Trigger.DeviceOnline r change) = Free
TriggerNames text (Trigger.HclOverride to change) = Free
TriggerNames text (Trigger.TimerFires n) = possible_name text n ≡ true
TriggerNames text Trigger.ControllerStarts = Free
TriggerNames text Trigger.ControllerBecomesActive = Free
TriggerNames text (Trigger.RuleFails n) = possible_name text n ≡ true
TriggerNames text Trigger.HttpTrigger = Free
TriggerNames text (Trigger.MqttMessage topic) = possible_topic text topic ≡ true

unfoldable pub ConditionNames : List ℕ → Condition → Type 0
ConditionNames text (Condition.TimeInRange from to) = Free
ConditionNames text (Condition.SunIs state) = Free
ConditionNames text (Condition.LampIs r state) = Free
ConditionNames text (Condition.LampCompare r p c v) = ValueNames text v
ConditionNames text (Condition.GroupState r state) = Free
ConditionNames text (Condition.InputOccupancy r state) = Free
ConditionNames text (Condition.InputLight r way v) = ValueNames text v
ConditionNames text (Condition.HclState to state) = Free
ConditionNames text (Condition.DeviceOnline r) = Free
ConditionNames text (Condition.RuleEnabled n) = possible_name text n ≡ true
ConditionNames text (Condition.LastFiredOlderThan n ms) = possible_name text n ≡ true
ConditionNames text (Condition.TimerRunning n) = possible_name text n ≡ true
ConditionNames text Condition.ControllerActive = Free
ConditionNames text (Condition.VarCompare n c v) = (possible_name text n ≡ true) × OperandNames text v
ConditionNames text (Condition.DayIn days) = Free

-- ---- numbers

-- two tests that hold, the second asked only if the first holds
pub holds : {t u : Bool} → t ≡ true → u ≡ true → pick t u false ≡ true
holds e f = rw e f

ref_possible : (most : ℕ) (r : Ref) → RefInRange most r → possible_ref most r ≡ true
unfolding possible_ref
ref_possible most r h = holds (le-leb _ _ h.0) (le-leb _ _ h.1)

input-possible : (r : InputRef) → InputInRange r → possible_input r ≡ true
unfolding possible_input
input-possible r h = holds (ref_possible last_short_address r.device h.0) (le-leb _ _ h.1)

type-possible : (n : Option ℕ) → TypeInRange n → possible_type n ≡ true
unfolding possible_type TypeInRange
type-possible None h = refl
type-possible (Some n) h = le-leb _ _ h

selector-possible : (s : Selector) → SelectorInRange s → possible_selector s ≡ true
unfolding possible_selector SelectorInRange
selector-possible (Selector.Instance r n) h = holds (ref_possible _ r h.0) (le-leb _ _ h.1)
selector-possible (Selector.Group a g of) h = holds (le-leb _ _ h.0) (holds (le-leb _ _ h.1) (type-possible of h.2))

target-possible : (to : LightTarget) → TargetInRange to → possible_target to ≡ true
unfolding possible_target TargetInRange
target-possible (LightTarget.Lamp r) h = ref_possible _ r h
target-possible (LightTarget.Group r) h = ref_possible _ r h
target-possible (LightTarget.Broadcast a) h = le-leb _ _ h

event-possible : (e : Event) → EventInRange e → possible_event e ≡ true
unfolding possible_event EventInRange
event-possible Event.Press h = refl
event-possible Event.Release h = refl
event-possible Event.ShortPress h = refl
event-possible Event.DoublePress h = refl
event-possible Event.LongPressStart h = refl
event-possible Event.LongPressRepeat h = refl
event-possible Event.LongPressStop h = refl
event-possible Event.ButtonFree h = refl
event-possible Event.ButtonStuck h = refl
event-possible Event.Movement h = refl
event-possible Event.NoMovement h = refl
event-possible Event.AnyEvent h = refl
event-possible (Event.Raw n) h = le-leb _ _ h

days-possible : (days : Days) → DaysInRange days → possible_days days ≡ true
unfolding possible_days DaysInRange
days-possible days h = holds (le-leb _ _ h.0) (lt-ltb _ _ h.1)

signed-possible : (above below : ℕ) (z : ℤ) → SignedUpTo above below z → is_signed_up_to above below z ≡ true
unfolding is_signed_up_to SignedUpTo
signed-possible above below (pos n) h = le-leb _ _ h
signed-possible above below (negsuc n) h = lt-ltb _ _ h

bound-possible : (b : TimeBound) → BoundNumbers b → possible_bound b ≡ true
unfolding possible_bound possible_time BoundNumbers
bound-possible (TimeBound.Clock m) h = lt-ltb _ _ h
bound-possible (TimeBound.Solar event offset) h = signed-possible _ _ offset h

-- ---- entries

module _ (text : List ℕ) where
  reading-possible : (r : Reading) → ReadingInRange r → ReadingNames text r → possible_reading text r ≡ true
  unfolding possible_reading ReadingInRange ReadingNames
  reading-possible (Reading.Lamp r p) h n = ref_possible _ r h
  reading-possible (Reading.Group r p) h n = ref_possible _ r h
  reading-possible (Reading.Input r p) h n = input-possible r h
  reading-possible (Reading.Time p) h n = refl
  reading-possible (Reading.Sun p) h n = refl
  reading-possible (Reading.Event p) h n = refl
  reading-possible (Reading.Var name) h n = n

  delta-possible : (delta : Option ℤ) → DeltaNumbers delta → possible_delta delta ≡ true
  unfolding possible_delta DeltaNumbers
  delta-possible None k = refl
  delta-possible (Some z) k = signed-possible _ _ z k

  value-possible : (v : Value) → ValueInRange v → ValueNumbers v → ValueNames text v → possible_value text v ≡ true
  unfolding possible_value ValueInRange ValueNumbers ValueNames
  value-possible (Value.Literal z) h k n = signed-possible _ _ z k
  value-possible (Value.Reads r delta) h k n = holds (reading-possible r h n) (delta-possible delta k)

  operand-possible : (v : Operand) → OperandInRange v → OperandNumbers v → OperandNames text v → possible_operand text v ≡ true
  unfolding possible_operand OperandInRange OperandNumbers OperandNames
  operand-possible (Operand.Text name) h k n = n
  operand-possible (Operand.Number v) h k n = value-possible v h k n

  pub trigger-possible : (x : Trigger) → TriggerInRange x → TriggerNumbers x → TriggerNames text x → possible_trigger text x ≡ true
  unfolding possible_trigger possible_time TriggerInRange TriggerNumbers TriggerNames
  trigger-possible (Trigger.InputEvent s e) h k n = holds (selector-possible s h.0) (event-possible e h.1)
  trigger-possible (Trigger.InputOccupancy r state) h k n = input-possible r h
  trigger-possible (Trigger.InputLightCross r way light) h k n = holds (input-possible r h.0) (le-leb _ _ h.1)
  trigger-possible (Trigger.InputPositionChange r) h k n = input-possible r h
  trigger-possible (Trigger.InputDevicePowerCycled r) h k n = ref_possible _ r h
  trigger-possible (Trigger.InputDeviceManualConfigChanged r) h k n = ref_possible _ r h
  trigger-possible (Trigger.AtTime m days) h k n = holds (lt-ltb _ _ k) (days-possible days h)
  trigger-possible (Trigger.AtSolar event offset days) h k n = holds (signed-possible _ _ offset k) (days-possible days h)
  trigger-possible (Trigger.Every ms) h k n = holds (le-leb _ _ k.0) (le-leb _ _ k.1)
  trigger-possible (Trigger.LampTurns r to) h k n = ref_possible _ r h
  trigger-possible (Trigger.LampLevelCross r way level) h k n = holds (ref_possible _ r h.0) (le-leb _ _ h.1)
  trigger-possible (Trigger.GroupBecomes r state) h k n = ref_possible _ r h
  trigger-possible (Trigger.SceneRecalled a scene) h k n = holds (le-leb _ _ h.0) (le-leb _ _ h.1)
  trigger-possible (Trigger.DeviceOnline r change) h k n = ref_possible _ r h
  trigger-possible (Trigger.HclOverride to change) h k n = target-possible to h
  trigger-possible (Trigger.TimerFires name) h k n = n
  trigger-possible Trigger.ControllerStarts h k n = refl
  trigger-possible Trigger.ControllerBecomesActive h k n = refl
  trigger-possible (Trigger.RuleFails name) h k n = n
  trigger-possible Trigger.HttpTrigger h k n = refl
  trigger-possible (Trigger.MqttMessage topic) h k n = n

  pub condition-possible : (y : Condition) → ConditionInRange y → ConditionNumbers y → ConditionNames text y → possible_condition text y ≡ true
  unfolding possible_condition ConditionInRange ConditionNumbers ConditionNames
  condition-possible (Condition.TimeInRange from to) h k n = holds (bound-possible from k.0) (bound-possible to k.1)
  condition-possible (Condition.SunIs state) h k n = refl
  condition-possible (Condition.LampIs r state) h k n = ref_possible _ r h
  condition-possible (Condition.LampCompare r p c v) h k n = holds (ref_possible _ r h.0) (value-possible v h.1 k n)
  condition-possible (Condition.GroupState r state) h k n = ref_possible _ r h
  condition-possible (Condition.InputOccupancy r state) h k n = input-possible r h
  condition-possible (Condition.InputLight r way v) h k n = holds (input-possible r h.0) (value-possible v h.1 k n)
  condition-possible (Condition.HclState to state) h k n = target-possible to h
  condition-possible (Condition.DeviceOnline r) h k n = ref_possible _ r h
  condition-possible (Condition.RuleEnabled name) h k n = n
  condition-possible (Condition.LastFiredOlderThan name ms) h k n = holds n (le-leb _ _ k)
  condition-possible (Condition.TimerRunning name) h k n = n
  condition-possible Condition.ControllerActive h k n = refl
  condition-possible (Condition.VarCompare name c v) h k n = holds n.0 (operand-possible v h k n.1)
  condition-possible (Condition.DayIn days) h k n = days-possible days h
