-- Every number in a value of a rule that an integer, a time or a duration writes is within its limits: said of the values alone, one line for each case.
-- References, levels, scenes, event information and day sets are in the model's Ranges.antt. proofs/NumberLaws.antt shows it of every reading of a text's tokens.
use Rattle.std.specs.Prelude.{ℕ, ◌≤◌, ◌<◌, List, ℤ, pos, negsuc, Option, Some, None}
use Rattle.tokens.specs.Amount.{most_ms}
use Rattle.tokens.specs.Rules.{most_run}
use Rattle.tokens.specs.Numbers.{day_minutes}
use Rattle.model.specs.Ranges.{Free, Each}
use Rattle.language.specs.Limits.{least_period, most_later, most_earlier}
use Rattle.model.specs.declared.TimeBound.{TimeBound}
use Rattle.model.specs.declared.TimeBound.TheVariants.{Clock, Solar}
use Rattle.model.specs.declared.Value.{Value}
use Rattle.model.specs.declared.Value.TheVariants.{Literal, Reads}
use Rattle.model.specs.declared.Operand.{Operand}
use Rattle.model.specs.declared.Trigger.{Trigger}
use Rattle.model.specs.declared.Condition.{Condition}

-- a signed number that is at most `above` over 0 and at most `below` under it; `negsuc n` is n + 1 under it
unfoldable pub SignedUpTo : ℕ → ℕ → ℤ → Type 0
SignedUpTo above below (pos n) = n ≤ above
SignedUpTo above below (negsuc n) = n < below

-- "an integer with perhaps one sign"; "Each digit run at most 1,000,000,000"
abbrev pub IntegerInRange : ℤ → Type 0
IntegerInRange z = SignedUpTo most_run most_run z

-- "time (hour × 60 + minute)", "at most 23:59"
abbrev pub TimeInRange : ℕ → Type 0
TimeInRange m = m < day_minutes

-- "At most 4,294,967,295 ms? 17."
abbrev pub DurationInRange : ℕ → Type 0
DurationInRange ms = ms ≤ most_ms

-- "Solar offset within 32 signed bits? 36."
abbrev pub OffsetInRange : ℤ → Type 0
OffsetInRange z = SignedUpTo most_later most_earlier z

-- "A time bound is a TIME or a SOLAR."
unfoldable pub BoundNumbers : TimeBound → Type 0
BoundNumbers (Clock m) = TimeInRange m
BoundNumbers (Solar event offset) = OffsetInRange offset

-- "Every period at least 1,000 ms? 35."
unfoldable pub TriggerNumbers : Trigger → Type 0
TriggerNumbers (Trigger.InputEvent s event) = Free
TriggerNumbers (Trigger.InputOccupancy r state) = Free
TriggerNumbers (Trigger.InputLightCross r way light) = Free
TriggerNumbers (Trigger.InputPositionChange r) = Free
TriggerNumbers (Trigger.InputDevicePowerCycled r) = Free
TriggerNumbers (Trigger.InputDeviceManualConfigChanged r) = Free
TriggerNumbers (Trigger.AtTime m days) = TimeInRange m
TriggerNumbers (Trigger.AtSolar event offset days) = OffsetInRange offset
TriggerNumbers (Trigger.Every ms) = (least_period ≤ ms) × DurationInRange ms
TriggerNumbers (Trigger.LampTurns r power) = Free
TriggerNumbers (Trigger.LampLevelCross r way level) = Free
TriggerNumbers (Trigger.GroupBecomes r state) = Free
TriggerNumbers (Trigger.SceneRecalled a scene) = Free
TriggerNumbers (Trigger.DeviceOnline r change) = Free
TriggerNumbers (Trigger.HclOverride target change) = Free
TriggerNumbers (Trigger.TimerFires name) = Free
TriggerNumbers Trigger.ControllerStarts = Free
TriggerNumbers Trigger.ControllerBecomesActive = Free
TriggerNumbers (Trigger.RuleFails name) = Free
TriggerNumbers Trigger.HttpTrigger = Free
TriggerNumbers (Trigger.MqttMessage topic) = Free

-- "a reading with perhaps + or - an integer"
unfoldable pub DeltaNumbers : Option ℤ → Type 0
DeltaNumbers None = Free
DeltaNumbers (Some z) = IntegerInRange z

unfoldable pub ValueNumbers : Value → Type 0
ValueNumbers (Literal z) = IntegerInRange z
ValueNumbers (Reads r delta) = DeltaNumbers delta

unfoldable pub OperandNumbers : Operand → Type 0
OperandNumbers (Operand.Text name) = Free
OperandNumbers (Operand.Number v) = ValueNumbers v

-- "last_fired Q older than DURATION", "time in bound..bound", "compared with VALUE", "above or below VALUE"
unfoldable pub ConditionNumbers : Condition → Type 0
ConditionNumbers (Condition.TimeInRange start end) = BoundNumbers start × BoundNumbers end
ConditionNumbers (Condition.SunIs sun) = Free
ConditionNumbers (Condition.LampIs r power) = Free
ConditionNumbers (Condition.LampCompare r p c v) = ValueNumbers v
ConditionNumbers (Condition.GroupState r state) = Free
ConditionNumbers (Condition.InputOccupancy r state) = Free
ConditionNumbers (Condition.InputLight r way v) = ValueNumbers v
ConditionNumbers (Condition.HclState target state) = Free
ConditionNumbers (Condition.DeviceOnline r) = Free
ConditionNumbers (Condition.RuleEnabled name) = Free
ConditionNumbers (Condition.LastFiredOlderThan name ms) = DurationInRange ms
ConditionNumbers (Condition.TimerRunning name) = Free
ConditionNumbers Condition.ControllerActive = Free
ConditionNumbers (Condition.VarCompare name c v) = OperandNumbers v
ConditionNumbers (Condition.DayIn days) = Free

-- the lists of a reading
pub record NumbersInRange (xs : List Trigger) (ys : List Condition) : Type 0 where
  pub triggers : Each TriggerNumbers xs
  pub conditions : Each ConditionNumbers ys
