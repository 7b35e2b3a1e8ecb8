-- What a row of words can tell (Flat.antt): a type below the number that says that there is none, an offset of 32 signed bits, and a literal or an added
-- number of 64. Every other part is told whatever it is. Said of the values alone, one line for each case.
use Rattle.std.specs.Prelude.{ℕ, ◌^◌, ◌<◌, ℤ, pos, negsuc, Option, Some, None}
use Rattle.model.specs.Ranges.{Free}
use Rattle.model.specs.declared.Condition.{Condition}
use Rattle.model.specs.declared.Operand.{Operand}
use Rattle.model.specs.declared.Selector.{Selector}
use Rattle.model.specs.declared.TimeBound.{TimeBound}
use Rattle.model.specs.declared.Trigger.{Trigger}
use Rattle.model.specs.declared.Value.{Value}
use Rattle.flat.specs.Codes.{no_type}

-- from -most to most - 1; negsuc n is -1 - n
unfoldable pub SignedWithin : ℕ → ℤ → Type 0
SignedWithin most (pos n) = n < most
SignedWithin most (negsuc n) = n < most

unfoldable pub HeldNumber : Option ℕ → Type 0
HeldNumber None = Free
HeldNumber (Some n) = n < no_type

unfoldable pub HeldSelector : Selector → Type 0
HeldSelector (Selector.Instance device instance) = Free
HeldSelector (Selector.Group adapter group of) = HeldNumber of

unfoldable pub HeldBound : TimeBound → Type 0
HeldBound (TimeBound.Clock m) = Free
HeldBound (TimeBound.Solar e offset) = SignedWithin (2 ^ 31) offset

unfoldable pub HeldDelta : Option ℤ → Type 0
HeldDelta None = Free
HeldDelta (Some z) = SignedWithin (2 ^ 63) z

unfoldable pub HeldValue : Value → Type 0
HeldValue (Value.Literal z) = SignedWithin (2 ^ 63) z
HeldValue (Value.Reads r delta) = HeldDelta delta

unfoldable pub HeldOperand : Operand → Type 0
HeldOperand (Operand.Text t) = Free
HeldOperand (Operand.Number v) = HeldValue v

unfoldable pub HeldTrigger : Trigger → Type 0
HeldTrigger (Trigger.InputEvent s e) = HeldSelector s
HeldTrigger (Trigger.InputOccupancy r state) = Free
HeldTrigger (Trigger.InputLightCross r way n) = Free
HeldTrigger (Trigger.InputPositionChange r) = Free
HeldTrigger (Trigger.InputDevicePowerCycled r) = Free
HeldTrigger (Trigger.InputDeviceManualConfigChanged r) = Free
HeldTrigger (Trigger.AtTime m days) = Free
HeldTrigger (Trigger.AtSolar e offset days) = SignedWithin (2 ^ 31) offset
HeldTrigger (Trigger.Every ms) = Free
HeldTrigger (Trigger.LampTurns r to) = Free
HeldTrigger (Trigger.LampLevelCross r way n) = Free
HeldTrigger (Trigger.GroupBecomes r state) = Free
HeldTrigger (Trigger.SceneRecalled adapter scene) = Free
HeldTrigger (Trigger.DeviceOnline r change) = Free
HeldTrigger (Trigger.HclOverride to change) = Free
HeldTrigger (Trigger.TimerFires n) = Free
HeldTrigger Trigger.ControllerStarts = Free
HeldTrigger Trigger.ControllerBecomesActive = Free
HeldTrigger (Trigger.RuleFails n) = Free
HeldTrigger Trigger.HttpTrigger = Free
HeldTrigger (Trigger.MqttMessage topic) = Free

unfoldable pub HeldCondition : Condition → Type 0
HeldCondition (Condition.TimeInRange from to) = HeldBound from × HeldBound to
HeldCondition (Condition.SunIs state) = Free
HeldCondition (Condition.LampIs r state) = Free
HeldCondition (Condition.LampCompare r p c v) = HeldValue v
HeldCondition (Condition.GroupState r state) = Free
HeldCondition (Condition.InputOccupancy r state) = Free
HeldCondition (Condition.InputLight r way v) = HeldValue v
HeldCondition (Condition.HclState to state) = Free
HeldCondition (Condition.DeviceOnline r) = Free
HeldCondition (Condition.RuleEnabled n) = Free
HeldCondition (Condition.LastFiredOlderThan n ms) = Free
HeldCondition (Condition.TimerRunning n) = Free
HeldCondition Condition.ControllerActive = Free
HeldCondition (Condition.VarCompare n c v) = HeldOperand v
HeldCondition (Condition.DayIn days) = Free
