-- Whether a call can name an entry depends only on its primary adapter, on which adapters are listed, and on the entry without its names.
use Prim.Native.Nat.{ℕ}
use mathlib.Core.Path.{◌≡◌, ◌∙◌, refl, ap, sym}
use mathlib.Core.Bool.{Bool, false}
use mathlib.Core.List.{List, []}
use Rattle.text.specs.Choice.{pick}
use Rattle.sheet.specs.View.{View}
use Rattle.model.specs.declared.Condition.{Condition}
use Rattle.model.specs.declared.LightTarget.{LightTarget}
use Rattle.model.specs.declared.Operand.{Operand}
use Rattle.model.specs.declared.Reading.{Reading}
use Rattle.model.specs.declared.Selector.{Selector}
use Rattle.model.specs.declared.Trigger.{Trigger}
use Rattle.model.specs.declared.Value.{Value}
use Rattle.language.specs.Same.{Shown, reading_parts, value_parts, operand_parts, trigger_parts, condition_parts, shown_trigger, shown_condition, SameTrigger, SameCondition}
use Rattle.writing.specs.Reached.{is_reached, reached_selector, reached_target, reached_reading, reached_value, reached_operand, reached_trigger, reached_condition}

-- what is asked of a view
abbrev pub adapters : View → View
adapters view = record { primary = view.primary; listed = view.listed; rows = []; repeats = false; allows = λ i. false }

module _ (view : View) where
  selector-is : (s : Selector) → reached_selector view s ≡ reached_selector (adapters view) s
  unfolding reached_selector is_reached
  selector-is (Selector.Instance r n) = refl
  selector-is (Selector.Group a g of) = refl

  target_is : (x : LightTarget) → reached_target view x ≡ reached_target (adapters view) x
  unfolding reached_target is_reached
  target_is (LightTarget.Lamp r) = refl
  target_is (LightTarget.Group r) = refl
  target_is (LightTarget.Broadcast a) = refl

  reading-is : (r : Reading) → reached_reading view r ≡ reached_reading (adapters view) (reading_parts r).bare
  unfolding reached_reading is_reached reading_parts
  reading-is (Reading.Lamp r p) = refl
  reading-is (Reading.Group r p) = refl
  reading-is (Reading.Input r p) = refl
  reading-is (Reading.Time p) = refl
  reading-is (Reading.Sun p) = refl
  reading-is (Reading.Event p) = refl
  reading-is (Reading.Var n) = refl

  value-is : (v : Value) → reached_value view v ≡ reached_value (adapters view) (value_parts v).bare
  unfolding reached_value value_parts
  value-is (Value.Literal z) = refl
  value-is (Value.Reads r delta) = reading-is r

  operand-is : (v : Operand) → reached_operand view v ≡ reached_operand (adapters view) (operand_parts v).bare
  unfolding reached_operand operand_parts
  operand-is (Operand.Text n) = refl
  operand-is (Operand.Number v) = value-is v

  trigger-is : (x : Trigger) → reached_trigger view x ≡ reached_trigger (adapters view) (trigger_parts x).bare
  unfolding reached_trigger is_reached trigger_parts
  trigger-is (Trigger.InputEvent s e) = selector-is s
  trigger-is (Trigger.InputOccupancy r state) = refl
  trigger-is (Trigger.InputLightCross r way n) = refl
  trigger-is (Trigger.InputPositionChange r) = refl
  trigger-is (Trigger.InputDevicePowerCycled r) = refl
  trigger-is (Trigger.InputDeviceManualConfigChanged r) = refl
  trigger-is (Trigger.AtTime m days) = refl
  trigger-is (Trigger.AtSolar event offset days) = refl
  trigger-is (Trigger.Every ms) = refl
  trigger-is (Trigger.LampTurns r to) = refl
  trigger-is (Trigger.LampLevelCross r way n) = refl
  trigger-is (Trigger.GroupBecomes r state) = refl
  trigger-is (Trigger.SceneRecalled a scene) = refl
  trigger-is (Trigger.DeviceOnline r change) = refl
  trigger-is (Trigger.HclOverride to change) = target_is to
  trigger-is (Trigger.TimerFires n) = refl
  trigger-is Trigger.ControllerStarts = refl
  trigger-is Trigger.ControllerBecomesActive = refl
  trigger-is (Trigger.RuleFails n) = refl
  trigger-is Trigger.HttpTrigger = refl
  trigger-is (Trigger.MqttMessage topic) = refl

  condition-is : (y : Condition) → reached_condition view y ≡ reached_condition (adapters view) (condition_parts y).bare
  unfolding reached_condition is_reached condition_parts
  condition-is (Condition.TimeInRange from to) = refl
  condition-is (Condition.SunIs state) = refl
  condition-is (Condition.LampIs r state) = refl
  condition-is (Condition.LampCompare r p c v) = ap (λ (t : Bool). pick (is_reached view r.adapter) t false) (value-is v)
  condition-is (Condition.GroupState r state) = refl
  condition-is (Condition.InputOccupancy r state) = refl
  condition-is (Condition.InputLight r way v) = ap (λ (t : Bool). pick (is_reached view r.device.adapter) t false) (value-is v)
  condition-is (Condition.HclState to state) = target_is to
  condition-is (Condition.DeviceOnline r) = refl
  condition-is (Condition.RuleEnabled n) = refl
  condition-is (Condition.LastFiredOlderThan n ms) = refl
  condition-is (Condition.TimerRunning n) = refl
  condition-is Condition.ControllerActive = refl
  condition-is (Condition.VarCompare n c v) = operand-is v
  condition-is (Condition.DayIn days) = refl

-- entries that are the same by bytes, in calls that see the same adapters
pub same-reached : (v w : View) → adapters v ≡ adapters w → (a b : List ℕ) (x y : Trigger) → SameTrigger a b x y →
    reached_trigger v x ≡ reached_trigger w y
unfolding shown_trigger
same-reached v w e a b x y f = trigger-is v x ∙ ap (λ (u : View). reached_trigger u (trigger_parts x).bare) e
    ∙ ap (λ (s : Shown Trigger). reached_trigger (adapters w) s.bare) f ∙ sym (trigger-is w y)

pub same-reached_condition : (v w : View) → adapters v ≡ adapters w → (a b : List ℕ) (x y : Condition) → SameCondition a b x y →
    reached_condition v x ≡ reached_condition w y
unfolding shown_condition
same-reached_condition v w e a b x y f = condition-is v x ∙ ap (λ (u : View). reached_condition u (condition_parts x).bare) e
    ∙ ap (λ (s : Shown Condition). reached_condition (adapters w) s.bare) f ∙ sym (condition-is w y)
