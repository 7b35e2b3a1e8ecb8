-- Which entries a call can name (document 02, §7): "then an adapter that needs writing but is not listed, or a broadcast not on the primary, with 56".
use Rattle.std.specs.Prelude.{ℕ, Bool, true, false, eqb}
use Rattle.text.specs.Choice.{pick}
use Rattle.sheet.specs.View.{View}
use Rattle.model.specs.declared.Condition.{Condition}
use Rattle.model.specs.declared.LightTarget.{LightTarget}
use Rattle.model.specs.declared.Operand.{Operand}
use Rattle.model.specs.declared.Reading.{Reading}
use Rattle.model.specs.declared.Selector.{Selector}
use Rattle.model.specs.declared.Trigger.{Trigger}
use Rattle.model.specs.declared.Value.{Value}

module _ (view : View) where
  -- the primary needs no writing
  unfoldable pub is_reached : ℕ → Bool
  is_reached a = pick (eqb a view.primary) true (view.listed a)

  unfoldable pub reached_selector : Selector → Bool
  reached_selector (Selector.Instance r n) = is_reached r.adapter
  reached_selector (Selector.Group a g of) = is_reached a

  unfoldable pub reached_target : LightTarget → Bool
  reached_target (LightTarget.Lamp r) = is_reached r.adapter
  reached_target (LightTarget.Group r) = is_reached r.adapter
  reached_target (LightTarget.Broadcast a) = eqb a view.primary

  unfoldable pub reached_reading : Reading → Bool
  reached_reading (Reading.Lamp r p) = is_reached r.adapter
  reached_reading (Reading.Group r p) = is_reached r.adapter
  reached_reading (Reading.Input r p) = is_reached r.device.adapter
  reached_reading (Reading.Time p) = true
  reached_reading (Reading.Sun p) = true
  reached_reading (Reading.Event p) = true
  reached_reading (Reading.Var n) = true

  unfoldable pub reached_value : Value → Bool
  reached_value (Value.Literal z) = true
  reached_value (Value.Reads r delta) = reached_reading r

  unfoldable pub reached_operand : Operand → Bool
  reached_operand (Operand.Text n) = true
  reached_operand (Operand.Number v) = reached_value v

  unfoldable pub reached_trigger : Trigger → Bool
  reached_trigger (Trigger.InputEvent s e) = reached_selector s
  reached_trigger (Trigger.InputOccupancy r state) = is_reached r.device.adapter
  reached_trigger (Trigger.InputLightCross r way n) = is_reached r.device.adapter
  reached_trigger (Trigger.InputPositionChange r) = is_reached r.device.adapter
  reached_trigger (Trigger.InputDevicePowerCycled r) = is_reached r.adapter
  reached_trigger (Trigger.InputDeviceManualConfigChanged r) = is_reached r.adapter
  reached_trigger (Trigger.AtTime m days) = true
  reached_trigger (Trigger.AtSolar event offset days) = true
  reached_trigger (Trigger.Every ms) = true
  reached_trigger (Trigger.LampTurns r to) = is_reached r.adapter
  reached_trigger (Trigger.LampLevelCross r way n) = is_reached r.adapter
  reached_trigger (Trigger.GroupBecomes r state) = is_reached r.adapter
  reached_trigger (Trigger.SceneRecalled a scene) = is_reached a
  reached_trigger (Trigger.DeviceOnline r change) = is_reached r.adapter
  reached_trigger (Trigger.HclOverride to change) = reached_target to
  reached_trigger (Trigger.TimerFires n) = true
  reached_trigger Trigger.ControllerStarts = true
  reached_trigger Trigger.ControllerBecomesActive = true
  reached_trigger (Trigger.RuleFails n) = true
  reached_trigger Trigger.HttpTrigger = true
  reached_trigger (Trigger.MqttMessage topic) = true

  unfoldable pub reached_condition : Condition → Bool
  reached_condition (Condition.TimeInRange from to) = true
  reached_condition (Condition.SunIs state) = true
  reached_condition (Condition.LampIs r state) = is_reached r.adapter
  reached_condition (Condition.LampCompare r p c v) = pick (is_reached r.adapter) (reached_value v) false
  reached_condition (Condition.GroupState r state) = is_reached r.adapter
  reached_condition (Condition.InputOccupancy r state) = is_reached r.device.adapter
  reached_condition (Condition.InputLight r way v) = pick (is_reached r.device.adapter) (reached_value v) false
  reached_condition (Condition.HclState to state) = reached_target to
  reached_condition (Condition.DeviceOnline r) = is_reached r.adapter
  reached_condition (Condition.RuleEnabled n) = true
  reached_condition (Condition.LastFiredOlderThan n ms) = true
  reached_condition (Condition.TimerRunning n) = true
  reached_condition Condition.ControllerActive = true
  reached_condition (Condition.VarCompare n c v) = reached_operand v
  reached_condition (Condition.DayIn days) = true
