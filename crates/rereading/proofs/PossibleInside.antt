-- The names of an entry that is possible stand inside its text: none is "a name outside its text".
use Prim.Native.Nat.{ℕ}
use mathlib.Core.Path.{◌≡◌}
use mathlib.Core.Bool.{true}
use mathlib.Core.List.{List, [], ◌∷◌}
use borrow.Author.Tests.{leb-true}
use Rattle.text.proofs.Tests.{both}
use Rattle.model.specs.Limits.{last_short_address}
use Rattle.model.specs.Ranges.{Each}
use Rattle.model.specs.declared.Condition.{Condition}
use Rattle.model.specs.declared.Name.{Name}
use Rattle.model.specs.declared.Operand.{Operand}
use Rattle.model.specs.declared.Reading.{Reading}
use Rattle.model.specs.declared.Trigger.{Trigger}
use Rattle.model.specs.declared.Value.{Value}
use Rattle.language.specs.Same.{reading_parts, value_parts, operand_parts, trigger_parts, condition_parts}
use Rattle.writing.specs.Possible.{is_inside, possible_string, possible_name, possible_topic, possible_ref, possible_input, possible_reading, possible_value, possible_operand, possible_trigger, possible_condition}
use Rattle.rereading.specs.Given.{Inside}

module _ (text : List ℕ) where
  name-inside : (least most : ℕ) (n : Name) → possible_string text least most n ≡ true → Inside text n
  unfolding possible_string is_inside
  name-inside least most n e = record { end = leb-true _ _ (both _ e).0 }

  -- the one name of an entry
  one_inside : (least most : ℕ) (n : Name) → possible_string text least most n ≡ true → Each (Inside text) (n ∷ [])
  one_inside least most n e = Each.more (name-inside least most n e) Each.none

  reading-inside : (r : Reading) → possible_reading text r ≡ true → Each (Inside text) (reading_parts r).names
  unfolding possible_reading reading_parts
  reading-inside (Reading.Lamp r p) e = Each.none
  reading-inside (Reading.Group r p) e = Each.none
  reading-inside (Reading.Input r p) e = Each.none
  reading-inside (Reading.Time p) e = Each.none
  reading-inside (Reading.Sun p) e = Each.none
  reading-inside (Reading.Event p) e = Each.none
  reading-inside (Reading.Var n) e = one_inside _ _ n e

  value-inside : (v : Value) → possible_value text v ≡ true → Each (Inside text) (value_parts v).names
  unfolding possible_value value_parts
  value-inside (Value.Literal z) e = Each.none
  value-inside (Value.Reads r delta) e = reading-inside r (both _ e).0

  operand-inside : (v : Operand) → possible_operand text v ≡ true → Each (Inside text) (operand_parts v).names
  unfolding possible_operand operand_parts
  operand-inside (Operand.Text n) e = one_inside _ _ n e
  operand-inside (Operand.Number v) e = value-inside v e

  pub trigger-inside : (x : Trigger) → possible_trigger text x ≡ true → Each (Inside text) (trigger_parts x).names
  unfolding possible_trigger possible_topic trigger_parts
  trigger-inside (Trigger.InputEvent s event) e = Each.none
  trigger-inside (Trigger.InputOccupancy r state) e = Each.none
  trigger-inside (Trigger.InputLightCross r way n) e = Each.none
  trigger-inside (Trigger.InputPositionChange r) e = Each.none
  trigger-inside (Trigger.InputDevicePowerCycled r) e = Each.none
  trigger-inside (Trigger.InputDeviceManualConfigChanged r) e = Each.none
  trigger-inside (Trigger.AtTime m days) e = Each.none
  trigger-inside (Trigger.AtSolar event offset days) e = Each.none
  trigger-inside (Trigger.Every ms) e = Each.none
  trigger-inside (Trigger.LampTurns r to) e = Each.none
  trigger-inside (Trigger.LampLevelCross r way n) e = Each.none
  trigger-inside (Trigger.GroupBecomes r state) e = Each.none
  trigger-inside (Trigger.SceneRecalled a scene) e = Each.none
  trigger-inside (Trigger.DeviceOnline r change) e = Each.none
  trigger-inside (Trigger.HclOverride to change) e = Each.none
  trigger-inside (Trigger.TimerFires n) e = one_inside _ _ n e
  trigger-inside Trigger.ControllerStarts e = Each.none
  trigger-inside Trigger.ControllerBecomesActive e = Each.none
  trigger-inside (Trigger.RuleFails n) e = one_inside _ _ n e
  trigger-inside Trigger.HttpTrigger e = Each.none
  trigger-inside (Trigger.MqttMessage topic) e = one_inside _ _ topic (both _ e).0

  pub condition-inside : (y : Condition) → possible_condition text y ≡ true → Each (Inside text) (condition_parts y).names
  unfolding possible_condition condition_parts
  condition-inside (Condition.TimeInRange from to) e = Each.none
  condition-inside (Condition.SunIs state) e = Each.none
  condition-inside (Condition.LampIs r state) e = Each.none
  condition-inside (Condition.LampCompare r p c v) e = value-inside v (both (possible_ref last_short_address r) e).1
  condition-inside (Condition.GroupState r state) e = Each.none
  condition-inside (Condition.InputOccupancy r state) e = Each.none
  condition-inside (Condition.InputLight r way v) e = value-inside v (both (possible_input r) e).1
  condition-inside (Condition.HclState to state) e = Each.none
  condition-inside (Condition.DeviceOnline r) e = Each.none
  condition-inside (Condition.RuleEnabled n) e = one_inside _ _ n e
  condition-inside (Condition.LastFiredOlderThan n ms) e = one_inside _ _ n (both _ e).0
  condition-inside (Condition.TimerRunning n) e = one_inside _ _ n e
  condition-inside Condition.ControllerActive e = Each.none
  condition-inside (Condition.VarCompare n c v) e =
      let h = both (possible_name text n) e in
      Each.more (name-inside _ _ n h.0) (operand-inside v h.1)
  condition-inside (Condition.DayIn days) e = Each.none
