-- No reference and no day set in a reading is out of its kind's range, form by form.
use Prim.Native.Nat.{ℕ, ◌≤◌}
use mathlib.Core.List.{List}
use Rattle.tokens.specs.Cursor.{Tok}
use Rattle.model.specs.Ranges.{Each, InRange, EventInRange, TriggerInRange, ReadingInRange, ValueInRange, OperandInRange, ConditionInRange}
use Rattle.sheet.specs.View.{View, seen}
use Rattle.model.specs.Limits.{last_adapter}
use Rattle.sheet.specs.declared.Call.{Call}
use Rattle.sheet.proofs.RangeLaws.{ViewInRange, view_in}
use Rattle.references.proofs.RangeLaws.{up_to_in, clause_in, on_adapter_in, lamp_in, group_in, device_in, input-device_in, target_in, args_in, one_instance_in}
use Rattle.days.proofs.RangeLaws.{day_set_in, on_days_in}
use Rattle.model.specs.declared.Name.{Name}
use Rattle.model.specs.declared.Event.{Event}
use Rattle.model.specs.declared.Reading.{Reading}
use Rattle.model.specs.declared.Value.{Value}
use Rattle.model.specs.declared.Operand.{Operand}
use Rattle.model.specs.declared.Trigger.{Trigger}
use Rattle.model.specs.declared.Condition.{Condition}
use Rattle.language.specs.grammar.Expr.{ReadingOf, ValueOf}
use Rattle.language.specs.grammar.Trigger.{EventOf, TriggerOf}
use Rattle.language.specs.grammar.Condition.{OperandOf, ConditionOf}
use Rattle.language.specs.grammar.Text.{Repeated, WhenSection, ConditionsOf, IfSection, ReadingWith}

event_in : {t : ℕ → Tok} {i j : ℕ} {e : Event} → EventOf t i e j → EventInRange e
unfolding EventInRange
event_in (EventOf.press w) = tt
event_in (EventOf.release w) = tt
event_in (EventOf.short_press w) = tt
event_in (EventOf.double_press w) = tt
event_in (EventOf.long_press_start w) = tt
event_in (EventOf.long_press_repeat w) = tt
event_in (EventOf.long_press_stop w) = tt
event_in (EventOf.button_free w) = tt
event_in (EventOf.button_stuck w) = tt
event_in (EventOf.movement w) = tt
event_in (EventOf.no_movement w) = tt
event_in (EventOf.any_event w) = tt
event_in (EventOf.raw w a d b h c) = up_to_in h

repeated_in : {t : ℕ → Tok} {word : List ℕ} {A : Type 0} {Form : ℕ → A → ℕ → Type 0} {P : A → Type 0} →
    ((i j : ℕ) (x : A) → Form i x j → P x) → {i j : ℕ} {xs : List A} → Repeated t word Form i xs j → Each P xs
repeated_in f Repeated.end = Each.none
repeated_in f (Repeated.more w h r) = Each.more (f _ _ _ h) (repeated_in f r)

-- what holds of every trigger and of every condition that can be read holds of each in a reading
module _
    {t : ℕ → Tok} {view : View} {range : ℕ → Name} {P : Trigger → Type 0} {Q : Condition → Type 0}
    (f : (i j : ℕ) (x : Trigger) → TriggerOf t view range i x j → P x) (g : (i j : ℕ) (y : Condition) → ConditionOf t view range i y j → Q y)
  where
    when_in : {i j : ℕ} {xs : List Trigger} → WhenSection t view range i xs j → Each P xs
    when_in (WhenSection.whens h some few) = repeated_in f h

    if_in : {i j : ℕ} {ys : List Condition} → IfSection t view range i ys j → Each Q ys
    if_in IfSection.no_if = Each.none
    if_in (IfSection.conditions w (ConditionsOf.joined h r few)) = Each.more (g _ _ _ h) (repeated_in g r)

    pub each_in : {xs : List Trigger} {ys : List Condition} → ReadingWith t view range xs ys → Each P xs × Each Q ys
    each_in (ReadingWith.reading h k e) = (when_in h, if_in k)

module _ {t : ℕ → Tok} {view : View} {range : ℕ → Name} (sees : ViewInRange view) where
  reading_in : {i j : ℕ} {r : Reading} → ReadingOf t view range i r j → ReadingInRange r
  unfolding ReadingInRange
  reading_in (ReadingOf.of_lamp w r p h) = lamp_in sees r
  reading_in (ReadingOf.of_group w r p h) = group_in sees r
  reading_in (ReadingOf.of_input w r p h) = one_instance_in sees r
  reading_in (ReadingOf.of_time w p h) = tt
  reading_in (ReadingOf.of_sun w p h) = tt
  reading_in (ReadingOf.of_event w e p h) = tt
  reading_in (ReadingOf.of_var w q) = tt

  value_in : {i j : ℕ} {v : Value} → ValueOf t view range i v j → ValueInRange v
  unfolding ValueInRange
  value_in (ValueOf.number h) = tt
  value_in (ValueOf.signed_number h) = tt
  value_in (ValueOf.reading h) = reading_in h
  value_in (ValueOf.reading_with h d) = reading_in h

  operand_in : {i j : ℕ} {v : Operand} → OperandOf t view range i v j → OperandInRange v
  unfolding OperandInRange
  operand_in (OperandOf.text h l) = tt
  operand_in (OperandOf.value h) = value_in h

  trigger_in_lem : {i j : ℕ} {x : Trigger} → TriggerOf t view range i x j → TriggerInRange x
  unfolding TriggerInRange
  trigger_in_lem (TriggerOf.timer_fires w q p) = tt
  trigger_in_lem (TriggerOf.rule_fails w q p) = tt
  trigger_in_lem (TriggerOf.controller_starts w p) = tt
  trigger_in_lem (TriggerOf.controller_becomes_active w p) = tt
  trigger_in_lem (TriggerOf.http_trigger_rule w v) = tt
  trigger_in_lem (TriggerOf.mqtt_message w a topic) = tt
  trigger_in_lem (TriggerOf.every w d l) = tt
  trigger_in_lem (TriggerOf.at_time w b d) = on_days_in d
  trigger_in_lem (TriggerOf.at_solar w b d) = on_days_in d
  trigger_in_lem (TriggerOf.scene_recalled w a h c b v o) = (on_adapter_in sees (clause_in c) o, up_to_in h)
  trigger_in_lem (TriggerOf.goes_offline w r p) = device_in sees r
  trigger_in_lem (TriggerOf.comes_online w r p) = device_in sees r
  trigger_in_lem (TriggerOf.group_becomes w r p c) = group_in sees r
  trigger_in_lem (TriggerOf.hcl_override w p c f h) = target_in sees h
  trigger_in_lem (TriggerOf.lamp_turns w r v c) = lamp_in sees r
  trigger_in_lem (TriggerOf.lamp_level_cross w r a p c h) = (lamp_in sees r, up_to_in h)
  trigger_in_lem (TriggerOf.power_cycled w v r p) = input-device_in sees r
  trigger_in_lem (TriggerOf.manual_config_changed w v r p) = input-device_in sees r
  trigger_in_lem (TriggerOf.input_event_rule w s v e) = (args_in sees s, event_in e)
  trigger_in_lem (TriggerOf.input_occupancy w r v c) = one_instance_in sees r
  trigger_in_lem (TriggerOf.input_light_cross w r a v p c h) = (one_instance_in sees r, up_to_in h)
  trigger_in_lem (TriggerOf.input_position_change w r a v u) = one_instance_in sees r

  condition_in_lem : {i j : ℕ} {y : Condition} → ConditionOf t view range i y j → ConditionInRange y
  unfolding ConditionInRange
  condition_in_lem (ConditionOf.controller_active w p) = tt
  condition_in_lem (ConditionOf.timer_running w q p) = tt
  condition_in_lem (ConditionOf.rule_enabled w q p) = tt
  condition_in_lem (ConditionOf.last_fired w q p d) = tt
  condition_in_lem (ConditionOf.device_online w r p) = device_in sees r
  condition_in_lem (ConditionOf.sun_is w p c) = tt
  condition_in_lem (ConditionOf.time_in w v a p b) = tt
  condition_in_lem (ConditionOf.day_in w v h) = day_set_in h
  condition_in_lem (ConditionOf.group_state w r c) = group_in sees r
  condition_in_lem (ConditionOf.hcl_state w p c f h) = target_in sees h
  condition_in_lem (ConditionOf.lamp_is w r v c) = lamp_in sees r
  condition_in_lem (ConditionOf.lamp_compare w r a p c h) = (lamp_in sees r, value_in h)
  condition_in_lem (ConditionOf.input_occupancy w r v c) = one_instance_in sees r
  condition_in_lem (ConditionOf.input_light w r a p c h) = (one_instance_in sees r, value_in h)
  condition_in_lem (ConditionOf.var_compare w q c h) = operand_in h

  all_in : {xs : List Trigger} {ys : List Condition} → ReadingWith t view range xs ys → InRange xs ys
  all_in h =
      let each = each_in (λ i j x g. trigger_in_lem g) (λ i j y g. condition_in_lem g) h in
      record { triggers = each.0; conditions = each.1 }

-- with every sheet: neither a number in a rule nor a row of the sheet nor the call's primary adapter brings in a reference that is out of range
pub ranges : {t : ℕ → Tok} (call : Call) (sheet : List ℕ) → call.primary ≤ last_adapter → {range : ℕ → Name} {xs : List Trigger} {ys : List Condition} →
    ReadingWith t (seen call sheet) range xs ys → InRange xs ys
ranges call sheet primary h = all_in (view_in call sheet primary) h
