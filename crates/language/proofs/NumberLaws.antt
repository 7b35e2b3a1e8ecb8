-- No number in a reading that an integer, a time or a duration writes is out of its limits, form by form.
use Prim.Native.Nat.{ℕ, zero, suc, ◌≤◌}
use native.Mathlib.Omega.{arith}
use mathlib.Core.Path.{refl}
use mathlib.Core.List.{List}
use lib.IntN.{ℤ, pos, neg_ℤ}
use Rattle.tokens.specs.Kind.{INTEGER}
use Rattle.tokens.specs.Cursor.{Tok}
use Rattle.tokens.specs.Grammar.{Token, token}
use Rattle.tokens.specs.Numbers.{NumberOfKind, TokenNumbers}
use Rattle.sheet.specs.View.{View}
use Rattle.model.specs.declared.Name.{Name}
use Rattle.model.specs.declared.TimeBound.{TimeBound}
use Rattle.model.specs.declared.Value.{Value}
use Rattle.model.specs.declared.Operand.{Operand}
use Rattle.model.specs.declared.Trigger.{Trigger}
use Rattle.model.specs.declared.Condition.{Condition}
use Rattle.language.specs.Numbers.{SignedUpTo, IntegerInRange, BoundNumbers, TriggerNumbers, DeltaNumbers, ValueNumbers, OperandNumbers, ConditionNumbers, NumbersInRange}
use Rattle.language.specs.grammar.Words.{Signed}
use Rattle.language.specs.grammar.Timeval.{Bound}
use Rattle.language.specs.grammar.Expr.{ValueOf}
use Rattle.language.specs.grammar.Trigger.{TriggerOf}
use Rattle.language.specs.grammar.Condition.{OperandOf, ConditionOf}
use Rattle.language.specs.grammar.Text.{ReadingWith}
use Rattle.language.proofs.RangeLaws.{each_in}

-- a number behind `-`
below_in : (above below n : ℕ) → n ≤ below → SignedUpTo above below (neg_ℤ (pos n))
unfolding SignedUpTo
below_in above below zero h = omega arith
below_in above below (suc n) h = h

module _ {t : ℕ → Tok} (given : TokenNumbers t) where
  -- the number of a token of a kind
  token_in_lem : {kind i n j : ℕ} → Token t kind i n j → NumberOfKind kind n
  token_in_lem (token {i} e) = rw e at (given i)

  signed_in : {i j : ℕ} {z : ℤ} → Signed t INTEGER i z j → IntegerInRange z
  unfolding SignedUpTo
  signed_in (Signed.plus p h) = (token_in_lem h).integer refl
  signed_in (Signed.minus m h) = below_in _ _ _ ((token_in_lem h).integer refl)

  bound_in : {i j : ℕ} {b : TimeBound} → Bound t i b j → BoundNumbers b
  unfolding BoundNumbers SignedUpTo
  bound_in (Bound.clock h) = (token_in_lem h).time refl
  bound_in (Bound.solar e) = omega arith
  bound_in (Bound.later e p h few) = few
  bound_in (Bound.earlier e m h few) = below_in _ _ _ few

  module _ {view : View} {range : ℕ → Name} where
    value_in : {i j : ℕ} {v : Value} → ValueOf t view range i v j → ValueNumbers v
    unfolding ValueNumbers DeltaNumbers SignedUpTo
    value_in (ValueOf.number h) = (token_in_lem h).integer refl
    value_in (ValueOf.signed_number h) = signed_in h
    value_in (ValueOf.reading h) = tt
    value_in (ValueOf.reading_with h d) = signed_in d

    operand_in : {i j : ℕ} {v : Operand} → OperandOf t view range i v j → OperandNumbers v
    unfolding OperandNumbers
    operand_in (OperandOf.text h l) = tt
    operand_in (OperandOf.value h) = value_in h

    trigger_in_lem : {i j : ℕ} {x : Trigger} → TriggerOf t view range i x j → TriggerNumbers x
    unfolding TriggerNumbers BoundNumbers
    trigger_in_lem (TriggerOf.timer_fires w q p) = tt
    trigger_in_lem (TriggerOf.rule_fails w q p) = tt
    trigger_in_lem (TriggerOf.controller_starts w p) = tt
    trigger_in_lem (TriggerOf.controller_becomes_active w p) = tt
    trigger_in_lem (TriggerOf.http_trigger_rule w v) = tt
    trigger_in_lem (TriggerOf.mqtt_message w a topic) = tt
    trigger_in_lem (TriggerOf.every w d l) = (l, (token_in_lem d).duration refl)
    trigger_in_lem (TriggerOf.at_time w b d) = bound_in b
    trigger_in_lem (TriggerOf.at_solar w b d) = bound_in b
    trigger_in_lem (TriggerOf.scene_recalled w a h c b v o) = tt
    trigger_in_lem (TriggerOf.goes_offline w r p) = tt
    trigger_in_lem (TriggerOf.comes_online w r p) = tt
    trigger_in_lem (TriggerOf.group_becomes w r p c) = tt
    trigger_in_lem (TriggerOf.hcl_override w p c f h) = tt
    trigger_in_lem (TriggerOf.lamp_turns w r v c) = tt
    trigger_in_lem (TriggerOf.lamp_level_cross w r a p c h) = tt
    trigger_in_lem (TriggerOf.power_cycled w v r p) = tt
    trigger_in_lem (TriggerOf.manual_config_changed w v r p) = tt
    trigger_in_lem (TriggerOf.input_event_rule w s v e) = tt
    trigger_in_lem (TriggerOf.input_occupancy w r v c) = tt
    trigger_in_lem (TriggerOf.input_light_cross w r a v p c h) = tt
    trigger_in_lem (TriggerOf.input_position_change w r a v u) = tt

    condition_in_lem : {i j : ℕ} {y : Condition} → ConditionOf t view range i y j → ConditionNumbers y
    unfolding ConditionNumbers
    condition_in_lem (ConditionOf.controller_active w p) = tt
    condition_in_lem (ConditionOf.timer_running w q p) = tt
    condition_in_lem (ConditionOf.rule_enabled w q p) = tt
    condition_in_lem (ConditionOf.last_fired w q p d) = (token_in_lem d).duration refl
    condition_in_lem (ConditionOf.device_online w r p) = tt
    condition_in_lem (ConditionOf.sun_is w p c) = tt
    condition_in_lem (ConditionOf.time_in w v a p b) = (bound_in a, bound_in b)
    condition_in_lem (ConditionOf.day_in w v h) = tt
    condition_in_lem (ConditionOf.group_state w r c) = tt
    condition_in_lem (ConditionOf.hcl_state w p c f h) = tt
    condition_in_lem (ConditionOf.lamp_is w r v c) = tt
    condition_in_lem (ConditionOf.lamp_compare w r a p c h) = value_in h
    condition_in_lem (ConditionOf.input_occupancy w r v c) = tt
    condition_in_lem (ConditionOf.input_light w r a p c h) = value_in h
    condition_in_lem (ConditionOf.var_compare w q c h) = operand_in h

    -- every reading of such tokens
    pub numbers : {xs : List Trigger} {ys : List Condition} → ReadingWith t view range xs ys → NumbersInRange xs ys
    numbers h =
        let each = each_in (λ i j x g. trigger_in_lem g) (λ i j y g. condition_in_lem g) h in
        record { triggers = each.0; conditions = each.1 }
