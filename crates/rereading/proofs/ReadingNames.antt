-- Every name in a reading of a text's tokens is one that the text can give (PossibleLaws.antt), form by form.
use Prim.Native.Nat.{ℕ}
use native.Mathlib.Omega.{arith}
use mathlib.Core.Path.{◌≡◌}
use mathlib.Core.Bool.{true}
use mathlib.Core.List.{List}
use Rattle.tokens.specs.Kind.{STRING}
use Rattle.tokens.specs.Cursor.{Tok}
use Rattle.tokens.specs.Grammar.{Token, token}
use Rattle.sheet.specs.View.{View}
use Rattle.references.specs.Grammar.{Quoted, Q}
use Rattle.model.specs.Ranges.{Each}
use Rattle.model.specs.declared.Condition.{Condition}
use Rattle.model.specs.declared.Name.{Name}
use Rattle.model.specs.declared.Operand.{Operand}
use Rattle.model.specs.declared.Reading.{Reading}
use Rattle.model.specs.declared.Trigger.{Trigger}
use Rattle.model.specs.declared.Value.{Value}
use Rattle.language.specs.grammar.Expr.{ReadingOf, ValueOf}
use Rattle.language.specs.grammar.Trigger.{TriggerOf}
use Rattle.language.specs.grammar.Condition.{OperandOf, ConditionOf}
use Rattle.language.specs.grammar.Text.{ReadingWith}
use Rattle.language.proofs.RangeLaws.{each_in}
use Rattle.writing.specs.Possible.{possible_name}
use Rattle.rereading.proofs.PossibleLaws.{ReadingNames, ValueNames, OperandNames, TriggerNames, ConditionNames}
use Rattle.rereading.proofs.StringLaws.{ShowsString, string-possible, topic-possible}

-- of each string among the tokens, its range in the text shows its bytes, which a string can have
abbrev pub ShownStrings : List ℕ → (ℕ → Tok) → (ℕ → Name) → Type 0
ShownStrings text t range = (i : ℕ) → (t i).kind ≡ STRING → ShowsString text (range i) (t i).bytes

module _ {text : List ℕ} {t : ℕ → Tok} {range : ℕ → Name} (shown : ShownStrings text t range) where
  string_in : {i n j : ℕ} → Token t STRING i n j → ShowsString text (range i) (t i).bytes
  string_in (token {i} e) = shown i e

  quoted_in : {i j : ℕ} → Quoted t i j → possible_name text (range i) ≡ true
  quoted_in (Quoted.quoted h some few) = string-possible (string_in h) _ _ some few

  q_in : {i n j : ℕ} → Q t i n j → possible_name text (range n) ≡ true
  q_in (Q.q a h b) = quoted_in h

  module _ {view : View} where
    reading_in : {i j : ℕ} {r : Reading} → ReadingOf t view range i r j → ReadingNames text r
    unfolding ReadingNames
    reading_in (ReadingOf.of_lamp w r p h) = tt
    reading_in (ReadingOf.of_group w r p h) = tt
    reading_in (ReadingOf.of_input w r p h) = tt
    reading_in (ReadingOf.of_time w p h) = tt
    reading_in (ReadingOf.of_sun w p h) = tt
    reading_in (ReadingOf.of_event w e p h) = tt
    reading_in (ReadingOf.of_var w q) = q_in q

    value_in : {i j : ℕ} {v : Value} → ValueOf t view range i v j → ValueNames text v
    unfolding ValueNames
    value_in (ValueOf.number h) = tt
    value_in (ValueOf.signed_number h) = tt
    value_in (ValueOf.reading h) = reading_in h
    value_in (ValueOf.reading_with h d) = reading_in h

    operand_in : {i j : ℕ} {v : Operand} → OperandOf t view range i v j → OperandNames text v
    unfolding OperandNames
    operand_in (OperandOf.text h few) = string-possible (string_in h) _ _ (omega arith) few
    operand_in (OperandOf.value h) = value_in h

    trigger_in_lem : {i j : ℕ} {x : Trigger} → TriggerOf t view range i x j → TriggerNames text x
    unfolding TriggerNames
    trigger_in_lem (TriggerOf.timer_fires w q p) = q_in q
    trigger_in_lem (TriggerOf.rule_fails w q p) = q_in q
    trigger_in_lem (TriggerOf.controller_starts w p) = tt
    trigger_in_lem (TriggerOf.controller_becomes_active w p) = tt
    trigger_in_lem (TriggerOf.http_trigger_rule w v) = tt
    trigger_in_lem (TriggerOf.mqtt_message w a topic) = topic-possible (string_in a) topic
    trigger_in_lem (TriggerOf.every w d l) = tt
    trigger_in_lem (TriggerOf.at_time w b d) = tt
    trigger_in_lem (TriggerOf.at_solar w b d) = tt
    trigger_in_lem (TriggerOf.scene_recalled w a h c b v o) = tt
    trigger_in_lem (TriggerOf.goes_offline w r p) = tt
    trigger_in_lem (TriggerOf.comes_online w r p) = tt
    trigger_in_lem (TriggerOf.group_becomes w r p c) = tt
    trigger_in_lem (TriggerOf.hcl_override w p c f h) = tt
    trigger_in_lem (TriggerOf.lamp_turns w r v c) = tt
    trigger_in_lem (TriggerOf.lamp_level_cross w r a p c h) = tt
    trigger_in_lem (TriggerOf.power_cycled w v r p) = tt
    trigger_in_lem (TriggerOf.manual_config_changed w v r p) = tt
    trigger_in_lem (TriggerOf.input_event_rule w s v e) = tt
    trigger_in_lem (TriggerOf.input_occupancy w r v c) = tt
    trigger_in_lem (TriggerOf.input_light_cross w r a v p c h) = tt
    trigger_in_lem (TriggerOf.input_position_change w r a v u) = tt

    condition_in_lem : {i j : ℕ} {y : Condition} → ConditionOf t view range i y j → ConditionNames text y
    unfolding ConditionNames
    condition_in_lem (ConditionOf.controller_active w p) = tt
    condition_in_lem (ConditionOf.timer_running w q p) = q_in q
    condition_in_lem (ConditionOf.rule_enabled w q p) = q_in q
    condition_in_lem (ConditionOf.last_fired w q p d) = q_in q
    condition_in_lem (ConditionOf.device_online w r p) = tt
    condition_in_lem (ConditionOf.sun_is w p c) = tt
    condition_in_lem (ConditionOf.time_in w v a p b) = tt
    condition_in_lem (ConditionOf.day_in w v h) = tt
    condition_in_lem (ConditionOf.group_state w r c) = tt
    condition_in_lem (ConditionOf.hcl_state w p c f h) = tt
    condition_in_lem (ConditionOf.lamp_is w r v c) = tt
    condition_in_lem (ConditionOf.lamp_compare w r a p c h) = value_in h
    condition_in_lem (ConditionOf.input_occupancy w r v c) = tt
    condition_in_lem (ConditionOf.input_light w r a p c h) = value_in h
    condition_in_lem (ConditionOf.var_compare w q c h) = (q_in q, operand_in h)

    -- every reading of such tokens
    pub reading-names : {xs : List Trigger} {ys : List Condition} → ReadingWith t view range xs ys →
        Each (TriggerNames text) xs × Each (ConditionNames text) ys
    reading-names h = each_in (λ i j x g. trigger_in_lem g) (λ i j y g. condition_in_lem g) h
