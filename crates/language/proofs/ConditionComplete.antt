-- A reading of a condition by the grammar is what the definitions accept, if the fuel reaches as far as the tokens.
use Prim.Native.Nat.{ℕ}
use mathlib.Core.Path.{◌≡◌, refl}
use mathlib.Core.Bool.{true}
use mathlib.Core.List.{List, [], ◌∷◌}
use borrow.Author.Tests.{le-ltb}
use Rattle.text.specs.Literal.{ascii}
use Rattle.text.specs.Part.{same_bytes}
use Rattle.text.specs.Split.{split}
use Rattle.tokens.specs.Result.{ok}
use Rattle.tokens.specs.Cursor.{Tok}
use Rattle.tokens.specs.Phrase.{words_in, position, has_place, phrase_choice}
use Rattle.tokens.specs.Grammar.{Token, token, Word, a_word, the_first, the_second}
use Rattle.tokens.proofs.Okay.{token-kind, kind-yes, kind-no, word-yes, word_none, kind-complete, word-complete}
use Rattle.tokens.proofs.PhraseLaws.{phrase-complete, choice-complete, two_complete, point_phrase_complete}
use Rattle.sheet.specs.View.{View}
use Rattle.references.specs.Grammar.{Lamp}
use Rattle.references.proofs.RefComplete.{quoted-complete, lamp-complete, group-complete, device-complete}
use Rattle.references.proofs.ArgComplete.{one_instance-complete}
use Rattle.model.specs.declared.Name.{Name}
use Rattle.model.specs.declared.Ref.{Ref}
use Rattle.model.specs.declared.Value.{Value}
use Rattle.model.specs.declared.Comparison.{Comparison}
use Rattle.model.specs.declared.Operand.{Operand}
use Rattle.model.specs.declared.Condition.{Condition}
use Rattle.days.proofs.GrammarComplete.{day_set-complete}
use Rattle.language.specs.Limits.{most_text}
use Rattle.language.specs.Trigger.{power_of, crossing_of, occupancy_of, aggregate_of}
use Rattle.language.specs.Condition.{comparison_by, comparison_at, controller_condition, timer_condition, rule_condition, last_fired_condition, device_condition, sun_of, sun_condition, time_to, time_condition, day_condition, group_condition, hcl_of, hcl_condition, lamp_property_of, lamp_judged, lamp_compared, lamp_point, lamp_state, lamp_condition, light_than, input_state, input_condition, text_operand, operand_at, var_compared, var_condition, condition_words, condition_by, condition_at}
use Rattle.language.specs.grammar.Expr.{ValueOf}
use Rattle.language.specs.grammar.Condition.{Compared, eq, ne, ge, le, gt, lt, OperandOf, text, value, ConditionOf, controller_active, timer_running, rule_enabled, last_fired, device_online, sun_is, time_in, day_in, group_state, hcl_state, lamp_is, lamp_compare, input_occupancy, input_light, var_compare}
use Rattle.language.proofs.WordLaws.{End, Unsigned, StopsCondition, other-unsigned, chosen, named_complete, for_complete, point-complete}
use Rattle.language.proofs.TimeLaws.{bound-complete}
use Rattle.language.proofs.ExprLaws.{value-complete, value-no-string}

-- the kinds of comparison
comparison-complete : {t : ℕ → Tok} {i j : ℕ} {c : Comparison} → Compared t i c j → comparison_at t i ≡ ok c j
unfolding comparison_at comparison_by
comparison-complete (eq (token p)) = rw p
comparison-complete (ne (token p)) = rw p
comparison-complete (ge (token p)) = rw p
comparison-complete (le (token p)) = rw p
comparison-complete (gt (token p)) = rw p
comparison-complete (lt (token p)) = rw p

-- what a var is compared with
operand-complete : {t : ℕ → Tok} {view : View} {range : ℕ → Name} {fuel i j : ℕ} {v : Operand} → End t fuel → Unsigned t j →
    OperandOf t view range i v j → operand_at t view range fuel i ≡ ok v j
unfolding operand_at text_operand
operand-complete {t} end u (text (token p) few) = rw (kind-yes t refl p, kind-complete t refl (token p), le-ltb most_text _ few)
operand-complete {t} {i = i} end u (value h) = rw (kind-no t 2 i (value-no-string h), value-complete end u h)

-- a lamp's property compared with a value: all is read but the property's word, which is judged last
lamp_compared_lem : {t : ℕ → Tok} {view : View} {range : ℕ → Name} {fuel j k a l m n o : ℕ} {r : Ref} {word : List ℕ} {c : Comparison} {v : Value} →
    End t fuel → Unsigned t o → Lamp t view j r k → Token t 12 k a l → Word t word l m → Compared t m c n → ValueOf t view range n v o →
    lamp_condition t view range fuel j ≡ lamp_judged t r l c v o
unfolding lamp_condition lamp_state lamp_point lamp_compared
lamp_compared_lem {t} end u h point property compared than =
    rw (
      lamp-complete h,
      word_none t (ascii "is") refl (token-kind point),
      point-complete t point property,
      comparison-complete compared,
      value-complete end u than,
    )

-- a condition is judged by its first word
abbrev firsts : List (List ℕ)
firsts = ascii "time" ∷ ascii "sun" ∷ ascii "lamp" ∷ ascii "group" ∷ ascii "input" ∷ ascii "hcl" ∷ ascii "device" ∷ ascii "rule" ∷ ascii "last_fired" ∷ ascii "timer" ∷ ascii "controller" ∷ ascii "var" ∷ ascii "day" ∷ []

first-list : words_in condition_words ≡ firsts
unfolding words_in split
first-list = refl

first : {t : ℕ → Tok} (view : View) (range : ℕ → Name) (fuel n : ℕ) {i j : ℕ} {word : List ℕ} → Word t word i j →
    position word firsts ≡ n → has_place firsts n ≡ true → condition_at t view range fuel i ≡ condition_by t view range fuel n j
unfolding condition_at
first {t} view range fuel n w e h = rw (chosen t condition_words 21 first-list n w e h)

-- a reading is what is answered, where nothing follows that would go on with it
pub condition-complete : {t : ℕ → Tok} {view : View} {range : ℕ → Name} {fuel i j : ℕ} {x : Condition} → End t fuel → StopsCondition t j →
    ConditionOf t view range i x j → condition_at t view range fuel i ≡ ok x j
unfolding condition_by controller_condition timer_condition rule_condition last_fired_condition device_condition sun_condition sun_of time_condition
    time_to day_condition group_condition aggregate_of hcl_condition hcl_of lamp_condition lamp_state power_of lamp_judged lamp_property_of input_condition input_state
    occupancy_of light_than crossing_of var_condition var_compared phrase_choice words_in split position same_bytes
condition-complete {t} end s (controller_active w p) = rw (first _ _ _ 10 w refl refl, phrase-complete t p)
condition-complete {t} end s (timer_running w h p) = rw (first _ _ _ 9 w refl refl, named_complete t h p)
condition-complete {t} end s (rule_enabled w h p) = rw (first _ _ _ 7 w refl refl, named_complete t h p)
condition-complete {t} end s (last_fired w h p d) = rw (first _ _ _ 8 w refl refl, named_complete t h p, kind-complete t refl d)
condition-complete {t} end s (device_online w h p) = rw (first _ _ _ 6 w refl refl, device-complete h, phrase-complete t p)
condition-complete {t} end s (sun_is w is state) =
    let p = two_complete t (ascii "up down") 21 refl refl state in
    rw (first _ _ _ 1 w refl refl, phrase-complete t is, p.answered, p.meant)
condition-complete {t} end s (time_in w v from dots to) =
    rw (
      first _ _ _ 0 w refl refl,
      word-complete t v,
      bound-complete (other-unsigned t refl refl (token-kind dots)) from,
      kind-complete t refl dots,
      bound-complete s.unsigned to,
    )
condition-complete {t} end s (day_in w v h) = rw (first _ _ _ 12 w refl refl, word-complete t v, day_set-complete t end s.days h)
condition-complete {t} end s (group_state w h state) =
    let p = two_complete t (ascii "any_on all_off") 21 refl refl state in
    rw (first _ _ _ 3 w refl refl, group-complete h, p.answered, p.meant)
condition-complete {t} end s (hcl_state w is state f h) =
    let p = two_complete t (ascii "enabled overridden") 21 refl refl state in
    rw (first _ _ _ 5 w refl refl, phrase-complete t is, p.answered, for_complete t f h, p.meant)
condition-complete {t} end s (lamp_is w h (a_word k is) power) =
    let p = two_complete t (ascii "on off") 21 refl refl power in
    rw (first _ _ _ 2 w refl refl, lamp-complete h, word-yes t (a_word k is), p.answered, p.meant)
condition-complete {t} end s (lamp_compare w h point (the_first q) compared than) =
    rw (first _ _ _ 2 w refl refl, lamp_compared_lem end s.unsigned h point q compared than, choice-complete t (ascii "level cct") 21 {n = 0} q refl refl)
condition-complete {t} end s (lamp_compare w h point (the_second q) compared than) =
    rw (first _ _ _ 2 w refl refl, lamp_compared_lem end s.unsigned h point q compared than, choice-complete t (ascii "level cct") 21 {n = 1} q refl refl)
condition-complete {t} end s (input_occupancy w h (a_word k is) state) =
    let p = two_complete t (ascii "occupied vacant") 21 refl refl state in
    rw (first _ _ _ 4 w refl refl, one_instance-complete end h, word-yes t (a_word k is), p.answered, p.meant)
condition-complete {t} end s (input_light w h point light way than) =
    let p = two_complete t (ascii "above below") 21 refl refl way in
    rw (
      first _ _ _ 4 w refl refl,
      one_instance-complete end h,
      word_none t (ascii "is") refl (token-kind point),
      point_phrase_complete t point light,
      p.answered,
      value-complete end s.unsigned than,
      p.meant,
    )
condition-complete {t} end s (var_compare w name compared than) =
    rw (first _ _ _ 11 w refl refl, quoted-complete name, comparison-complete compared, operand-complete end s.unsigned than)
