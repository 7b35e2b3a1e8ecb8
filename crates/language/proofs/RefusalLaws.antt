-- Every refusal of a rule has one of the parser's numbers (`is_refusal`). The searches take apart what the definitions of a form are built of.
use Prim.Native.Nat.{ℕ, zero, suc}
use mathlib.Core.Path.{◌≡◌}
use mathlib.Core.Bool.{true}
use mathlib.Core.List.{List, [], ◌∷◌}
use Rattle.tokens.specs.Result.{Res, ok, no}
use Rattle.tokens.specs.Cursor.{Tok}
use Rattle.tokens.specs.Phrase.{choice_by, choice_at, take_words, phrase_at, either_at, point_choice, phrase_choice, point_phrase}
use Rattle.sheet.specs.View.{View}
use Rattle.references.proofs.NumberLaws.{is_refusal, Refuses, refusals}
use Rattle.model.specs.declared.Name.{Name}
use Rattle.model.specs.declared.Days.{Days}
use Rattle.days.specs.Read.{day_at, last_day, range_at, ranges_from, day_set, on_days}
use Rattle.language.specs.Words.{named_phrase, target_for, property_word}
use Rattle.language.specs.Timeval.{offset_bound, offset_at, with_offset, solar_at, time_bound}
use Rattle.language.specs.Expr.{lamp_reading, group_reading, input_reading, time_reading, sun_reading, event_reading, var_reading, reading_by, reading_at, literal_at, delta_at, with_delta, read_value, value_at}
use Rattle.language.specs.Trigger.{timer_trigger, rule_trigger, controller_trigger, http_trigger, mqtt_trigger, every_trigger, at_bound, at_trigger, scene_closed, scene_trigger, device_trigger, group_trigger, hcl_trigger, level_cross, lamp_change, lamp_trigger, input_device_trigger, raw_data, raw_event, event_at, input_event, input_becomes, light_cross, position_change, property_trigger, point_trigger, input_change, input_trigger, trigger_by, trigger_at}
use Rattle.language.specs.Condition.{comparison_by, comparison_at, controller_condition, timer_condition, rule_condition, last_fired_condition, device_condition, sun_condition, time_to, time_condition, day_condition, group_condition, hcl_condition, lamp_judged, lamp_compared, lamp_point, lamp_state, lamp_condition, light_than, input_state, input_condition, text_operand, operand_at, var_compared, var_condition, condition_by, condition_at}
use Rattle.language.specs.Section.{Lists, repeated, Topics, trigger_named, when_section, if_section, at_end, rule_at}
use Rattle.language.specs.Read.{on_accepted, rule_of}
use Rattle.language.proofs.TopicLaws.{topic-refuses}

-- the steps that several forms share, and time bounds
module _ (t : ℕ → Tok) where
  words-refuse : (ws : List (List ℕ)) (i : ℕ) → Refuses (take_words t ws i)
  unfolding take_words
  words-refuse [] i = search refusals
  words-refuse (w ∷ ws) i = search (refusals, words-refuse ws)

  phrase-refuses : (list : List ℕ) (i : ℕ) → Refuses (phrase_at t list i)
  unfolding phrase_at
  phrase-refuses list i = search (refusals, words-refuse)

  by-refuses : (list : List ℕ) (number i j : ℕ) (w : List ℕ) → is_refusal number ≡ true → Refuses (choice_by list number i j w)
  unfolding choice_by
  by-refuses list number i j w e = search refusals

  choice-refuses : (list : List ℕ) (number i : ℕ) → is_refusal number ≡ true → Refuses (choice_at t list number i)
  unfolding choice_at
  choice-refuses list number i e = search (refusals, by-refuses)

  either-refuses : (first second : List ℕ) (i : ℕ) → Refuses (either_at t first second i)
  unfolding either_at
  either-refuses first second i = search (refusals, phrase-refuses)

  point_choice-refuses : (list : List ℕ) (i : ℕ) → Refuses (point_choice t list i)
  unfolding point_choice
  point_choice-refuses list i = search (refusals, choice-refuses)

  phrase_choice-refuses : (phrase list : List ℕ) (i : ℕ) → Refuses (phrase_choice t phrase list i)
  unfolding phrase_choice
  phrase_choice-refuses phrase list i = search (refusals, phrase-refuses, choice-refuses)

  point_phrase-refuses : (list : List ℕ) (i : ℕ) → Refuses (point_phrase t list i)
  unfolding point_phrase
  point_phrase-refuses list i = search (refusals, phrase-refuses)

  named-refuses : (list : List ℕ) (i : ℕ) → Refuses (named_phrase t list i)
  unfolding named_phrase
  named-refuses list i = search (refusals, phrase-refuses)

  for_refuses : (view : View) (i : ℕ) → Refuses (target_for t view i)
  unfolding target_for
  for_refuses view i = search refusals

  bound-refuses : (i : ℕ) → Refuses (time_bound t i)
  unfolding time_bound solar_at with_offset offset_at offset_bound
  bound-refuses i = search (refusals, choice-refuses) depth 9

  ranges-refuse : (fuel : ℕ) (days : Days) (i : ℕ) → Refuses (ranges_from t fuel days i)
  unfolding ranges_from range_at day_at last_day
  ranges-refuse zero days i = search refusals
  ranges-refuse (suc fuel) days i = search (refusals, choice-refuses, ranges-refuse fuel) depth 12

  day_set-refuses : (fuel i : ℕ) → Refuses (day_set t fuel i)
  unfolding day_set
  day_set-refuses fuel i = search ranges-refuse

  on_days-refuses : (fuel i : ℕ) → Refuses (on_days t fuel i)
  unfolding on_days
  on_days-refuses fuel i = search (refusals, day_set-refuses)

ruleset forms = (
  refusals,
  phrase-refuses,
  choice-refuses,
  either-refuses,
  point_choice-refuses,
  phrase_choice-refuses,
  point_phrase-refuses,
  named-refuses,
  for_refuses,
  bound-refuses,
  day_set-refuses,
  on_days-refuses,
  topic-refuses,
)

-- VALUE, triggers and conditions: a new form's definitions join the `unfolding` line
module _ (t : ℕ → Tok) (view : View) (range : ℕ → Name) (fuel : ℕ) where
  value-refuses : (i : ℕ) → Refuses (value_at t view range fuel i)
  unfolding value_at read_value with_delta delta_at literal_at reading_at reading_by var_reading event_reading sun_reading time_reading input_reading
      group_reading lamp_reading
  value-refuses i = search forms depth 30

  trigger-refuses : (i : ℕ) → Refuses (trigger_at t view range fuel i)
  unfolding trigger_at trigger_by input_trigger input_change point_trigger property_trigger position_change light_cross input_becomes input_event
      event_at raw_event raw_data input_device_trigger lamp_trigger lamp_change level_cross hcl_trigger group_trigger device_trigger scene_trigger
      scene_closed at_trigger at_bound every_trigger mqtt_trigger http_trigger controller_trigger rule_trigger timer_trigger
  trigger-refuses i = search forms depth 40

  condition-refuses : (i : ℕ) → Refuses (condition_at t view range fuel i)
  unfolding condition_at condition_by var_condition var_compared operand_at text_operand input_condition input_state light_than lamp_condition
      lamp_state lamp_point property_word lamp_compared lamp_judged hcl_condition group_condition day_condition time_condition time_to sun_condition
      device_condition last_fired_condition rule_condition timer_condition controller_condition comparison_at comparison_by
  condition-refuses i = search (forms, value-refuses) depth 40 fits 9000

-- a repeated form refuses as the form does, or with its own number
repeated-refuses : {S A : Type 0} (t : ℕ → Tok) (word : List ℕ) (number : ℕ) (form : S → ℕ → Res A) (after : S → A → S) → is_refusal number ≡ true →
    ((s : S) (i : ℕ) → Refuses (form s i)) → (s : S) (most i : ℕ) → Refuses (repeated t word number form after s most i)
unfolding repeated
repeated-refuses t word number form after e h s zero i = search refusals
repeated-refuses {A = A} t word number form after e h s (suc most) i =
    let next : (x : A) (k : ℕ) → Refuses (repeated t word number form after (after s x) most k) =
    λ x k. repeated-refuses t word number form after e h (after s x) most k in
    search (refusals, h, next)

judged-refuses : (t : ℕ → Tok) (view : View) (range : ℕ → Name) (topics : Topics) (fuel : ℕ) (named : List (List ℕ)) (i : ℕ) →
    Refuses (trigger_named t view range topics fuel named i)
unfolding trigger_named
judged-refuses t view range topics fuel named i = search (refusals, trigger-refuses)

-- every refusal of a rule has one of these numbers
rule-refuses : (t : ℕ → Tok) (view : View) (range : ℕ → Name) (topics : Topics) (fuel : ℕ) → Refuses (rule_at t view range topics fuel)
unfolding rule_at when_section if_section at_end
rule-refuses t view range topics fuel = search (refusals, repeated-refuses, judged-refuses, condition-refuses) depth 9

-- and so has every refusal of a call that its tokens get
accepted-refuses : (full judged : Res Lists) → Refuses full → Refuses judged → Refuses (on_accepted full judged)
unfolding on_accepted Refuses
accepted-refuses (ok lists i) judged h g = g
accepted-refuses (no r) judged h g = h

pub call-refuses : (text words : List ℕ) (view : View) (lent : List (List ℕ)) → Refuses (rule_of text words view lent)
unfolding rule_of
call-refuses text words view lent = accepted-refuses _ _ (rule-refuses _ _ _ _ _) (rule-refuses _ _ _ _ _)
