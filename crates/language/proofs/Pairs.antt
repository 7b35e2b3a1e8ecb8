-- Document 01, "Twelve pairs from the bench": the pairs of whole calls, 8 to 12, evaluated from the definitions.
use mathlib.Core.Path.{◌≡◌, refl}
use mathlib.Core.List.{List, [], ◌∷◌, ◌++◌}
use Prim.Native.Nat.{ℕ, zero, suc}
use Prim.Native.String.{String}
use lib.IntN.{pos, neg_ℤ}
use Rattle.text.specs.Find.{index_of, index_after}
use Rattle.text.specs.Literal.{ascii}
use Rattle.model.specs.declared.Ref.{Ref}
use Rattle.model.specs.declared.Selector.{Selector}
use Rattle.model.specs.declared.SolarEvent.TheVariants.{Sunset}
use Rattle.model.specs.declared.Event.TheVariants.{Press}
use Rattle.model.specs.declared.Power.TheVariants.{On}
use Rattle.model.specs.declared.Trigger.{Trigger}
use Rattle.model.specs.declared.Trigger.TheVariants.{AtTime, AtSolar, InputEvent, LampTurns}
use Rattle.model.specs.declared.Answer.{Answer}
use Rattle.text.specs.Place.{counted, line_feeds, since_line_feed, line_after, column_after, after, step_of, walked, judge, check_of}
use Rattle.text.specs.Utf8.{is_ascii, sequence_length, is_tail, is_second, two, three, four, sized, front, decode_at, chars_from, chars, row_end}
use Rattle.text.specs.White.{white_space, among, is_white}
use Rattle.text.specs.Part.{part_of, same_bytes}
use Rattle.text.specs.Ascii.{is_digit, is_alpha, is_word_start, is_word_part}
use Rattle.text.specs.Split.{split}
use Rattle.text.specs.Find.{first_at}
use Rattle.tokens.specs.Cursor.{bytes_of, tokens, is_word, is_kind, take_kind, take_word, take_in, accepted, to_taken}
use Rattle.tokens.specs.Duration.{unit_of, bounded_ms, whole_ms, amount}
use Rattle.tokens.specs.Lexing.{record_of, least_words}
use Rattle.tokens.specs.Lex.{lex_from, lex_text, answer_from, written_from, lex_answer, lex_words}
use Rattle.tokens.specs.Ended.{record_words, token_line, token_column}
use Rattle.tokens.specs.Record.{capacity, words_of, written, word_at, kind_at, number_at, start_at, length_at, line_at, column_at, bytes_at}
use Rattle.tokens.specs.Scan.{is_plain, passed, trivia_mode, trivia, quoted, with_digit, digits}
use Rattle.tokens.specs.Token.{single_kind, pair_kind, single, punct, string, time_by, time, decimal, amount_to, duration_by, duration, fraction_at, fraction, point, number_at as tokens-number_at, number, word, token_at}
use Rattle.tokens.specs.Phrase.{words_in, position, choice_by, choice_at, take_words, phrase_at, head_of, either_at, point_choice, phrase_choice, point_phrase}
use Rattle.sheet.specs.Kind.{kind_of, most_of}
use Rattle.sheet.specs.Line.{without_return, field, rest, has_comma, digits_on, numeral, is_mark, plain, is_name, checked_row, read_row, primary_of, adapter_of, party_by, party_of, line_by, bare_line, bare_name, line_of, name_of}
use Rattle.sheet.specs.Sheet.{is_owner_of, has_owner, may_follow, following_check, is_primary, lines_check, sheet_check, entries, is_listing, lists}
use Rattle.sheet.specs.Party.{owner_by, owner_of, owns, entries_on}
use Rattle.sheet.specs.View.{may_repeat, any_form, seen, own_primary}
use Rattle.sheet.specs.declared.Call.{Call}
use Rattle.sheet.specs.Resolve.{is_candidate, candidates, is_in, in_scope, elsewhere, none_of, chosen, pick_named}
use Rattle.references.specs.Refs.{checked_name, closed_name, quoted_name, name_or_id, adapter_number, adapter_assign, adapter_clause, scope_or_primary, found_at, referred, close_r, open_r, reference, lamp_ref, group_ref, device_ref, dev_name, input_device_ref, lamp_target, group_target, broadcast_target, light_target}
use Rattle.references.specs.Args.{slot_of, is_named, key_slot, named_slot, unnamed_slot, slot_at, type_word, input_type_value, device_item, instance_item, group_item, type_item, adapter_item, item_at, is_dev, is_number, is_group, is_on, is_set, is_repeat, put, no_args, arg_at, count_with, args_from, device_instance, with_inst, with_dev, with_group, selected, close_args, input_selector, one_instance, input_ref}
use Rattle.references.specs.Grammar.{slot}
use Rattle.model.specs.Limits.{last_short_address, last_group, last_scene, last_level, last_instance, last_instance_group, last_instance_type, last_event_information}
use Rattle.model.specs.Lists.{padded, triggers_of, conditions_of, accepted_with, refused_with}
use Rattle.language.specs.Range.{range_of}
use Rattle.language.specs.Words.{named_phrase, target_for, property_word, signed}
use Rattle.language.specs.Timeval.{most_offset, offset_bound, offset_at, with_offset, solar_event, solar_at, time_bound}
use Rattle.language.specs.Expr.{lamp_property, lamp_reading, group_property, group_reading, input_property, input_reading, time_property, time_reading, sun_property, sun_reading, event_property, event_reading, var_reading, reading_by, reading_at, literal_at, delta_at, with_delta, read_value, value_at}
use Rattle.language.specs.Trigger.{power_of, crossing_of, occupancy_of, aggregate_of, online_of, override_of, timer_trigger, rule_trigger, controller_change, controller_trigger, http_trigger, every_trigger, at_on, at_bound, at_trigger, scene_closed, scene_trigger, device_trigger, group_trigger, hcl_trigger, level_cross, lamp_change, lamp_trigger, input_device_change, input_device_trigger, raw_data, raw_event, event_of, event_at, input_event, input_becomes, light_cross, position_change, property_trigger, point_trigger, input_change, input_trigger, trigger_by, trigger_at}
use Rattle.language.specs.Condition.{comparison_by, comparison_at, controller_condition, timer_condition, rule_condition, last_fired_condition, device_condition, sun_of, sun_condition, time_to, time_condition, day_condition, group_condition, hcl_of, hcl_condition, lamp_property_of, lamp_judged, lamp_compared, lamp_point, lamp_state, lamp_condition, light_than, input_state, input_condition, text_operand, operand_at, var_compared, var_condition, condition_by, condition_at}
use Rattle.topics.specs.Topics.{fits}
use Rattle.text.specs.Bits.{bits_from}
use Rattle.model.specs.declared.Days.{Days}
use Rattle.days.specs.Days.{forward, is_between, is_in_any, days_of, has_day, every_day}
use Rattle.days.specs.Read.{day_at, last_day, covers, gets_day, with_range, range_at, ranges_from, no_day, day_set, on_days}
use Rattle.language.specs.Topics.{topic_name, topic_of}
use Rattle.topics.specs.Ranges.{topic_by}
use Rattle.language.specs.Section.{repeated, trigger_named, when_section, if_section, at_end, rule_at}
use Rattle.language.specs.Read.{parsed, on_accepted, rule_of, lexed_from, by_primary, by_text, by_sheet, read_of, rule_call, archive_call}

-- a text, and what the call answers with the sheet S. Document 02: "the twelve pairs have party 0, primary 0"
record Row : Type 0 where
  call : Call
  text : String
  answer : Answer

-- the default call
◌⇒◌ : String → Answer → Row
t ⇒ a = record { call = rule_call 0 0; text = t; answer = a }

-- the archive call
◌⇒ₐ◌ : String → Answer → Row
t ⇒ₐ a = record { call = archive_call 0 0; text = t; answer = a }

infixr 10 ◌⇒◌
infixr 10 ◌⇒ₐ◌
-- the sheet S
line : String → List ℕ → List ℕ
line s rest = ascii s ++ (0x0A ∷ rest)

S : List ℕ
S =
    line "primary,0"
    (line "adapter,0"
    (line "adapter,1" (line "lamp,0,4,Aisle" (line "lamp,1,4,Aisle" (line "lamp,1,7,Till" [])))))

-- a buffer of so many words
zeros : ℕ → List ℕ
zeros zero = []
zeros (suc n) = 0 ∷ zeros n

-- one trigger and no condition
one : Trigger → Answer
one x = accepted_with (x ∷ []) []

on : ℕ → ℕ → Ref
on adapter number = record { adapter = adapter; number = number }

-- a set of days by the sum of its bits: 1 is Monday, 64 Sunday
days : ℕ → Days
days n = record { sum = n }

table : List Row
table =
    -- 8
    ("when lamp(\"Till\") turns on" ⇒ one (LampTurns (on 1 7) On))
    ∷ ("when lamp(\"Aisle\") turns on" ⇒ refused_with 34 1 11 2)
    -- 9
    ∷ ("when lamp(\"Aisle\", adapter=1) turns on" ⇒ one (LampTurns (on 1 4) On))
    ∷ ("when lamp(\"Till\", adapter=0) turns on" ⇒ refused_with 32 1 11 1)
    -- 10
    ∷ ("when at sunset - 2147483.648s" ⇒ one (AtSolar Sunset (neg_ℤ (pos 2147483648)) (days 127)))
    ∷ ("when at sunset + 2147483.648s" ⇒ refused_with 36 1 18 0)
    -- 11, from document 02 on the archive call's; the default call refuses the second `dev`
    ∷ ("when input(dev=3, dev=5, inst=0) is press" ⇒ refused_with 63 1 19 0)
    ∷ ("when input(dev=3, dev=5, inst=0) is press" ⇒ₐ one (InputEvent (Selector.Instance (on 0 5) 0) Press))
    ∷ ("when input(group=2) becomes occupied" ⇒ refused_with 30 1 11 0)
    -- 12
    ∷ ("when controller starts if lamp(1).foo" ⇒ refused_with 20 1 38 0)
    ∷ ("when controller starts if lamp(1).foo == 1" ⇒ refused_with 21 1 35 0)
    -- document 02, §1: `fri..mon` is four days; all seven however written are the set without `on`; a word that is no day
    ∷ ("when at 7:05 on fri..mon" ⇒ one (AtTime 425 (days 113)))
    ∷ ("when at sunset on mon" ⇒ one (AtSolar Sunset (pos 0) (days 1)))
    ∷ ("when at 7:05 on tue..mon" ⇒ one (AtTime 425 (days 127)))
    ∷ ("when at 7:05 on foo 5" ⇒ refused_with 50 1 17 0)
    ∷ ("when at 7:05 on mon, when http trigger" ⇒ refused_with 50 1 22 0)
    ∷ []

abbrev Holds : List Row → Type 0
Holds [] = Unit {0}
Holds (r ∷ rs) = ((read_of r.call (ascii r.text) S [] (zeros least_words)).answer ≡ r.answer) × Holds rs

pairs : Holds table
unfolding index_of index_after table ◌⇒◌ ◌⇒ₐ◌ line S zeros one on counted line_feeds since_line_feed line_after column_after after step_of walked judge check_of is_ascii sequence_length is_tail is_second two three four sized front decode_at chars_from chars row_end white_space among is_white part_of same_bytes is_digit is_alpha is_word_start is_word_part split first_at bytes_of tokens is_word is_kind take_kind take_word take_in to_taken accepted unit_of bounded_ms whole_ms amount record_of lex_from lex_text answer_from written_from lex_answer lex_words record_words token_line token_column capacity words_of written word_at kind_at number_at start_at length_at line_at column_at bytes_at is_plain passed trivia_mode trivia quoted with_digit digits single_kind pair_kind single punct string time_by time decimal amount_to duration_by duration fraction_at fraction point tokens-number_at number word token_at words_in position choice_by choice_at take_words phrase_at head_of either_at point_choice phrase_choice point_phrase kind_of most_of without_return field rest has_comma digits_on numeral is_mark plain is_name checked_row read_row primary_of adapter_of party_by party_of line_by bare_line bare_name line_of name_of is_owner_of has_owner may_follow following_check is_primary lines_check sheet_check entries is_listing lists may_repeat any_form owner_by owner_of owns entries_on seen own_primary is_candidate candidates is_in in_scope elsewhere none_of chosen pick_named checked_name closed_name quoted_name name_or_id adapter_number adapter_assign adapter_clause scope_or_primary found_at referred close_r open_r reference lamp_ref group_ref device_ref dev_name input_device_ref lamp_target group_target broadcast_target light_target slot_of is_named key_slot named_slot unnamed_slot slot_at type_word input_type_value device_item instance_item group_item type_item adapter_item item_at is_dev is_number is_group is_on is_set is_repeat put no_args arg_at count_with args_from device_instance with_inst with_dev with_group selected close_args input_selector one_instance input_ref slot last_short_address last_group last_scene last_level last_instance last_instance_group last_instance_type last_event_information padded triggers_of conditions_of accepted_with refused_with range_of named_phrase target_for property_word signed most_offset offset_bound offset_at with_offset solar_event solar_at time_bound lamp_property lamp_reading group_property group_reading input_property input_reading time_property time_reading sun_property sun_reading event_property event_reading var_reading reading_by reading_at literal_at delta_at with_delta read_value value_at power_of crossing_of occupancy_of aggregate_of online_of override_of timer_trigger rule_trigger controller_change controller_trigger http_trigger every_trigger at_on at_bound at_trigger forward is_between is_in_any days_of has_day every_day bits_from day_at last_day covers gets_day with_range range_at ranges_from no_day day_set on_days days scene_closed scene_trigger device_trigger group_trigger hcl_trigger level_cross lamp_change lamp_trigger input_device_change input_device_trigger raw_data raw_event event_of event_at input_event input_becomes light_cross position_change property_trigger point_trigger input_change input_trigger trigger_by trigger_at comparison_by comparison_at controller_condition timer_condition rule_condition last_fired_condition device_condition sun_of sun_condition time_to time_condition day_condition group_condition hcl_of hcl_condition lamp_property_of lamp_judged lamp_compared lamp_point lamp_state lamp_condition light_than input_state input_condition text_operand operand_at var_compared var_condition condition_by condition_at fits topic_name topic_by topic_of repeated trigger_named when_section if_section at_end rule_at parsed on_accepted rule_of lexed_from by_primary by_text by_sheet read_of
pairs = (refl, (refl, (refl, (refl, (refl, (refl, (refl, (refl, (refl, (refl, (refl, (refl, (refl, (refl, (refl, (refl, tt))))))))))))))))
