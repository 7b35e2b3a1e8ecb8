-- A reading of EVENT or of a trigger by the grammar is what the definitions accept, if the fuel reaches as far as the tokens.
use Prim.Native.Nat.{ℕ, ◌+◌}
use mathlib.Core.Path.{◌≡◌, refl}
use mathlib.Core.Bool.{true}
use mathlib.Core.List.{List, [], ◌∷◌}
use borrow.Author.Tests.{le-ltb}
use Rattle.text.specs.Literal.{ascii}
use Rattle.text.specs.Part.{same_bytes}
use Rattle.text.specs.Split.{split}
use Rattle.tokens.specs.Result.{ok}
use Rattle.tokens.specs.Cursor.{Tok}
use Rattle.tokens.specs.Phrase.{words_in, position, has_place, phrase_choice}
use Rattle.tokens.specs.Grammar.{token, Word, a_word}
use Rattle.tokens.proofs.Okay.{token-kind, word-kind, not-kind, kind-yes, word-yes, word-no, word_none, kind-complete, word-complete, up_to-complete}
use Rattle.tokens.proofs.PhraseLaws.{phrase-complete, choice-complete, two_complete, either_first, either_second, point_phrase_complete}
use Rattle.sheet.specs.View.{View}
use Rattle.sheet.specs.declared.resolve.Scope.{Scope}
use Rattle.references.specs.Refs.{scope_or_primary}
use Rattle.references.specs.Args.{one_instance}
use Rattle.references.specs.Grammar.{OnAdapter, primary, given, ArgsOf, args, one_instance_rule}
use Rattle.references.proofs.RefComplete.{clause-complete, lamp-complete, group-complete, device-complete, input-device-complete}
use Rattle.references.proofs.ArgComplete.{args-complete}
use Rattle.model.specs.declared.Name.{Name}
use Rattle.model.specs.declared.Selector.{Selector}
use Rattle.model.specs.declared.Days.{Days}
use Rattle.model.specs.declared.Event.{Event}
use Rattle.model.specs.declared.Trigger.{Trigger}
use Rattle.days.specs.Grammar.{OnDays, without, on}
use Rattle.days.proofs.GrammarComplete.{on_days-complete}
use Rattle.language.specs.Limits.{least_period}
use Rattle.language.specs.Trigger.{power_of, crossing_of, occupancy_of, aggregate_of, online_of, override_of, timer_trigger, rule_trigger, controller_change, controller_trigger, http_trigger, mqtt_trigger, every_trigger, at_on, at_bound, at_trigger, scene_closed, scene_trigger, device_trigger, group_trigger, hcl_trigger, level_cross, lamp_change, lamp_trigger, input_device_change, input_device_trigger, raw_data, raw_event, event_of, event_words, event_at, input_event, input_becomes, light_cross, position_change, property_trigger, point_trigger, input_change, input_trigger, trigger_words, trigger_by, trigger_at}
use Rattle.language.specs.grammar.Trigger.{EventOf, press, release, short_press, double_press, long_press_start, long_press_repeat, long_press_stop, button_free, button_stuck, movement, no_movement, any_event, raw, TriggerOf, timer_fires, rule_fails, controller_starts, controller_becomes_active, http_trigger_rule, mqtt_message, every, at_time, at_solar, scene_recalled, goes_offline, comes_online, group_becomes, hcl_override, lamp_turns, lamp_level_cross, power_cycled, manual_config_changed, input_event_rule, input_occupancy, input_light_cross, input_position_change}
use Rattle.language.proofs.WordLaws.{End, Unsigned, StopsTrigger, other-unsigned, chosen, named_complete, for_complete}
use Rattle.language.proofs.TopicLaws.{topic_at-complete}
use Rattle.language.proofs.TimeLaws.{bound-complete}

-- the adapter of a scene
adapter-is : {view : View} {scope : Scope} {a : ℕ} → OnAdapter view scope a → scope_or_primary view scope ≡ a
unfolding scope_or_primary
adapter-is primary = refl
adapter-is given = refl

-- no sign stands behind a time, before `on` or where that is left out
before_on : {t : ℕ → Tok} {i j : ℕ} {days : Days} → Unsigned t j → OnDays t i days j → Unsigned t i
before_on u without = u
before_on {t} u (on w h) = other-unsigned t refl refl (word-kind w)

-- the words of the two lists
abbrev events : List (List ℕ)
events = ascii "press" ∷ ascii "release" ∷ ascii "short_press" ∷ ascii "double_press" ∷ ascii "long_press_start" ∷ ascii "long_press_repeat" ∷ ascii "long_press_stop" ∷ ascii "button_free" ∷ ascii "button_stuck" ∷ ascii "movement" ∷ ascii "no_movement" ∷ ascii "any_event" ∷ ascii "event" ∷ []

event-list : words_in event_words ≡ events
unfolding words_in split
event-list = refl

abbrev firsts : List (List ℕ)
firsts = ascii "input" ∷ ascii "at" ∷ ascii "every" ∷ ascii "lamp" ∷ ascii "group" ∷ ascii "scene" ∷ ascii "device" ∷ ascii "hcl" ∷ ascii "timer" ∷ ascii "controller" ∷ ascii "rule" ∷ ascii "http" ∷ ascii "mqtt" ∷ []

first-list : words_in trigger_words ≡ firsts
unfolding words_in split
first-list = refl

-- a reading of EVENT is answered
pub event-complete : {t : ℕ → Tok} {i j : ℕ} {e : Event} → EventOf t i e j → event_at t i ≡ ok e j
unfolding event_at event_of raw_event raw_data position same_bytes
event-complete {t} (press w) = rw (chosen t event_words 21 event-list 0 w refl refl)
event-complete {t} (release w) = rw (chosen t event_words 21 event-list 1 w refl refl)
event-complete {t} (short_press w) = rw (chosen t event_words 21 event-list 2 w refl refl)
event-complete {t} (double_press w) = rw (chosen t event_words 21 event-list 3 w refl refl)
event-complete {t} (long_press_start w) = rw (chosen t event_words 21 event-list 4 w refl refl)
event-complete {t} (long_press_repeat w) = rw (chosen t event_words 21 event-list 5 w refl refl)
event-complete {t} (long_press_stop w) = rw (chosen t event_words 21 event-list 6 w refl refl)
event-complete {t} (button_free w) = rw (chosen t event_words 21 event-list 7 w refl refl)
event-complete {t} (button_stuck w) = rw (chosen t event_words 21 event-list 8 w refl refl)
event-complete {t} (movement w) = rw (chosen t event_words 21 event-list 9 w refl refl)
event-complete {t} (no_movement w) = rw (chosen t event_words 21 event-list 10 w refl refl)
event-complete {t} (any_event w) = rw (chosen t event_words 21 event-list 11 w refl refl)
event-complete {t} (raw w left d e h right) =
    rw (
      chosen t event_words 21 event-list 12 w refl refl,
      kind-complete t refl left,
      word-complete t d,
      kind-complete t refl e,
      up_to-complete t h,
      kind-complete t refl right,
    )

-- ARGS of a trigger, whatever follows them
input-args : {t : ℕ → Tok} {view : View} {fuel i j : ℕ} {s : Selector} → End t fuel → ArgsOf t view i s j →
    input_trigger t view fuel i ≡ input_change t i s j
unfolding input_trigger
input-args {t} end (args left h allowed right g) =
    rw (word_none t (ascii "device") refl (token-kind left), args-complete end (args left h allowed right g))

-- and with `.` behind them
input-point : {t : ℕ → Tok} {view : View} {fuel i j : ℕ} {s : Selector} → End t fuel → ArgsOf t view i s j → (t j).kind ≡ 12 →
    input_trigger t view fuel i ≡ point_trigger t i s (j + 1)
unfolding input_change
input-point {t} end h p =
    rw (input-args end h, word_none t (ascii "is") refl p, word_none t (ascii "becomes") refl p, kind-yes t refl p)

-- a trigger is judged by its first word
first : {t : ℕ → Tok} (view : View) (range : ℕ → Name) (fuel n : ℕ) {i j : ℕ} {word : List ℕ} → Word t word i j →
    position word firsts ≡ n → has_place firsts n ≡ true → trigger_at t view range fuel i ≡ trigger_by t view range fuel n j
unfolding trigger_at
first {t} view range fuel n w e h = rw (chosen t trigger_words 21 first-list n w e h)

-- a reading of a trigger is answered, with as much fuel as there are tokens, where nothing follows that would go on with it
pub trigger-complete : {t : ℕ → Tok} {view : View} {range : ℕ → Name} {fuel i j : ℕ} {x : Trigger} → End t fuel → StopsTrigger t j →
    TriggerOf t view range i x j → trigger_at t view range fuel i ≡ ok x j
unfolding trigger_by timer_trigger rule_trigger controller_trigger controller_change http_trigger mqtt_trigger every_trigger at_on at_bound at_trigger scene_closed
    scene_trigger device_trigger online_of group_trigger aggregate_of hcl_trigger override_of level_cross crossing_of lamp_change power_of lamp_trigger
    input_device_change input_device_trigger input_trigger input_event input_becomes occupancy_of light_cross position_change property_trigger
    point_trigger input_change one_instance phrase_choice words_in split position same_bytes
trigger-complete {t} end s (timer_fires w h f) = rw (first _ _ _ 8 w refl refl, named_complete t h f)
trigger-complete {t} end s (rule_fails w h f) = rw (first _ _ _ 10 w refl refl, named_complete t h f)
trigger-complete {t} end s (controller_starts w p) =
    rw (first _ _ _ 9 w refl refl, either_first t (ascii "starts") (ascii "becomes active") refl p)
trigger-complete {t} end s (controller_becomes_active w p) =
    rw (first _ _ _ 9 w refl refl, either_second t (ascii "starts") (ascii "becomes active") refl refl refl p)
trigger-complete {t} end s (http_trigger_rule w h) = rw (first _ _ _ 11 w refl refl, word-complete t h)
trigger-complete {t} end s (mqtt_message w h topic) = rw (first _ _ _ 12 w refl refl, topic_at-complete h topic, s.no_is)
trigger-complete {t} end s (every {ms = ms} w h l) = rw (first _ _ _ 2 w refl refl, kind-complete t refl h, le-ltb ms least_period l)
trigger-complete {t} end s (at_time w h d) =
    rw (first _ _ _ 1 w refl refl, bound-complete (before_on s.unsigned d) h, on_days-complete t end s.days s.no_on d)
trigger-complete {t} end s (at_solar w h d) =
    rw (first _ _ _ 1 w refl refl, bound-complete (before_on s.unsigned d) h, on_days-complete t end s.days s.no_on d)
trigger-complete {t} end s (scene_recalled w left h c right r a) =
    rw (
      first _ _ _ 5 w refl refl,
      kind-complete t refl left,
      up_to-complete t h,
      clause-complete (not-kind t 11 refl (token-kind right)) c,
      kind-complete t refl right,
      word-complete t r,
      adapter-is a,
    )
trigger-complete {t} end s (goes_offline w h p) =
    rw (first _ _ _ 6 w refl refl, device-complete h, either_first t (ascii "goes offline") (ascii "comes online") refl p)
trigger-complete {t} end s (comes_online w h p) =
    rw (first _ _ _ 6 w refl refl, device-complete h, either_second t (ascii "goes offline") (ascii "comes online") refl refl refl p)
trigger-complete {t} end s (group_becomes w h b state) =
    let p = two_complete t (ascii "any_on all_off") 21 refl refl state in
    rw (first _ _ _ 4 w refl refl, group-complete h, phrase-complete t b, p.answered, p.meant)
trigger-complete {t} end s (hcl_override w o change f h) =
    let p = two_complete t (ascii "starts clears") 21 refl refl change in
    rw (first _ _ _ 7 w refl refl, phrase-complete t o, p.answered, for_complete t f h, p.meant)
trigger-complete {t} end s (lamp_turns w h (a_word x y) power) =
    let p = two_complete t (ascii "on off") 21 refl refl power in
    rw (first _ _ _ 3 w refl refl, lamp-complete h, word-yes t (a_word x y), p.answered, p.meant)
trigger-complete {t} end s (lamp_level_cross w h point x way z) =
    let p = two_complete t (ascii "above below") 21 refl refl way in
    rw (
      first _ _ _ 3 w refl refl,
      lamp-complete h,
      word_none t (ascii "turns") refl (token-kind point),
      point_phrase_complete t point x,
      p.answered,
      up_to-complete t z,
      p.meant,
    )
trigger-complete {t} end s (power_cycled w (a_word x y) h p) =
    rw (
      first _ _ _ 0 w refl refl,
      word-yes t (a_word x y),
      input-device-complete h,
      either_first t (ascii "power cycled") (ascii "manual config changed") refl p,
    )
trigger-complete {t} end s (manual_config_changed w (a_word x y) h p) =
    rw (
      first _ _ _ 0 w refl refl,
      word-yes t (a_word x y),
      input-device-complete h,
      either_second t (ascii "power cycled") (ascii "manual config changed") refl refl refl p,
    )
trigger-complete {t} end s (input_event_rule w h (a_word p q) e) =
    rw (first _ _ _ 0 w refl refl, input-args end h, word-yes t (a_word p q), event-complete e)
trigger-complete {t} end s (input_occupancy w (one_instance_rule h) (a_word x y) state) =
    let p = two_complete t (ascii "occupied vacant") 21 refl refl state in
    rw (
      first _ _ _ 0 w refl refl,
      input-args end h,
      word-no t (ascii "is") refl (a_word x y),
      word-yes t (a_word x y),
      p.answered,
      p.meant,
    )
trigger-complete {t} end s (input_light_cross w (one_instance_rule h) (token k) light c way z) =
    let p = two_complete t (ascii "above below") 21 refl refl way in
    rw (
      first _ _ _ 0 w refl refl,
      input-point end h k,
      choice-complete t (ascii "light position") 21 {n = 0} light refl refl,
      phrase-complete t c,
      p.answered,
      up_to-complete t z,
      p.meant,
    )
trigger-complete {t} end s (input_position_change w (one_instance_rule h) (token k) position c) =
    rw (
      first _ _ _ 0 w refl refl,
      input-point end h k,
      choice-complete t (ascii "light position") 21 {n = 1} position refl refl,
      word-complete t c,
    )
