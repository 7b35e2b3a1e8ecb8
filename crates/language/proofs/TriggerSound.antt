-- What the definitions of EVENT and of the triggers accept is a reading of the grammar.
use Prim.Native.Nat.{ℕ, ◌+◌}
use lib.Dec.{ltb}
use borrow.Author.Tests.{ltb-false}
use Rattle.text.specs.Literal.{ascii}
use Rattle.text.specs.Split.{split}
use Rattle.tokens.specs.Result.{Res, ok, bind}
use Rattle.tokens.specs.Cursor.{Tok, is_kind, is_word}
use Rattle.tokens.specs.Phrase.{words_in}
use Rattle.tokens.specs.Grammar.{Token, Word, Phrase, the_first, the_second}
use Rattle.tokens.proofs.Okay.{Okay, bind_ok, pick-ok, perhaps-ok, is_kind_lem}
use Rattle.tokens.proofs.PhraseLaws.{choice-ok, either_ok, phrase_choice_ok, point_phrase_ok}
use Rattle.sheet.specs.View.{View}
use Rattle.sheet.specs.declared.resolve.Scope.{Scope}
use Rattle.references.specs.Refs.{lamp_ref, group_ref, device_ref, input_device_ref, adapter_clause, scope_or_primary}
use Rattle.references.specs.Args.{input_selector, one_instance}
use Rattle.references.specs.Grammar.{OnAdapter, primary, given, Lamp, ArgsOf, OneInstance, one_instance_rule}
use Rattle.references.proofs.RefSound.{clause-sound, lamp-sound, group-sound, device-sound, input_device_sound}
use Rattle.references.proofs.ArgSound.{args-sound}
use Rattle.model.specs.Limits.{last_scene, last_level, last_event_information}
use Rattle.model.specs.declared.Name.{Name}
use Rattle.model.specs.declared.Ref.{Ref}
use Rattle.model.specs.declared.InputRef.{InputRef}
use Rattle.model.specs.declared.Selector.{Selector}
use Rattle.model.specs.declared.LightTarget.{LightTarget}
use Rattle.model.specs.declared.Days.{Days}
use Rattle.model.specs.declared.TimeBound.{TimeBound}
use Rattle.model.specs.declared.TimeBound.TheVariants.{Clock, Solar}
use Rattle.model.specs.declared.Override.{Override}
use Rattle.model.specs.declared.Trigger.TheVariants.{HclOverride, TimerFires, RuleFails}
use Rattle.days.specs.Read.{on_days}
use Rattle.days.specs.Grammar.{OnDays}
use Rattle.days.proofs.GrammarSound.{on_days-sound}
use Rattle.language.specs.Limits.{least_period}
use Rattle.language.specs.Words.{named_phrase, target_for}
use Rattle.language.specs.Timeval.{time_bound}
use Rattle.language.specs.Trigger.{power_of, crossing_of, occupancy_of, aggregate_of, online_of, override_of, timer_trigger, rule_trigger, controller_change, controller_trigger, http_trigger, topic_at, mqtt_trigger, every_trigger, at_on, at_bound, at_trigger, scene_closed, scene_trigger, device_trigger, group_trigger, hcl_trigger, level_cross, lamp_change, lamp_trigger, input_device_change, input_device_trigger, raw_data, raw_event, event_of, event_words, event_at, input_event, input_becomes, light_cross, position_change, property_trigger, point_trigger, input_change, input_trigger, trigger_words, trigger_by, trigger_at}
use Rattle.language.specs.grammar.Timeval.{Bound}
use Rattle.language.specs.grammar.Trigger.{EventOf, press, release, short_press, double_press, long_press_start, long_press_repeat, long_press_stop, button_free, button_stuck, movement, no_movement, any_event, raw, StartsClears, TriggerOf, timer_fires, rule_fails, controller_starts, controller_becomes_active, http_trigger_rule, mqtt_message, every, at_time, at_solar, scene_recalled, goes_offline, comes_online, group_becomes, hcl_override, lamp_turns, lamp_level_cross, power_cycled, manual_config_changed, input_event_rule, input_occupancy, input_light_cross, input_position_change}
use Rattle.language.proofs.WordLaws.{then-kind, then-word, then-up_to, perhaps-word, NamedPhrase, named_phrase_rule, named-sound, ForTarget, for_target, for_sound}
use Rattle.language.proofs.TopicLaws.{topic_at-sound}
use Rattle.language.proofs.TimeLaws.{bound-sound}

-- the adapter of a scene
on_adapter_rule : (view : View) (scope : Scope) → OnAdapter view scope (scope_or_primary view scope)
unfolding scope_or_primary
on_adapter_rule view Scope.Any = primary
on_adapter_rule view (Scope.On a) = given

module _ (t : ℕ → Tok) where
  raw-sound : {i j : ℕ} → Word t (ascii "event") i j → Okay (EventOf t i) (raw_event t j)
  unfolding raw_event raw_data
  raw-sound {i} {j} w =
      let G = EventOf t i in
      then-kind t G 7 j _
      (λ a k left.
      then-word t G (ascii "data") k _
      (λ b l d.
      then-kind t G 14 l _
      (λ c m e.
      then-up_to t G last_event_information m _ (λ n o h. then-kind t G 8 o _ (λ p q right. raw w left d e h right)))))

  -- an EVENT that is answered is a reading
  pub event-sound : (i : ℕ) → Okay (EventOf t i) (event_at t i)
  unfolding event_at event_of words_in split
  event-sound i =
      choice-ok t (EventOf t i) event_words 21 i _ (
        (λ j w. press w),
        (
          (λ j w. release w),
          (
            (λ j w. short_press w),
            (
              (λ j w. double_press w),
              (
                (λ j w. long_press_start w),
                (
                  (λ j w. long_press_repeat w),
                  (
                    (λ j w. long_press_stop w),
                    (
                      (λ j w. button_free w),
                      (
                        (λ j w. button_stuck w),
                        ((λ j w. movement w), ((λ j w. no_movement w), ((λ j w. any_event w), ((λ j w. raw-sound w), tt)))),
                      ),
                    ),
                  ),
                ),
              ),
            ),
          ),
        ),
      )

module _ (t : ℕ → Tok) (view : View) (range : ℕ → Name) where
  -- The triggers by their first word, at i with j behind it.
  module _ (i j : ℕ) where
    timer_sound : Word t (ascii "timer") i j → Okay (TriggerOf t view range i) (timer_trigger t range j)
    unfolding timer_trigger
    timer_sound w = bind_ok (TriggerOf t view range i) (named_phrase t (ascii "fires") j) _ (named-sound t (ascii "fires") j) by
      where
        by : (n k : ℕ) → NamedPhrase t (ascii "fires") j n k → TriggerOf t view range i (TimerFires (range n)) k
        by n k (named_phrase_rule h f) = timer_fires w h f

    rule-sound : Word t (ascii "rule") i j → Okay (TriggerOf t view range i) (rule_trigger t range j)
    unfolding rule_trigger
    rule-sound w = bind_ok (TriggerOf t view range i) (named_phrase t (ascii "fails") j) _ (named-sound t (ascii "fails") j) by
      where
        by : (n k : ℕ) → NamedPhrase t (ascii "fails") j n k → TriggerOf t view range i (RuleFails (range n)) k
        by n k (named_phrase_rule h f) = rule_fails w h f

    controller_sound : Word t (ascii "controller") i j → Okay (TriggerOf t view range i) (controller_trigger t j)
    unfolding controller_trigger controller_change
    controller_sound w =
        either_ok t (TriggerOf t view range i) (ascii "starts") (ascii "becomes active") j _ (λ k p. controller_starts w p)
        (λ k p. controller_becomes_active w p)

    http_sound : Word t (ascii "http") i j → Okay (TriggerOf t view range i) (http_trigger t j)
    unfolding http_trigger
    http_sound w = then-word t (TriggerOf t view range i) (ascii "trigger") j _ (λ a k h. http_trigger_rule w h)

    mqtt_sound : Word t (ascii "mqtt") i j → Okay (TriggerOf t view range i) (mqtt_trigger t range j)
    unfolding mqtt_trigger
    mqtt_sound w =
        let G = TriggerOf t view range i in
        bind_ok G (topic_at t j) _ (topic_at-sound t j)
        (λ n k h. pick-ok G (is_word t (ascii "is") k) _ _ (λ e. tt) (λ e. mqtt_message w h.string h.topic))

    every-sound : Word t (ascii "every") i j → Okay (TriggerOf t view range i) (every_trigger t j)
    unfolding every_trigger
    every-sound w =
        let G = TriggerOf t view range i in
        then-kind t G 5 j _ (λ ms k h. pick-ok G (ltb ms least_period) _ _ (λ e. tt) (λ e. every w h (ltb-false _ _ e)))

    on-sound : Word t (ascii "at") i j → (b : TimeBound) {k : ℕ} → Bound t j b k → (days : Days) (l : ℕ) → OnDays t k days l →
        TriggerOf t view range i (at_on b days) l
    unfolding at_on
    on-sound w (Clock m) h days l g = at_time w h g
    on-sound w (Solar event offset) h days l g = at_solar w h g

    at-sound : (fuel : ℕ) → Word t (ascii "at") i j → Okay (TriggerOf t view range i) (at_trigger t fuel j)
    unfolding at_trigger at_bound
    at-sound fuel w =
        let G = TriggerOf t view range i in
        bind_ok G (time_bound t j) _ (bound-sound t j)
        (λ b k h. bind_ok G (on_days t fuel k) _ (on_days-sound t fuel k) (λ days l g. on-sound w b h days l g))

    scene-sound : Word t (ascii "scene") i j → Okay (TriggerOf t view range i) (scene_trigger t view j)
    unfolding scene_trigger scene_closed
    scene-sound w =
        let G = TriggerOf t view range i in
        then-kind t G 7 j _
        (λ a k left.
        then-up_to t G last_scene k _
        (λ scene l h.
        bind_ok G (adapter_clause t view l) _ (clause-sound t view l)
        (λ scope m c.
        then-kind t G 8 m _
        (λ b n right. then-word t G (ascii "recalled") n _ (λ d o r. scene_recalled w left h c right r (on_adapter_rule view scope))))))

    device_trigger-sound : Word t (ascii "device") i j → Okay (TriggerOf t view range i) (device_trigger t view j)
    unfolding device_trigger online_of
    device_trigger-sound w =
        let G = TriggerOf t view range i in
        bind_ok G (device_ref t view j) _ (device-sound t view j)
        (λ r k h.
        either_ok t G (ascii "goes offline") (ascii "comes online") k _ (λ l p. goes_offline w h p) (λ l p. comes_online w h p))

    group_trigger-sound : Word t (ascii "group") i j → Okay (TriggerOf t view range i) (group_trigger t view j)
    unfolding group_trigger aggregate_of words_in split
    group_trigger-sound w =
        let G = TriggerOf t view range i in
        bind_ok G (group_ref t view j) _ (group-sound t view j)
        (λ r k h.
        phrase_choice_ok t G (ascii "becomes") (ascii "any_on all_off") k _
        (λ l b. ((λ m p. group_becomes w h b (the_first p)), ((λ m p. group_becomes w h b (the_second p)), tt))))

    -- behind the word of a change
    override_sound : Word t (ascii "hcl") i j → {k : ℕ} → Phrase t (ascii "override") j k → (change : Override) (l : ℕ) → StartsClears t k change l →
        Okay (TriggerOf t view range i) (bind (target_for t view l) (λ target m. ok (HclOverride target change) m))
    override_sound w o change l c = bind_ok (TriggerOf t view range i) (target_for t view l) _ (for_sound t view l) by
      where
        by : (target : LightTarget) (m : ℕ) → ForTarget t view l target m → TriggerOf t view range i (HclOverride target change) m
        by target m (for_target f h) = hcl_override w o c f h

    hcl-sound : Word t (ascii "hcl") i j → Okay (TriggerOf t view range i) (hcl_trigger t view j)
    unfolding hcl_trigger override_of words_in split
    hcl-sound w =
        phrase_choice_ok t (TriggerOf t view range i) (ascii "override") (ascii "starts clears") j _
        (λ k o. ((λ l c. override_sound w o _ l (the_first c)), ((λ l c. override_sound w o _ l (the_second c)), tt)))

    lamp_change-sound : Word t (ascii "lamp") i j → (r : Ref) (k : ℕ) → Lamp t view j r k →
        Okay (TriggerOf t view range i) (lamp_change t r k)
    unfolding lamp_change level_cross power_of crossing_of words_in split
    lamp_change-sound w r k h =
        let G = TriggerOf t view range i in
        perhaps-word t G (ascii "turns") k _ _
        (λ x.
        choice-ok t G (ascii "on off") 21 (k + 1) _
        ((λ l p. lamp_turns w h x (the_first p)), ((λ l p. lamp_turns w h x (the_second p)), tt)))
        (point_phrase_ok t G (ascii "level crosses") k _
        (λ a l n m point p.
        choice-ok t G (ascii "above below") 21 m _ (
          (λ o way. then-up_to t G last_level o _ (λ level q z. lamp_level_cross w h point p (the_first way) z)),
          ((λ o way. then-up_to t G last_level o _ (λ level q z. lamp_level_cross w h point p (the_second way) z)), tt),
        )))

    lamp_trigger-sound : Word t (ascii "lamp") i j → Okay (TriggerOf t view range i) (lamp_trigger t view j)
    unfolding lamp_trigger
    lamp_trigger-sound w =
        bind_ok (TriggerOf t view range i) (lamp_ref t view j) _ (lamp-sound t view j) (λ r k h. lamp_change-sound w r k h)

    -- one instance is asked for behind `becomes` or `.`: next is the index behind it, k the one behind ARGS
    one_ok : {B : Type 0} (Q : B → ℕ → Type 0) {k : ℕ} (next : ℕ) (s : Selector) (f : InputRef → ℕ → Res B) → ArgsOf t view j s k →
        ((r : InputRef) → OneInstance t view j r k → Okay Q (f r next)) → Okay Q (bind (one_instance j next s) f)
    unfolding one_instance
    one_ok Q next (Selector.Instance ref n) f h g = g _ (one_instance_rule h)
    one_ok Q next (Selector.Group a b k) f h g = tt

    module _ (s : Selector) (k : ℕ) (w : Word t (ascii "input") i j) (h : ArgsOf t view j s k) where
      becomes_sound : Word t (ascii "becomes") k (k + 1) → Okay (TriggerOf t view range i) (input_becomes t j s (k + 1))
      unfolding input_becomes occupancy_of words_in split
      becomes_sound b =
          let G = TriggerOf t view range i in
          one_ok G (k + 1) s _ h
          (λ r one.
          choice-ok t G (ascii "occupied vacant") 21 (k + 1) _
          ((λ l o. input_occupancy w one b (the_first o)), ((λ l o. input_occupancy w one b (the_second o)), tt)))

      point-sound : Token t 12 k (t k).number (k + 1) → Okay (TriggerOf t view range i) (point_trigger t j s (k + 1))
      unfolding point_trigger property_trigger light_cross position_change crossing_of words_in split
      point-sound point =
          let G = TriggerOf t view range i in
          one_ok G (k + 1) s _ h
          (λ r one.
          choice-ok t G (ascii "light position") 21 (k + 1) _ (
            (λ l light.
                phrase_choice_ok t G (ascii "crosses") (ascii "above below") l _
                (λ m c. (
                  (λ o way. then-up_to t G last_event_information o _ (λ v p z. input_light_cross w one point light c (the_first way) z)),
                  ((λ o way. then-up_to t G last_event_information o _ (λ v p z. input_light_cross w one point light c (the_second way) z)), tt),
                ))),
            ((λ l position. then-word t G (ascii "changes") l _ (λ a m c. input_position_change w one point position c)), tt),
          ))

      input_change-sound : Okay (TriggerOf t view range i) (input_change t j s k)
      unfolding input_change input_event
      input_change-sound =
          let G = TriggerOf t view range i in
          perhaps-word t G (ascii "is") k _ _
          (λ is. bind_ok G (event_at t (k + 1)) _ (event-sound t (k + 1)) (λ e l x. input_event_rule w h is x))
          (perhaps-word t G (ascii "becomes") k _ _ (λ b. becomes_sound b)
          (perhaps-ok G (is_kind t 12 k) k _ _ (λ e. point-sound (is_kind_lem t 12 k e)) (λ e. tt)))

    input-sound : (fuel : ℕ) → Word t (ascii "input") i j → Okay (TriggerOf t view range i) (input_trigger t view fuel j)
    unfolding input_trigger input_device_trigger input_device_change
    input-sound fuel w =
        let G = TriggerOf t view range i in
        perhaps-word t G (ascii "device") j _ _
        (λ d.
        bind_ok G (input_device_ref t view (j + 1)) _ (input_device_sound t view (j + 1))
        (λ r l h.
        either_ok t G (ascii "power cycled") (ascii "manual config changed") l _ (λ m p. power_cycled w d h p)
        (λ m p. manual_config_changed w d h p)))
        (bind_ok G (input_selector t view fuel j) _ (args-sound t view fuel j) (λ s k h. input_change-sound s k w h))

  -- a trigger that is answered is a reading, whatever the fuel
  pub trigger-sound : (fuel i : ℕ) → Okay (TriggerOf t view range i) (trigger_at t view range fuel i)
  unfolding trigger_at trigger_by words_in split
  trigger-sound fuel i =
      choice-ok t (TriggerOf t view range i) trigger_words 21 i _ (
        (λ j w. input-sound i j fuel w),
        (
          (λ j w. at-sound i j fuel w),
          (
            (λ j w. every-sound i j w),
            (
              (λ j w. lamp_trigger-sound i j w),
              (
                (λ j w. group_trigger-sound i j w),
                (
                  (λ j w. scene-sound i j w),
                  (
                    (λ j w. device_trigger-sound i j w),
                    (
                      (λ j w. hcl-sound i j w),
                      (
                        (λ j w. timer_sound i j w),
                        (
                          (λ j w. controller_sound i j w),
                          ((λ j w. rule-sound i j w), ((λ j w. http_sound i j w), ((λ j w. mqtt_sound i j w), tt))),
                        ),
                      ),
                    ),
                  ),
                ),
              ),
            ),
          ),
        ),
      )
