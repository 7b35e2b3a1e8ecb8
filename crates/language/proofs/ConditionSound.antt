-- What the definitions of the conditions accept is a reading of the grammar.
use Prim.Native.Nat.{ℕ, ◌+◌}
use lib.Dec.{ltb, eqb}
use lib.ListN.{length}
use borrow.Author.Tests.{eqb-true, ltb-false}
use Rattle.text.specs.Literal.{ascii}
use Rattle.text.specs.Split.{split}
use Rattle.tokens.specs.Result.{ok, bind}
use Rattle.tokens.specs.Cursor.{Tok, is_kind}
use Rattle.tokens.specs.Phrase.{words_in}
use Rattle.tokens.specs.Grammar.{Token, token, Word, Phrase, the_first, the_second}
use Rattle.tokens.proofs.Okay.{Okay, bind_ok, pick-ok}
use Rattle.tokens.proofs.PhraseLaws.{choice-ok, phrase_choice_ok, point_phrase_ok}
use Rattle.sheet.specs.View.{View}
use Rattle.references.specs.Refs.{lamp_ref, group_ref, device_ref, quoted_name}
use Rattle.references.specs.Args.{input_ref}
use Rattle.references.specs.Grammar.{Lamp}
use Rattle.references.proofs.RefSound.{quoted-sound, lamp-sound, group-sound, device-sound}
use Rattle.references.proofs.ArgSound.{one_instance-sound}
use Rattle.model.specs.declared.Name.{Name}
use Rattle.model.specs.declared.Ref.{Ref}
use Rattle.model.specs.declared.LightTarget.{LightTarget}
use Rattle.model.specs.declared.Value.{Value}
use Rattle.model.specs.declared.Comparison.{Comparison}
use Rattle.model.specs.declared.Hcl.{Hcl}
use Rattle.model.specs.declared.Condition.TheVariants.{HclState, LastFiredOlderThan, RuleEnabled, TimerRunning}
use Rattle.days.specs.Read.{day_set}
use Rattle.days.proofs.GrammarSound.{day_set-sound}
use Rattle.language.specs.Limits.{most_text}
use Rattle.language.specs.Words.{named_phrase, target_for, property_word}
use Rattle.language.specs.Timeval.{time_bound}
use Rattle.language.specs.Expr.{value_at}
use Rattle.language.specs.Trigger.{power_of, crossing_of, occupancy_of, aggregate_of}
use Rattle.language.specs.Condition.{comparison_by, comparison_at, controller_condition, timer_condition, rule_condition, last_fired_condition, device_condition, sun_of, sun_condition, time_to, time_condition, day_condition, group_condition, hcl_of, hcl_condition, lamp_property_of, lamp_judged, lamp_compared, lamp_point, lamp_state, lamp_condition, light_than, input_state, input_condition, text_operand, operand_at, var_compared, var_condition, condition_words, condition_by, condition_at}
use Rattle.language.specs.grammar.Expr.{ValueOf}
use Rattle.language.specs.grammar.Condition.{Compared, eq, ne, ge, le, gt, lt, EnabledOverridden, OperandOf, text, value, ConditionOf, controller_active, timer_running, rule_enabled, last_fired, device_online, sun_is, time_in, day_in, group_state, hcl_state, lamp_is, lamp_compare, input_occupancy, input_light, var_compare}
use Rattle.language.proofs.WordLaws.{then-kind, then-word, then-phrase, perhaps-word, one_token, NamedPhrase, named_phrase_rule, named-sound, ForTarget, for_target, for_sound, PointWord, point_word, point-sound}
use Rattle.language.proofs.TimeLaws.{bound-sound}
use Rattle.language.proofs.ExprLaws.{value-sound}

module _ (t : ℕ → Tok) where
  -- the kinds of comparison
  comparison-sound : (i : ℕ) → Okay (Compared t i) (comparison_at t i)
  unfolding comparison_at comparison_by
  comparison-sound i =
      let G = Compared t i in
      let kind = (t i).kind in
      pick-ok G (eqb kind 15) _ _ (λ e. eq (token (eqb-true _ _ e)))
      (λ n.
      pick-ok G (eqb kind 16) _ _ (λ e. ne (token (eqb-true _ _ e)))
      (λ n.
      pick-ok G (eqb kind 17) _ _ (λ e. ge (token (eqb-true _ _ e)))
      (λ n.
      pick-ok G (eqb kind 18) _ _ (λ e. le (token (eqb-true _ _ e)))
      (λ n.
      pick-ok G (eqb kind 19) _ _ (λ e. gt (token (eqb-true _ _ e)))
      (λ n. pick-ok G (eqb kind 20) _ _ (λ e. lt (token (eqb-true _ _ e))) (λ n. tt))))))

module _ (t : ℕ → Tok) (view : View) (range : ℕ → Name) where
  -- what a var is compared with
  operand_sound : (fuel i : ℕ) → Okay (OperandOf t view range i) (operand_at t view range fuel i)
  unfolding operand_at text_operand
  operand_sound fuel i =
      let G = OperandOf t view range i in
      pick-ok G (is_kind t 2 i) _ _
      (λ e.
      then-kind t G 2 i _
      (λ n j h. pick-ok G (ltb most_text (length (t i).bytes)) _ _ (λ e. tt) (λ few. text h (ltb-false _ _ few))))
      (λ e. bind_ok G (value_at t view range fuel i) _ (value-sound t view range fuel i) (λ v j h. value h))

  -- each form, behind its first word
  controller_sound : {i j : ℕ} → Word t (ascii "controller") i j → Okay (ConditionOf t view range i) (controller_condition t j)
  unfolding controller_condition
  controller_sound {i} {j} w = then-phrase t (ConditionOf t view range i) (ascii "is active") j _ (λ a k p. controller_active w p)

  timer_sound : {i j : ℕ} → Word t (ascii "timer") i j → Okay (ConditionOf t view range i) (timer_condition t range j)
  unfolding timer_condition
  timer_sound {i} {j} w =
      bind_ok (ConditionOf t view range i) (named_phrase t (ascii "is running") j) _ (named-sound t (ascii "is running") j) by
    where
      by : (n k : ℕ) → NamedPhrase t (ascii "is running") j n k → ConditionOf t view range i (TimerRunning (range n)) k
      by n k (named_phrase_rule h p) = timer_running w h p

  rule-sound : {i j : ℕ} → Word t (ascii "rule") i j → Okay (ConditionOf t view range i) (rule_condition t range j)
  unfolding rule_condition
  rule-sound {i} {j} w =
      bind_ok (ConditionOf t view range i) (named_phrase t (ascii "is enabled") j) _ (named-sound t (ascii "is enabled") j) by
    where
      by : (n k : ℕ) → NamedPhrase t (ascii "is enabled") j n k → ConditionOf t view range i (RuleEnabled (range n)) k
      by n k (named_phrase_rule h p) = rule_enabled w h p

  last_fired-sound : {i j : ℕ} → Word t (ascii "last_fired") i j → Okay (ConditionOf t view range i) (last_fired_condition t range j)
  unfolding last_fired_condition
  last_fired-sound {i} {j} w =
      let G = ConditionOf t view range i in
      bind_ok G (named_phrase t (ascii "older than") j) _ (named-sound t (ascii "older than") j) (λ n k h. then-kind t G 5 k _ (by n k h))
    where
      by : (n k : ℕ) → NamedPhrase t (ascii "older than") j n k → (ms l : ℕ) → Token t 5 k ms l →
          ConditionOf t view range i (LastFiredOlderThan (range n) ms) l
      by n k (named_phrase_rule h p) ms l d = last_fired w h p d

  device_online-sound : {i j : ℕ} → Word t (ascii "device") i j → Okay (ConditionOf t view range i) (device_condition t view j)
  unfolding device_condition
  device_online-sound {i} {j} w =
      let G = ConditionOf t view range i in
      bind_ok G (device_ref t view j) _ (device-sound t view j)
      (λ r k h. then-phrase t G (ascii "is online") k _ (λ a l p. device_online w h p))

  sun-sound : {i j : ℕ} → Word t (ascii "sun") i j → Okay (ConditionOf t view range i) (sun_condition t j)
  unfolding sun_condition sun_of words_in split
  sun-sound {i} {j} w =
      phrase_choice_ok t (ConditionOf t view range i) (ascii "is") (ascii "up down") j _
      (λ k is. ((λ l p. sun_is w is (the_first p)), ((λ l p. sun_is w is (the_second p)), tt)))

  time-sound : {i j : ℕ} → Word t (ascii "time") i j → Okay (ConditionOf t view range i) (time_condition t j)
  unfolding time_condition time_to
  time-sound {i} {j} w =
      let G = ConditionOf t view range i in
      then-word t G (ascii "in") j _
      (λ a k v.
      bind_ok G (time_bound t k) _ (bound-sound t k)
      (λ start l from.
      then-kind t G 13 l _ (λ b m dots. bind_ok G (time_bound t m) _ (bound-sound t m) (λ end n to. time_in w v from dots to))))

  day-sound : (fuel : ℕ) {i j : ℕ} → Word t (ascii "day") i j → Okay (ConditionOf t view range i) (day_condition t fuel j)
  unfolding day_condition
  day-sound fuel {i} {j} w =
      let G = ConditionOf t view range i in
      then-word t G (ascii "in") j _ (λ a k v. bind_ok G (day_set t fuel k) _ (day_set-sound t fuel k) (λ days l h. day_in w v h))

  group_state-sound : {i j : ℕ} → Word t (ascii "group") i j → Okay (ConditionOf t view range i) (group_condition t view j)
  unfolding group_condition aggregate_of words_in split
  group_state-sound {i} {j} w =
      let G = ConditionOf t view range i in
      bind_ok G (group_ref t view j) _ (group-sound t view j)
      (λ r k h.
      choice-ok t G (ascii "any_on all_off") 21 k _
      ((λ l p. group_state w h (the_first p)), ((λ l p. group_state w h (the_second p)), tt)))

  -- behind the state's word
  hcl_for_sound : {i j k : ℕ} → Word t (ascii "hcl") i j → Phrase t (ascii "is") j k → (state : Hcl) (l : ℕ) → EnabledOverridden t k state l →
      Okay (ConditionOf t view range i) (bind (target_for t view l) (λ target m. ok (HclState target state) m))
  hcl_for_sound {i} w is state l s = bind_ok (ConditionOf t view range i) (target_for t view l) _ (for_sound t view l) by
    where
      by : (target : LightTarget) (m : ℕ) → ForTarget t view l target m → ConditionOf t view range i (HclState target state) m
      by target m (for_target f h) = hcl_state w is s f h

  hcl-sound : {i j : ℕ} → Word t (ascii "hcl") i j → Okay (ConditionOf t view range i) (hcl_condition t view j)
  unfolding hcl_condition hcl_of words_in split
  hcl-sound {i} {j} w =
      phrase_choice_ok t (ConditionOf t view range i) (ascii "is") (ascii "enabled overridden") j _
      (λ k is. ((λ l p. hcl_for_sound w is _ l (the_first p)), ((λ l p. hcl_for_sound w is _ l (the_second p)), tt)))

  -- the property is judged last: it is a word, and then one of the two
  lamp_point-sound : (fuel : ℕ) {i j k : ℕ} (r : Ref) → Word t (ascii "lamp") i j → Lamp t view j r k →
      Okay (ConditionOf t view range i) (lamp_point t view range fuel r k)
  unfolding lamp_point lamp_compared lamp_judged lamp_property_of words_in split
  lamp_point-sound fuel {i} {j} {k} r w h =
      let G = ConditionOf t view range i in
      bind_ok G (property_word t k) _ (point-sound t k)
      (λ l m property.
      bind_ok G (comparison_at t m) _ (comparison-sound t m)
      (λ c n compared.
      bind_ok G (value_at t view range fuel n) _ (value-sound t view range fuel n)
      (λ v o than. by l m property c n compared v o than)))
    where
      by : (l m : ℕ) → PointWord t k l m → (c : Comparison) (n : ℕ) → Compared t m c n → (v : Value) (o : ℕ) → ValueOf t view range n v o →
          Okay (ConditionOf t view range i) (lamp_judged t r l c v o)
      by l m (point_word point (token p)) c n compared v o than =
          choice-ok t (ConditionOf t view range i) (ascii "level cct") 21 l _ (
            (λ a q. lamp_compare w h point (the_first (one_token t q)) compared than),
            ((λ a q. lamp_compare w h point (the_second (one_token t q)) compared than), tt),
          )

  lamp_condition-sound : (fuel : ℕ) {i j : ℕ} → Word t (ascii "lamp") i j → Okay (ConditionOf t view range i) (lamp_condition t view range fuel j)
  unfolding lamp_condition lamp_state power_of words_in split
  lamp_condition-sound fuel {i} {j} w =
      let G = ConditionOf t view range i in
      bind_ok G (lamp_ref t view j) _ (lamp-sound t view j)
      (λ r k h.
      perhaps-word t G (ascii "is") k _ _
      (λ is.
      choice-ok t G (ascii "on off") 21 (k + 1) _
      ((λ l p. lamp_is w h is (the_first p)), ((λ l p. lamp_is w h is (the_second p)), tt)))
      (lamp_point-sound fuel r w h))

  input-sound : (fuel : ℕ) {i j : ℕ} → Word t (ascii "input") i j → Okay (ConditionOf t view range i) (input_condition t view range fuel j)
  unfolding input_condition input_state light_than occupancy_of crossing_of words_in split
  input-sound fuel {i} {j} w =
      let G = ConditionOf t view range i in
      bind_ok G (input_ref t view fuel j) _ (one_instance-sound t view fuel j)
      (λ r k h.
      perhaps-word t G (ascii "is") k _ _
      (λ is.
      choice-ok t G (ascii "occupied vacant") 21 (k + 1) _
      ((λ l p. input_occupancy w h is (the_first p)), ((λ l p. input_occupancy w h is (the_second p)), tt)))
      (point_phrase_ok t G (ascii "light") k _
      (λ a l n m point light.
      choice-ok t G (ascii "above below") 21 m _ (
        (λ o way.
            bind_ok G (value_at t view range fuel o) _ (value-sound t view range fuel o) (λ v p than. input_light w h point light (the_first way) than)),
        (
          (λ o way.
              bind_ok G (value_at t view range fuel o) _ (value-sound t view range fuel o) (λ v p than. input_light w h point light (the_second way) than)),
          tt,
        ),
      ))))

  var-sound : (fuel : ℕ) {i j : ℕ} → Word t (ascii "var") i j → Okay (ConditionOf t view range i) (var_condition t view range fuel j)
  unfolding var_condition var_compared
  var-sound fuel {i} {j} w =
      let G = ConditionOf t view range i in
      bind_ok G (quoted_name t j) _ (quoted-sound t j)
      (λ n k name.
      bind_ok G (comparison_at t k) _ (comparison-sound t k)
      (λ c l compared.
      bind_ok G (operand_at t view range fuel l) _ (operand_sound fuel l) (λ v m than. var_compare w name compared than)))

  -- what is answered is a reading
  pub condition-sound : (fuel i : ℕ) → Okay (ConditionOf t view range i) (condition_at t view range fuel i)
  unfolding condition_at condition_by words_in split
  condition-sound fuel i =
      choice-ok t (ConditionOf t view range i) condition_words 21 i _ (
        (λ j w. time-sound w),
        (
          (λ j w. sun-sound w),
          (
            (λ j w. lamp_condition-sound fuel w),
            (
              (λ j w. group_state-sound w),
              (
                (λ j w. input-sound fuel w),
                (
                  (λ j w. hcl-sound w),
                  (
                    (λ j w. device_online-sound w),
                    (
                      (λ j w. rule-sound w),
                      (
                        (λ j w. last_fired-sound w),
                        (
                          (λ j w. timer_sound w),
                          ((λ j w. controller_sound w), ((λ j w. var-sound fuel w), ((λ j w. day-sound fuel w), tt))),
                        ),
                      ),
                    ),
                  ),
                ),
              ),
            ),
          ),
        ),
      )
