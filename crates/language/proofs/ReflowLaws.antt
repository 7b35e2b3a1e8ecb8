-- What is answered on tokens depends on the text only by where its names stand: with the same tokens and the same bytes in strings, two texts are answered
-- alike. Form by form, then of the whole rule, and of whole calls (document 02, §14, specs/Reflow.antt).
use Rattle.std.specs.Prelude.{Option, ℤ}
use Prim.Native.Nat.{ℕ}
use mathlib.Core.Path.{◌≡◌, ◌∙◌, refl, ap}
use mathlib.Core.Bool.{Bool, true, false}
use mathlib.Core.List.{List, [], ◌∷◌, map}
use lib.ListN.{length}
use lib.Dec.{eqb, ltb}
use Rattle.text.specs.Choice.{pick}
use Rattle.text.specs.Literal.{ascii}
use Rattle.tokens.specs.Kind.{STRING, DURATION}
use Rattle.tokens.specs.Result.{ok, bind}
use Rattle.tokens.specs.Cursor.{Tok, is_word, is_kind, take_kind}
use Rattle.tokens.specs.Phrase.{choice_at}
use Rattle.tokens.proofs.Okay.{token-kind, kind-sound}
use Rattle.sheet.specs.View.{View}
use Rattle.references.specs.Grammar.{Q, q, quoted}
use Rattle.references.specs.Refs.{quoted_name}
use Rattle.references.proofs.RefSound.{quoted-sound}
use Rattle.topics.specs.Ranges.{name_in}
use Rattle.model.specs.declared.Name.{Name}
use Rattle.model.specs.declared.Ref.{Ref}
use Rattle.model.specs.declared.InputRef.{InputRef}
use Rattle.model.specs.declared.Days.{Days}
use Rattle.model.specs.declared.TimeBound.{TimeBound}
use Rattle.model.specs.declared.TimeBound.TheVariants.{Clock, Solar}
use Rattle.model.specs.declared.Reading.{Reading}
use Rattle.model.specs.declared.Value.{Value}
use Rattle.model.specs.declared.Value.TheVariants.{Reads}
use Rattle.model.specs.declared.Comparison.{Comparison}
use Rattle.model.specs.declared.LampProperty.{LampProperty}
use Rattle.model.specs.declared.Crossing.{Crossing}
use Rattle.model.specs.declared.Operand.{Operand}
use Rattle.model.specs.declared.Trigger.TheVariants.{TimerFires, RuleFails, MqttMessage, ControllerStarts, ControllerBecomesActive, InputDevicePowerCycled, InputDeviceManualConfigChanged}
use Rattle.model.specs.declared.Condition.{Condition}
use Rattle.language.specs.Limits.{most_text}
use Rattle.language.specs.Words.{named_phrase}
use Rattle.language.specs.Expr.{lamp_reading, group_reading, input_reading, time_reading, sun_reading, event_reading, var_reading, reading_by, reading_at, literal_at, delta_at, with_delta, read_value, value_at}
use Rattle.language.specs.Trigger.{timer_trigger, rule_trigger, controller_change, controller_trigger, http_trigger, topic_at, mqtt_trigger, every_trigger, at_on, at_bound, at_trigger, scene_closed, scene_trigger, device_trigger, group_trigger, hcl_trigger, level_cross, lamp_change, lamp_trigger, input_device_change, input_device_trigger, input_event, input_becomes, light_cross, position_change, property_trigger, point_trigger, input_change, input_trigger, trigger_by, trigger_at}
use Rattle.language.specs.Condition.{comparison_at, controller_condition, timer_condition, rule_condition, last_fired_condition, device_condition, sun_condition, time_to, time_condition, day_condition, group_condition, hcl_condition, lamp_property_of, lamp_judged, lamp_compared, lamp_point, lamp_state, lamp_condition, light_than, input_state, input_condition, text_operand, operand_at, var_compared, var_condition, condition_by, condition_at}
use Rattle.language.specs.Same.{no_name, reading_parts, value_parts, operand_parts, trigger_parts, condition_parts, Shown, shown_in, shown_trigger, shown_condition}
use Rattle.language.proofs.WordLaws.{NamedPhrase, named_phrase_rule, named-sound}
use Rattle.language.proofs.TopicLaws.{topic_at-sound}
use Rattle.language.proofs.SameLaws.{Alike, alike-ok, alike-no, alike-step, alike_knowing, alike-bind, alike-pick, alikes}

abbrev pub shown_reading : List ℕ → Reading → Shown Reading
shown_reading text x = shown_in text (reading_parts x)

abbrev pub shown_value : List ℕ → Value → Shown Value
shown_value text x = shown_in text (value_parts x)

abbrev pub shown_operand : List ℕ → Operand → Shown Operand
shown_operand text x = shown_in text (operand_parts x)

-- a quoted name is a string
quoted-string : {t : ℕ → Tok} {i n j : ℕ} → Q t i n j → (t n).kind ≡ STRING
quoted-string (q left (quoted h some few) right) = token-kind h

phrase-string : {t : ℕ → Tok} {list : List ℕ} {i n j : ℕ} → NamedPhrase t list i n j → (t n).kind ≡ STRING
phrase-string (named_phrase_rule h p) = quoted-string h

-- one name, with the same bytes
pub one_name : {A : Type 0} (bare : A) {x y : List ℕ} → x ≡ y → ◌≡◌ {A = Shown A} (record { bare = bare; names = x ∷ [] }) (record { bare = bare; names = y ∷ [] })
one_name {A} bare e = ap (λ (x : List ℕ). record { bare = bare; names = x ∷ [] }) e

-- the names of a part
pub within : {A B : Type 0} (f : A → B) {p r : Shown A} → p ≡ r →
    ◌≡◌ {A = Shown B} (record { bare = f p.bare; names = p.names }) (record { bare = f r.bare; names = r.names })
within {A} {B} f e = ap (λ (p : Shown A). record { bare = f p.bare; names = p.names }) e

module _ (a b : List ℕ) where
  pub reads-shown : (x y : Reading) (d : Option ℤ) → shown_reading a x ≡ shown_reading b y → shown_value a (Reads x d) ≡ shown_value b (Reads y d)
  unfolding value_parts
  reads-shown x y d e = within (λ z. Reads z d) e

  pub number-shown : (x y : Value) → shown_value a x ≡ shown_value b y → shown_operand a (Operand.Number x) ≡ shown_operand b (Operand.Number y)
  unfolding operand_parts
  number-shown x y e = within Operand.Number e

  pub lamp-shown : (r : Ref) (p : LampProperty) (c : Comparison) (x y : Value) → shown_value a x ≡ shown_value b y →
      shown_condition a (Condition.LampCompare r p c x) ≡ shown_condition b (Condition.LampCompare r p c y)
  unfolding shown_condition condition_parts
  lamp-shown r p c x y e = within (λ z. Condition.LampCompare r p c z) e

  pub light-shown : (r : InputRef) (way : Crossing) (x y : Value) → shown_value a x ≡ shown_value b y →
      shown_condition a (Condition.InputLight r way x) ≡ shown_condition b (Condition.InputLight r way y)
  unfolding shown_condition condition_parts
  light-shown r way x y e = within (λ z. Condition.InputLight r way z) e

  pub var-shown : (n m : Name) (c : Comparison) (x y : Operand) → name_in a n ≡ name_in b m → shown_operand a x ≡ shown_operand b y →
      shown_condition a (Condition.VarCompare n c x) ≡ shown_condition b (Condition.VarCompare m c y)
  unfolding shown_condition condition_parts
  var-shown n m c x y e f =
      ap (λ (p : Shown Operand). record { bare = Condition.VarCompare no_name c p.bare; names = name_in a n ∷ p.names }) f ∙
      ap (λ (z : List ℕ). record { bare = Condition.VarCompare no_name c (operand_parts y).bare; names = z ∷ map (name_in b) (operand_parts y).names }) e

  -- triggers that a function made, without a name
  controller_shown : (n : ℕ) → shown_trigger a (controller_change n) ≡ shown_trigger b (controller_change n)
  unfolding shown_trigger trigger_parts controller_change
  controller_shown n = by (eqb n 0)
    where
      by : (t : Bool) → shown_trigger a (pick t ControllerStarts ControllerBecomesActive) ≡ shown_trigger b (pick t ControllerStarts ControllerBecomesActive)
      by true = refl
      by false = refl

  device-shown : (r : Ref) (n : ℕ) → shown_trigger a (input_device_change r n) ≡ shown_trigger b (input_device_change r n)
  unfolding shown_trigger trigger_parts input_device_change
  device-shown r n = by (eqb n 0)
    where
      by : (t : Bool) → shown_trigger a (pick t (InputDevicePowerCycled r) (InputDeviceManualConfigChanged r)) ≡ shown_trigger b (pick t (InputDevicePowerCycled r) (InputDeviceManualConfigChanged r))
      by true = refl
      by false = refl

  at-shown : (bound : TimeBound) (days : Days) → shown_trigger a (at_on bound days) ≡ shown_trigger b (at_on bound days)
  unfolding shown_trigger trigger_parts at_on
  at-shown (Clock m) days = refl
  at-shown (Solar event offset) days = refl

-- the same tokens, and two ways to say where names stand, with the same bytes in strings
module _ (t : ℕ → Tok) (view : View) (fuel : ℕ) (a b : List ℕ) (r s : ℕ → Name)
    (strings : (n : ℕ) → (t n).kind ≡ STRING → name_in a (r n) ≡ name_in b (s n)) where
  var-alike : (i : ℕ) → Alike (shown_reading a) (shown_reading b) (var_reading t r i) (var_reading t s i)
  unfolding var_reading reading_parts
  var-alike i =
      alike_knowing (shown_reading a) (shown_reading b) (quoted_name t i) _ _ (quoted-sound t i)
      (λ n j h. alike-ok (shown_reading a) (shown_reading b) (Reading.Var (r n)) (Reading.Var (s n)) j (one_name (Reading.Var no_name) (strings n (quoted-string h))))

  reading-alike : (i : ℕ) → Alike (shown_reading a) (shown_reading b) (reading_at t view r fuel i) (reading_at t view s fuel i)
  unfolding reading_at reading_by lamp_reading group_reading input_reading time_reading sun_reading event_reading reading_parts
  reading-alike i = search (alikes, var-alike) depth 20

  delta-alike : (x y : Reading) (i : ℕ) → shown_reading a x ≡ shown_reading b y →
      Alike (shown_value a) (shown_value b) (with_delta t x i) (with_delta t y i)
  unfolding with_delta delta_at
  delta-alike x y i e = search (alikes, reads-shown) depth 10

  value-alike : (i : ℕ) → Alike (shown_value a) (shown_value b) (value_at t view r fuel i) (value_at t view s fuel i)
  unfolding value_at read_value literal_at value_parts
  value-alike i =
      let reads = alike-bind (shown_reading a) (shown_reading b) (shown_value a) (shown_value b) _ _ _ _ (reading-alike i) (λ x y j e. delta-alike x y j e) in
      search (alikes, reads) depth 10

  -- a form that is a name and a phrase
  phrase-alike : {A : Type 0} (f g : A → Shown A) (list : List ℕ) (make : Name → A) →
      ((n m : Name) → name_in a n ≡ name_in b m → f (make n) ≡ g (make m)) → (i : ℕ) →
      Alike f g (bind (named_phrase t list i) (λ n j. ok (make (r n)) j)) (bind (named_phrase t list i) (λ n j. ok (make (s n)) j))
  phrase-alike f g list make shown i =
      alike_knowing f g (named_phrase t list i) _ _ (named-sound t list i)
      (λ n j h. alike-ok f g (make (r n)) (make (s n)) j (shown (r n) (s n) (strings n (phrase-string h))))

  timer_alike : (i : ℕ) → Alike (shown_trigger a) (shown_trigger b) (timer_trigger t r i) (timer_trigger t s i)
  unfolding timer_trigger shown_trigger trigger_parts
  timer_alike i = phrase-alike (shown_trigger a) (shown_trigger b) (ascii "fires") TimerFires (λ n m e. one_name (TimerFires no_name) e) i

  rule-alike : (i : ℕ) → Alike (shown_trigger a) (shown_trigger b) (rule_trigger t r i) (rule_trigger t s i)
  unfolding rule_trigger shown_trigger trigger_parts
  rule-alike i = phrase-alike (shown_trigger a) (shown_trigger b) (ascii "fails") RuleFails (λ n m e. one_name (RuleFails no_name) e) i

  mqtt_alike : (i : ℕ) → Alike (shown_trigger a) (shown_trigger b) (mqtt_trigger t r i) (mqtt_trigger t s i)
  unfolding mqtt_trigger shown_trigger trigger_parts
  mqtt_alike i =
      alike_knowing (shown_trigger a) (shown_trigger b) (topic_at t i) _ _ (topic_at-sound t i)
      (λ n j h.
      alike-pick (shown_trigger a) (shown_trigger b) (is_word t (ascii "is") j) _ _ _ _ (alike-no (shown_trigger a) (shown_trigger b) _)
      (alike-ok (shown_trigger a) (shown_trigger b) (MqttMessage (r i)) (MqttMessage (s i)) j (one_name (MqttMessage no_name) (strings i (token-kind h.string)))))

  pub trigger-alike : (i : ℕ) → Alike (shown_trigger a) (shown_trigger b) (trigger_at t view r fuel i) (trigger_at t view s fuel i)
  unfolding trigger_at trigger_by input_trigger input_change point_trigger property_trigger position_change light_cross input_becomes input_event input_device_trigger
      lamp_trigger lamp_change level_cross hcl_trigger group_trigger device_trigger scene_trigger scene_closed at_trigger at_bound every_trigger http_trigger
      controller_trigger shown_trigger trigger_parts
  trigger-alike i = search (alikes, timer_alike, rule-alike, mqtt_alike, controller_shown, device-shown, at-shown) depth 40

  -- conditions: what a name, a value or an operand stands in
  timer_running_alike : (i : ℕ) → Alike (shown_condition a) (shown_condition b) (timer_condition t r i) (timer_condition t s i)
  unfolding timer_condition shown_condition condition_parts
  timer_running_alike i =
      phrase-alike (shown_condition a) (shown_condition b) (ascii "is running") Condition.TimerRunning (λ n m e. one_name (Condition.TimerRunning no_name) e) i

  rule_enabled_alike : (i : ℕ) → Alike (shown_condition a) (shown_condition b) (rule_condition t r i) (rule_condition t s i)
  unfolding rule_condition shown_condition condition_parts
  rule_enabled_alike i =
      phrase-alike (shown_condition a) (shown_condition b) (ascii "is enabled") Condition.RuleEnabled (λ n m e. one_name (Condition.RuleEnabled no_name) e) i

  last_fired-alike : (i : ℕ) → Alike (shown_condition a) (shown_condition b) (last_fired_condition t r i) (last_fired_condition t s i)
  unfolding last_fired_condition shown_condition condition_parts
  last_fired-alike i =
      alike_knowing (shown_condition a) (shown_condition b) (named_phrase t (ascii "older than") i) _ _ (named-sound t (ascii "older than") i)
      (λ n j h.
      alike-step (shown_condition a) (shown_condition b) (take_kind t DURATION j) _ _
      (λ ms k.
      alike-ok (shown_condition a) (shown_condition b) (Condition.LastFiredOlderThan (r n) ms) (Condition.LastFiredOlderThan (s n) ms) k
      (one_name (Condition.LastFiredOlderThan no_name ms) (strings n (phrase-string h)))))

  operand-alike : (i : ℕ) → Alike (shown_operand a) (shown_operand b) (operand_at t view r fuel i) (operand_at t view s fuel i)
  unfolding operand_at text_operand operand_parts
  operand-alike i =
      let f = shown_operand a in
      let g = shown_operand b in
      alike-pick f g (is_kind t STRING i) _ _ _ _
      (alike_knowing f g (take_kind t STRING i) _ _ (kind-sound t STRING i)
      (λ n j h.
      alike-pick f g (ltb most_text (length (t i).bytes)) _ _ _ _ (alike-no f g _)
      (alike-ok f g (Operand.Text (r i)) (Operand.Text (s i)) j (one_name (Operand.Text no_name) (strings i (token-kind h))))))
      (alike-bind (shown_value a) (shown_value b) f g _ _ _ _ (value-alike i)
      (λ x y j e. alike-ok f g (Operand.Number x) (Operand.Number y) j (number-shown a b x y e)))

  var_compared-alike : (i : ℕ) → Alike (shown_condition a) (shown_condition b) (var_condition t view r fuel i) (var_condition t view s fuel i)
  unfolding var_condition var_compared
  var_compared-alike i =
      let f = shown_condition a in
      let g = shown_condition b in
      alike_knowing f g (quoted_name t i) _ _ (quoted-sound t i)
      (λ n j h.
      alike-step f g (comparison_at t j) _ _
      (λ c k.
      alike-bind (shown_operand a) (shown_operand b) f g _ _ _ _ (operand-alike k)
      (λ x y l e. alike-ok f g (Condition.VarCompare (r n) c x) (Condition.VarCompare (s n) c y) l (var-shown a b (r n) (s n) c x y (strings n (quoted-string h)) e))))

  lamp_compared-alike : (ref : Ref) (p i : ℕ) →
      Alike (shown_condition a) (shown_condition b) (lamp_compared t view r fuel ref p i) (lamp_compared t view s fuel ref p i)
  unfolding lamp_compared lamp_judged
  lamp_compared-alike ref p i =
      let f = shown_condition a in
      let g = shown_condition b in
      alike-step f g (comparison_at t i) _ _
      (λ c j.
      alike-bind (shown_value a) (shown_value b) f g _ _ _ _ (value-alike j)
      (λ x y k e.
      alike-step f g (choice_at t (ascii "level cct") 21 p) _ _
      (λ n l.
      alike-ok f g (Condition.LampCompare ref (lamp_property_of n) c x) (Condition.LampCompare ref (lamp_property_of n) c y) k
      (lamp-shown a b ref (lamp_property_of n) c x y e))))

  light-alike : (way : Crossing) (ref : InputRef) (i : ℕ) →
      Alike (shown_condition a) (shown_condition b) (bind (value_at t view r fuel i) (λ v j. ok (Condition.InputLight ref way v) j))
      (bind (value_at t view s fuel i) (λ v j. ok (Condition.InputLight ref way v) j))
  light-alike way ref i =
      alike-bind (shown_value a) (shown_value b) (shown_condition a) (shown_condition b) _ _ _ _ (value-alike i)
      (λ x y j e. alike-ok (shown_condition a) (shown_condition b) _ _ j (light-shown a b ref way x y e))

  pub condition-alike : (i : ℕ) → Alike (shown_condition a) (shown_condition b) (condition_at t view r fuel i) (condition_at t view s fuel i)
  unfolding condition_at condition_by controller_condition device_condition sun_condition time_condition time_to day_condition group_condition hcl_condition lamp_condition
      lamp_state lamp_point input_condition input_state light_than shown_condition condition_parts
  condition-alike i =
      search (
        alikes,
        timer_running_alike,
        rule_enabled_alike,
        last_fired-alike,
        var_compared-alike,
        lamp_compared-alike,
        light-alike,
      )
      depth 40
