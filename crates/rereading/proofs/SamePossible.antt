-- Whether an entry is possible depends only on how it is shown (language/specs/Same.antt), as long as its names stand inside their text: the test of
-- writing/specs/Possible.antt is one of the entry without its names and of the bytes of these.
use Prim.Native.Nat.{ℕ}
use mathlib.Core.Path.{◌≡◌, ◌∙◌, refl, ap, sym}
use mathlib.Core.Bool.{Bool, true, false}
use mathlib.Core.List.{List, [], ◌∷◌, map}
use lib.ListN.{length}
use lib.Dec.{leb, eqb}
use borrow.Author.Tests.{le-leb}
use Rattle.text.specs.Choice.{pick, within}
use Rattle.tokens.specs.Amount.{most_ms}
use Rattle.topics.specs.Ranges.{name_in}
use Rattle.topics.specs.Topic.{topic_number}
use Rattle.model.specs.Limits.{last_short_address, longest_name}
use Rattle.model.specs.Ranges.{Each}
use Rattle.model.specs.declared.Condition.{Condition}
use Rattle.model.specs.declared.Name.{Name}
use Rattle.model.specs.declared.Operand.{Operand}
use Rattle.model.specs.declared.Reading.{Reading}
use Rattle.model.specs.declared.Trigger.{Trigger}
use Rattle.model.specs.declared.Value.{Value}
use Rattle.language.specs.Limits.{most_text}
use Rattle.language.specs.Same.{Shown, reading_parts, value_parts, operand_parts, trigger_parts, condition_parts, shown_trigger, shown_condition, SameTrigger, SameCondition}
use Rattle.writing.specs.Possible.{is_inside, is_string, possible_string, possible_name, possible_text, possible_topic, possible_ref, possible_input, possible_reading, possible_delta, possible_value, possible_operand, possible_trigger, possible_condition}
use Rattle.rereading.specs.Given.{Inside}
use Rattle.rereading.proofs.StringLaws.{name-length}
use Rattle.rereading.proofs.PossibleInside.{trigger-inside, condition-inside}

-- ---- names by their bytes

possible_bytes : ℕ → ℕ → List ℕ → Bool
possible_bytes least most bytes = pick (within least most (length bytes)) (is_string bytes) false

topic_bytes : List ℕ → Bool
topic_bytes bytes = pick (possible_bytes 1 longest_name bytes) (eqb (topic_number bytes) 0) false

-- what is asked of the first name, and the names behind it
first_name : (List ℕ → Bool) → List (List ℕ) → Bool
first_name test [] = false
first_name test (bytes ∷ names) = test bytes

unfoldable pub other_names : List (List ℕ) → List (List ℕ)
other_names [] = []
other_names (bytes ∷ names) = names

abbrev name_bytes : List (List ℕ) → Bool
name_bytes names = first_name (possible_bytes 1 longest_name) names

-- ---- entries without their names, and the bytes of these

reading_test : Reading → List (List ℕ) → Bool
reading_test (Reading.Lamp r p) names = possible_reading [] (Reading.Lamp r p)
reading_test (Reading.Group r p) names = possible_reading [] (Reading.Group r p)
reading_test (Reading.Input r p) names = possible_reading [] (Reading.Input r p)
reading_test (Reading.Time p) names = possible_reading [] (Reading.Time p)
reading_test (Reading.Sun p) names = possible_reading [] (Reading.Sun p)
reading_test (Reading.Event p) names = possible_reading [] (Reading.Event p)
reading_test (Reading.Var n) names = name_bytes names

value_test : Value → List (List ℕ) → Bool
value_test (Value.Literal z) names = possible_value [] (Value.Literal z)
value_test (Value.Reads r delta) names = pick (reading_test r names) (possible_delta delta) false

operand_test : Operand → List (List ℕ) → Bool
operand_test (Operand.Text n) names = first_name (possible_bytes 0 most_text) names
operand_test (Operand.Number v) names = value_test v names

trigger_test : Trigger → List (List ℕ) → Bool
trigger_test (Trigger.InputEvent s e) names = possible_trigger [] (Trigger.InputEvent s e)
trigger_test (Trigger.InputOccupancy r state) names = possible_trigger [] (Trigger.InputOccupancy r state)
trigger_test (Trigger.InputLightCross r way n) names = possible_trigger [] (Trigger.InputLightCross r way n)
trigger_test (Trigger.InputPositionChange r) names = possible_trigger [] (Trigger.InputPositionChange r)
trigger_test (Trigger.InputDevicePowerCycled r) names = possible_trigger [] (Trigger.InputDevicePowerCycled r)
trigger_test (Trigger.InputDeviceManualConfigChanged r) names = possible_trigger [] (Trigger.InputDeviceManualConfigChanged r)
trigger_test (Trigger.AtTime m days) names = possible_trigger [] (Trigger.AtTime m days)
trigger_test (Trigger.AtSolar event offset days) names = possible_trigger [] (Trigger.AtSolar event offset days)
trigger_test (Trigger.Every ms) names = possible_trigger [] (Trigger.Every ms)
trigger_test (Trigger.LampTurns r to) names = possible_trigger [] (Trigger.LampTurns r to)
trigger_test (Trigger.LampLevelCross r way n) names = possible_trigger [] (Trigger.LampLevelCross r way n)
trigger_test (Trigger.GroupBecomes r state) names = possible_trigger [] (Trigger.GroupBecomes r state)
trigger_test (Trigger.SceneRecalled a scene) names = possible_trigger [] (Trigger.SceneRecalled a scene)
trigger_test (Trigger.DeviceOnline r change) names = possible_trigger [] (Trigger.DeviceOnline r change)
trigger_test (Trigger.HclOverride to change) names = possible_trigger [] (Trigger.HclOverride to change)
trigger_test (Trigger.TimerFires n) names = name_bytes names
trigger_test Trigger.ControllerStarts names = true
trigger_test Trigger.ControllerBecomesActive names = true
trigger_test (Trigger.RuleFails n) names = name_bytes names
trigger_test Trigger.HttpTrigger names = true
trigger_test (Trigger.MqttMessage topic) names = first_name topic_bytes names

condition_test : Condition → List (List ℕ) → Bool
condition_test (Condition.TimeInRange from to) names = possible_condition [] (Condition.TimeInRange from to)
condition_test (Condition.SunIs state) names = true
condition_test (Condition.LampIs r state) names = possible_condition [] (Condition.LampIs r state)
condition_test (Condition.LampCompare r p c v) names = pick (possible_ref last_short_address r) (value_test v names) false
condition_test (Condition.GroupState r state) names = possible_condition [] (Condition.GroupState r state)
condition_test (Condition.InputOccupancy r state) names = possible_condition [] (Condition.InputOccupancy r state)
condition_test (Condition.InputLight r way v) names = pick (possible_input r) (value_test v names) false
condition_test (Condition.HclState to state) names = possible_condition [] (Condition.HclState to state)
condition_test (Condition.DeviceOnline r) names = possible_condition [] (Condition.DeviceOnline r)
condition_test (Condition.RuleEnabled n) names = name_bytes names
condition_test (Condition.LastFiredOlderThan n ms) names = pick (name_bytes names) (leb ms most_ms) false
condition_test (Condition.TimerRunning n) names = name_bytes names
condition_test Condition.ControllerActive names = true
condition_test (Condition.VarCompare n c v) names = pick (name_bytes names) (operand_test v (other_names names)) false
condition_test (Condition.DayIn days) names = possible_condition [] (Condition.DayIn days)

-- ---- the test comes to that

module _ (text : List ℕ) where
  string-is : (least most : ℕ) {n : Name} → Inside text n → possible_string text least most n ≡ possible_bytes least most (name_in text n)
  unfolding possible_string is_inside possible_bytes
  string-is least most {n} h = rw (le-leb _ _ h.end, name-length text n h.end)

  name-is : {n : Name} {ns : List Name} → Each (Inside text) (n ∷ ns) → possible_name text n ≡ name_bytes (map (name_in text) (n ∷ ns))
  unfolding first_name
  name-is (Each.more h hs) = string-is 1 longest_name h

  text-is : {n : Name} {ns : List Name} → Each (Inside text) (n ∷ ns) →
      possible_text text n ≡ first_name (possible_bytes 0 most_text) (map (name_in text) (n ∷ ns))
  unfolding first_name
  text-is (Each.more h hs) = string-is 0 most_text h

  topic-is : {n : Name} {ns : List Name} → Each (Inside text) (n ∷ ns) → possible_topic text n ≡ first_name topic_bytes (map (name_in text) (n ∷ ns))
  unfolding first_name possible_topic topic_bytes
  topic-is (Each.more h hs) = rw (string-is 1 longest_name h)

  others : {n : Name} {ns : List Name} → Each (Inside text) (n ∷ ns) → Each (Inside text) ns
  others (Each.more h hs) = hs

  reading-is : (r : Reading) → Each (Inside text) (reading_parts r).names →
      possible_reading text r ≡ reading_test (reading_parts r).bare (map (name_in text) (reading_parts r).names)
  unfolding possible_reading reading_parts reading_test
  reading-is (Reading.Lamp r p) h = refl
  reading-is (Reading.Group r p) h = refl
  reading-is (Reading.Input r p) h = refl
  reading-is (Reading.Time p) h = refl
  reading-is (Reading.Sun p) h = refl
  reading-is (Reading.Event p) h = refl
  reading-is (Reading.Var n) h = name-is h

  value-is : (v : Value) → Each (Inside text) (value_parts v).names →
      possible_value text v ≡ value_test (value_parts v).bare (map (name_in text) (value_parts v).names)
  unfolding possible_value value_parts value_test
  value-is (Value.Literal z) h = refl
  value-is (Value.Reads r delta) h = rw (reading-is r h)

  operand-is : (v : Operand) → Each (Inside text) (operand_parts v).names →
      possible_operand text v ≡ operand_test (operand_parts v).bare (map (name_in text) (operand_parts v).names)
  unfolding possible_operand operand_parts operand_test
  operand-is (Operand.Text n) h = text-is h
  operand-is (Operand.Number v) h = value-is v h

  trigger-is : (x : Trigger) → Each (Inside text) (trigger_parts x).names →
      possible_trigger text x ≡ trigger_test (trigger_parts x).bare (map (name_in text) (trigger_parts x).names)
  unfolding possible_trigger trigger_parts trigger_test
  trigger-is (Trigger.InputEvent s e) h = refl
  trigger-is (Trigger.InputOccupancy r state) h = refl
  trigger-is (Trigger.InputLightCross r way n) h = refl
  trigger-is (Trigger.InputPositionChange r) h = refl
  trigger-is (Trigger.InputDevicePowerCycled r) h = refl
  trigger-is (Trigger.InputDeviceManualConfigChanged r) h = refl
  trigger-is (Trigger.AtTime m days) h = refl
  trigger-is (Trigger.AtSolar event offset days) h = refl
  trigger-is (Trigger.Every ms) h = refl
  trigger-is (Trigger.LampTurns r to) h = refl
  trigger-is (Trigger.LampLevelCross r way n) h = refl
  trigger-is (Trigger.GroupBecomes r state) h = refl
  trigger-is (Trigger.SceneRecalled a scene) h = refl
  trigger-is (Trigger.DeviceOnline r change) h = refl
  trigger-is (Trigger.HclOverride to change) h = refl
  trigger-is (Trigger.TimerFires n) h = name-is h
  trigger-is Trigger.ControllerStarts h = refl
  trigger-is Trigger.ControllerBecomesActive h = refl
  trigger-is (Trigger.RuleFails n) h = name-is h
  trigger-is Trigger.HttpTrigger h = refl
  trigger-is (Trigger.MqttMessage topic) h = topic-is h

  condition-is : (y : Condition) → Each (Inside text) (condition_parts y).names →
      possible_condition text y ≡ condition_test (condition_parts y).bare (map (name_in text) (condition_parts y).names)
  unfolding possible_condition condition_parts condition_test other_names
  condition-is (Condition.TimeInRange from to) h = refl
  condition-is (Condition.SunIs state) h = refl
  condition-is (Condition.LampIs r state) h = refl
  condition-is (Condition.LampCompare r p c v) h = rw (value-is v h)
  condition-is (Condition.GroupState r state) h = refl
  condition-is (Condition.InputOccupancy r state) h = refl
  condition-is (Condition.InputLight r way v) h = rw (value-is v h)
  condition-is (Condition.HclState to state) h = refl
  condition-is (Condition.DeviceOnline r) h = refl
  condition-is (Condition.RuleEnabled n) h = name-is h
  condition-is (Condition.LastFiredOlderThan n ms) h = rw (name-is h)
  condition-is (Condition.TimerRunning n) h = name-is h
  condition-is Condition.ControllerActive h = refl
  condition-is (Condition.VarCompare n c v) h = rw (name-is h, operand-is v (others h))
  condition-is (Condition.DayIn days) h = refl

-- ---- entries that are the same by bytes

pub same-possible : (text written : List ℕ) (x y : Trigger) → Each (Inside text) (trigger_parts x).names → SameTrigger text written x y →
    possible_trigger written y ≡ true → possible_trigger text x ≡ true
unfolding shown_trigger
same-possible text written x y h e p =
    trigger-is text x h ∙ ap (λ (s : Shown Trigger). trigger_test s.bare s.names) e ∙ sym (trigger-is written y (trigger-inside written y p)) ∙ p

pub same-possible_condition : (text written : List ℕ) (x y : Condition) → Each (Inside text) (condition_parts x).names → SameCondition text written x y →
    possible_condition written y ≡ true → possible_condition text x ≡ true
unfolding shown_condition
same-possible_condition text written x y h e p =
    condition-is text x h ∙ ap (λ (s : Shown Condition). condition_test s.bare s.names) e
    ∙ sym (condition-is written y (condition-inside written y p)) ∙ p
