-- The test of two entries says yes exactly for those that are the same by bytes (language/specs/Same.antt), if words can tell them (flat/specs/Held.antt); and words
-- can tell every entry of an accepted reading.
use Rattle.std.specs.Prelude.{Some, None}
use Prim.Native.Nat.{ℕ, zero, suc, ◌^◌, ◌<◌, ◌≤◌}
use native.Mathlib.Omega.{arith}
use mathlib.Core.Path.{◌≡◌, refl, ◌∙◌, ap, sym}
use mathlib.Core.Bool.{Bool, true}
use mathlib.Core.List.{List, [], ◌∷◌, map}
use mathlib.Core.Logic.{◌↔◌}
use lib.IntN.{ℤ, pos, negsuc}
use lib.ListN.{length, get_or}
use Rattle.text.specs.Part.{same_bytes}
use Rattle.text.proofs.PartLaws.{same_refl, same-eq, part_none}
use Rattle.text.proofs.Tests.{both}
use Rattle.topics.specs.Ranges.{name_in}
use Rattle.model.specs.Limits.{last_instance_type}
use Rattle.model.specs.Ranges.{TypeInRange, SelectorInRange, TriggerInRange, ConditionInRange, Each, InRange}
use Rattle.model.specs.declared.Condition.{Condition}
use Rattle.model.specs.declared.Name.{Name}
use Rattle.model.specs.declared.Operand.{Operand}
use Rattle.model.specs.declared.Reading.{Reading}
use Rattle.model.specs.declared.Selector.{Selector}
use Rattle.model.specs.declared.TimeBound.{TimeBound}
use Rattle.model.specs.declared.Trigger.{Trigger}
use Rattle.model.specs.declared.Value.{Value}
use Rattle.flat.specs.Flat.{trigger_words, condition_words, whole_row}
use Rattle.flat.specs.Held.{SignedWithin, HeldNumber, HeldSelector, HeldBound, HeldDelta, HeldValue, HeldOperand, HeldTrigger, HeldCondition}
use Rattle.flat.proofs.BackLaws.{trigger-told, condition-told}
use Rattle.language.specs.Numbers.{SignedUpTo, IntegerInRange, OffsetInRange, BoundNumbers, DeltaNumbers, ValueNumbers, OperandNumbers, TriggerNumbers, ConditionNumbers, NumbersInRange}
use Rattle.language.specs.Same.{Parts, Shown, no_name, nameless, shown_in, reading_parts, value_parts, operand_parts, trigger_parts, condition_parts, shown_trigger, shown_condition, SameTrigger, SameCondition}
use Rattle.compare.specs.Compare.{entry_with, trigger_entry, condition_entry, same_entry, same_trigger, same_condition}

-- ---- an entry without its names

-- it can be told, too; it has as many names, and these are few
record Apart {A : Type 0} (Held : A → Type 0) (parts : A → Parts A) (most : ℕ) (x : A) : Type 0 where
  held : Held (parts x).bare
  count : length (parts (parts x).bare).names ≡ length (parts x).names
  few : length (parts x).names ≤ most

-- an entry that has none
module _ {A : Type 0} {Held : A → Type 0} {parts : A → Parts A} {most : ℕ} {x : A} where
  plain : parts x ≡ nameless x → Held x → Apart Held parts most x
  plain e h = record { held = rw e h; count = rw (e, e); few = rw e (omega arith) }

value-apart : (v : Value) → HeldValue v → Apart HeldValue value_parts 1 v
unfolding value_parts reading_parts HeldValue
value-apart (Value.Literal z) h = plain refl h
value-apart (Value.Reads (Reading.Lamp r p) d) h = plain refl h
value-apart (Value.Reads (Reading.Group r p) d) h = plain refl h
value-apart (Value.Reads (Reading.Input r p) d) h = plain refl h
value-apart (Value.Reads (Reading.Time p) d) h = plain refl h
value-apart (Value.Reads (Reading.Sun p) d) h = plain refl h
value-apart (Value.Reads (Reading.Event p) d) h = plain refl h
value-apart (Value.Reads (Reading.Var n) d) h = record { held = h; count = refl; few = omega arith }

operand-apart : (v : Operand) → HeldOperand v → Apart HeldOperand operand_parts 1 v
unfolding operand_parts HeldOperand
operand-apart (Operand.Text n) h = record { held = tt; count = refl; few = omega arith }
operand-apart (Operand.Number v) h =
    let a = value-apart v h in
    record { held = a.held; count = a.count; few = a.few }

trigger-apart : (x : Trigger) → HeldTrigger x → Apart HeldTrigger trigger_parts 2 x
unfolding trigger_parts HeldTrigger
trigger-apart (Trigger.InputEvent s e) h = plain refl h
trigger-apart (Trigger.InputOccupancy r state) h = plain refl h
trigger-apart (Trigger.InputLightCross r way n) h = plain refl h
trigger-apart (Trigger.InputPositionChange r) h = plain refl h
trigger-apart (Trigger.InputDevicePowerCycled r) h = plain refl h
trigger-apart (Trigger.InputDeviceManualConfigChanged r) h = plain refl h
trigger-apart (Trigger.AtTime m days) h = plain refl h
trigger-apart (Trigger.AtSolar e offset days) h = plain refl h
trigger-apart (Trigger.Every ms) h = plain refl h
trigger-apart (Trigger.LampTurns r to) h = plain refl h
trigger-apart (Trigger.LampLevelCross r way n) h = plain refl h
trigger-apart (Trigger.GroupBecomes r state) h = plain refl h
trigger-apart (Trigger.SceneRecalled a n) h = plain refl h
trigger-apart (Trigger.DeviceOnline r change) h = plain refl h
trigger-apart (Trigger.HclOverride to change) h = plain refl h
trigger-apart (Trigger.TimerFires n) h = record { held = tt; count = refl; few = omega arith }
trigger-apart Trigger.ControllerStarts h = plain refl h
trigger-apart Trigger.ControllerBecomesActive h = plain refl h
trigger-apart (Trigger.RuleFails n) h = record { held = tt; count = refl; few = omega arith }
trigger-apart Trigger.HttpTrigger h = plain refl h
trigger-apart (Trigger.MqttMessage topic) h = record { held = tt; count = refl; few = omega arith }

condition-apart : (y : Condition) → HeldCondition y → Apart HeldCondition condition_parts 2 y
unfolding condition_parts HeldCondition
condition-apart (Condition.TimeInRange from to) h = plain refl h
condition-apart (Condition.SunIs state) h = plain refl h
condition-apart (Condition.LampIs r state) h = plain refl h
condition-apart (Condition.LampCompare r p c v) h =
    let a = value-apart v h in
    record { held = a.held; count = a.count; few = omega (arith, a.few) }
condition-apart (Condition.GroupState r state) h = plain refl h
condition-apart (Condition.InputOccupancy r state) h = plain refl h
condition-apart (Condition.InputLight r way v) h =
    let a = value-apart v h in
    record { held = a.held; count = a.count; few = omega (arith, a.few) }
condition-apart (Condition.HclState to state) h = plain refl h
condition-apart (Condition.DeviceOnline r) h = plain refl h
condition-apart (Condition.RuleEnabled n) h = record { held = tt; count = refl; few = omega arith }
condition-apart (Condition.LastFiredOlderThan n ms) h = record { held = tt; count = refl; few = omega arith }
condition-apart (Condition.TimerRunning n) h = record { held = tt; count = refl; few = omega arith }
condition-apart Condition.ControllerActive h = plain refl h
condition-apart (Condition.VarCompare n c v) h =
    let a = operand-apart v h in
    record { held = a.held; count = ap (λ (k : ℕ). suc k) a.count; few = omega (arith, a.few) }
condition-apart (Condition.DayIn days) h = plain refl h

-- ---- the names

-- a name that an entry does not have has no bytes
name-shown : (s : List ℕ) (names : List Name) (i : ℕ) → name_in s (get_or names i no_name) ≡ get_or (map (name_in s) names) i []
unfolding name_in
name-shown s [] i = sym (part_none s 0 0 (omega arith))
name-shown s (n ∷ names) zero = refl
name-shown s (n ∷ names) (suc i) = name-shown s names i

-- as many names, at most two, and the same bytes: the same names
names_same : (a b : List ℕ) (m n : List Name) → length m ≡ length n → length m ≤ 2 →
    name_in a (get_or m 0 no_name) ≡ name_in b (get_or n 0 no_name) → name_in a (get_or m 1 no_name) ≡ name_in b (get_or n 1 no_name) →
    map (name_in a) m ≡ map (name_in b) n
names_same a b [] [] e h d f = refl
names_same a b (x ∷ []) (y ∷ []) e h d f = rw d
names_same a b (x ∷ v ∷ []) (y ∷ w ∷ []) e h d f = rw (d, f)
names_same a b [] (y ∷ n) e h d f = absurd (omega arith)
names_same a b (x ∷ m) [] e h d f = absurd (omega arith)
names_same a b (x ∷ []) (y ∷ w ∷ n) e h d f = absurd (omega arith)
names_same a b (x ∷ v ∷ m) (y ∷ []) e h d f = absurd (omega arith)
names_same a b (x ∷ v ∷ u ∷ m) (y ∷ w ∷ n) e h d f = absurd (omega arith)
names_same a b (x ∷ v ∷ []) (y ∷ w ∷ u ∷ n) e h d f = absurd (omega arith)

-- ---- the test

same_of : {a b : List ℕ} → a ≡ b → same_bytes a b ≡ true
same_of {a} e = rw (← e) (same_refl a)

-- of two entries that have words and parts
module _ {A : Type 0} (words : A → List ℕ) (parts : A → Parts A) (a b : List ℕ) (x y : A) where
  tested : Bool
  tested =
      same_entry a b (entry_with (whole_row (words (parts x).bare)) (parts x).names) (entry_with (whole_row (words (parts y).bare)) (parts y).names)

  name-same : shown_in a (parts x) ≡ shown_in b (parts y) → (i : ℕ) →
      name_in a (get_or (parts x).names i no_name) ≡ name_in b (get_or (parts y).names i no_name)
  name-same e i =
      name-shown a (parts x).names i ∙ ap (λ (s : Shown A). get_or s.names i []) e ∙ sym (name-shown b (parts y).names i)

  -- the same entries are said to be so
  said : shown_in a (parts x) ≡ shown_in b (parts y) → tested ≡ true
  unfolding same_entry tested
  said e = rw (same_of (ap (λ (s : Shown A). whole_row (words s.bare)) e), same_of (name-same e 0), same_of (name-same e 1))

  -- and only those, if rows tell entries without names
  module _ {Held : A → Type 0} (of-x : Apart Held parts 2 x) (of-y : Apart Held parts 2 y)
      (told : (v w : A) → Held v → Held w → whole_row (words v) ≡ whole_row (words w) → v ≡ w) where
    only : tested ≡ true → shown_in a (parts x) ≡ shown_in b (parts y)
    unfolding same_entry tested
    only t =
        let h = both (same_bytes (whole_row (words (parts x).bare)) (whole_row (words (parts y).bare))) t in
        let k = both (same_bytes (name_in a (get_or (parts x).names 0 no_name)) (name_in b (get_or (parts y).names 0 no_name))) h.1 in
        let e : (parts x).bare ≡ (parts y).bare = told _ _ of-x.held of-y.held (same-eq _ _ h.0) in
        let n : length (parts x).names ≡ length (parts y).names =
        sym of-x.count ∙ ap (λ (z : A). length (parts z).names) e ∙ of-y.count in
        rw (e, names_same a b (parts x).names (parts y).names n of-x.few (same-eq _ _ k.0) (same-eq _ _ k.1))

pub same_trigger_lem : (a b : List ℕ) (x y : Trigger) → HeldTrigger x → HeldTrigger y → (same_trigger a b x y ≡ true) ↔ SameTrigger a b x y
unfolding same_trigger trigger_entry shown_trigger tested
same_trigger_lem a b x y h k =
    (only trigger_words trigger_parts a b x y (trigger-apart x h) (trigger-apart y k) trigger-told, said trigger_words trigger_parts a b x y)

pub same_condition_lem : (a b : List ℕ) (x y : Condition) → HeldCondition x → HeldCondition y →
    (same_condition a b x y ≡ true) ↔ SameCondition a b x y
unfolding same_condition condition_entry shown_condition tested
same_condition_lem a b x y h k = (
  only condition_words condition_parts a b x y (condition-apart x h) (condition-apart y k) condition-told,
  said condition_words condition_parts a b x y,
)

-- ---- the entries of an accepted reading

signed-held : {most above below : ℕ} → above < most → below ≤ most → (z : ℤ) → SignedUpTo above below z → SignedWithin most z
unfolding SignedUpTo SignedWithin
signed-held h k (pos n) l = omega arith
signed-held h k (negsuc n) l = omega arith

integer-held : (z : ℤ) → IntegerInRange z → SignedWithin (2 ^ 63) z
integer-held z h = signed-held (omega arith) (omega arith) z h

offset-held : (z : ℤ) → OffsetInRange z → SignedWithin (2 ^ 31) z
offset-held z h = signed-held (omega arith) (omega arith) z h

selector-held : (s : Selector) → SelectorInRange s → HeldSelector s
unfolding SelectorInRange TypeInRange last_instance_type HeldSelector HeldNumber
selector-held (Selector.Instance device n) h = tt
selector-held (Selector.Group adapter group None) h = tt
selector-held (Selector.Group adapter group (Some n)) h = omega (arith, h.2)

bound-held : (b : TimeBound) → BoundNumbers b → HeldBound b
unfolding BoundNumbers HeldBound
bound-held (TimeBound.Clock m) h = tt
bound-held (TimeBound.Solar e offset) h = offset-held offset h

value-held : (v : Value) → ValueNumbers v → HeldValue v
unfolding ValueNumbers DeltaNumbers HeldValue HeldDelta
value-held (Value.Literal z) h = integer-held z h
value-held (Value.Reads r None) h = tt
value-held (Value.Reads r (Some z)) h = integer-held z h

operand-held : (v : Operand) → OperandNumbers v → HeldOperand v
unfolding OperandNumbers HeldOperand
operand-held (Operand.Text n) h = tt
operand-held (Operand.Number v) h = value-held v h

pub held-trigger : (x : Trigger) → TriggerInRange x → TriggerNumbers x → HeldTrigger x
unfolding TriggerInRange TriggerNumbers HeldTrigger
held-trigger (Trigger.InputEvent s e) h k = selector-held s h.0
held-trigger (Trigger.InputOccupancy r state) h k = tt
held-trigger (Trigger.InputLightCross r way n) h k = tt
held-trigger (Trigger.InputPositionChange r) h k = tt
held-trigger (Trigger.InputDevicePowerCycled r) h k = tt
held-trigger (Trigger.InputDeviceManualConfigChanged r) h k = tt
held-trigger (Trigger.AtTime m days) h k = tt
held-trigger (Trigger.AtSolar e offset days) h k = offset-held offset k
held-trigger (Trigger.Every ms) h k = tt
held-trigger (Trigger.LampTurns r to) h k = tt
held-trigger (Trigger.LampLevelCross r way n) h k = tt
held-trigger (Trigger.GroupBecomes r state) h k = tt
held-trigger (Trigger.SceneRecalled a n) h k = tt
held-trigger (Trigger.DeviceOnline r change) h k = tt
held-trigger (Trigger.HclOverride to change) h k = tt
held-trigger (Trigger.TimerFires n) h k = tt
held-trigger Trigger.ControllerStarts h k = tt
held-trigger Trigger.ControllerBecomesActive h k = tt
held-trigger (Trigger.RuleFails n) h k = tt
held-trigger Trigger.HttpTrigger h k = tt
held-trigger (Trigger.MqttMessage topic) h k = tt

pub held-condition : (y : Condition) → ConditionInRange y → ConditionNumbers y → HeldCondition y
unfolding ConditionNumbers HeldCondition
held-condition (Condition.TimeInRange from to) h k = (bound-held from k.0, bound-held to k.1)
held-condition (Condition.SunIs state) h k = tt
held-condition (Condition.LampIs r state) h k = tt
held-condition (Condition.LampCompare r p c v) h k = value-held v k
held-condition (Condition.GroupState r state) h k = tt
held-condition (Condition.InputOccupancy r state) h k = tt
held-condition (Condition.InputLight r way v) h k = value-held v k
held-condition (Condition.HclState to state) h k = tt
held-condition (Condition.DeviceOnline r) h k = tt
held-condition (Condition.RuleEnabled n) h k = tt
held-condition (Condition.LastFiredOlderThan n ms) h k = tt
held-condition (Condition.TimerRunning n) h k = tt
held-condition Condition.ControllerActive h k = tt
held-condition (Condition.VarCompare n c v) h k = operand-held v k
held-condition (Condition.DayIn days) h k = tt

-- of both lists of a reading

each-held : {A : Type 0} {P Q R : A → Type 0} → ((x : A) → P x → Q x → R x) → {xs : List A} → Each P xs → Each Q xs → Each R xs
each-held f Each.none Each.none = Each.none
each-held f (Each.more {x} h hs) (Each.more k ks) = Each.more (f x h k) (each-held f hs ks)

pub held-triggers : {xs : List Trigger} {ys : List Condition} → InRange xs ys → NumbersInRange xs ys → Each HeldTrigger xs
held-triggers h k = each-held held-trigger h.triggers k.triggers

pub held-conditions : {xs : List Trigger} {ys : List Condition} → InRange xs ys → NumbersInRange xs ys → Each HeldCondition ys
held-conditions h k = each-held held-condition h.conditions k.conditions
