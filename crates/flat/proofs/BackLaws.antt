-- A row of words tells its entry: read back it gives the entry that it was made of, if the words can tell it (Held.antt).
use Prim.Native.Nat.{ℕ, zero, suc, ◌<◌}
use native.Mathlib.Omega.{arith}
use mathlib.Core.Path.{◌≡◌, refl, ◌∙◌, ap, ap₂, sym}
use mathlib.Core.List.{List, [], ◌∷◌}
use mathlib.Core.Bool.{true}
use lib.Dec.{ltb}
use borrow.Author.Tests.{ltb-true}
use Rattle.model.specs.Lists.{padded}
use Rattle.model.specs.declared.Condition.{Condition}
use Rattle.model.specs.declared.LampProperty.{LampProperty}
use Rattle.model.specs.declared.LightTarget.{LightTarget}
use Rattle.model.specs.declared.Selector.{Selector}
use Rattle.model.specs.declared.TimeBound.{TimeBound}
use Rattle.model.specs.declared.Trigger.{Trigger}
use Rattle.flat.specs.Back.{word, coded, headed, selector_back, target_back, bound_back, trigger_back, condition_back}
use Rattle.flat.specs.Flat.{row_words, whole_row, selector_words, target_words, bound_words, trigger_words, condition_words}
use Rattle.flat.specs.Held.{HeldSelector, HeldBound, HeldTrigger, HeldCondition}
use Rattle.flat.proofs.BackPartLaws.{power_back_lem, occupancy_back_lem, crossing_back_lem, aggregate_back_lem, online_back_lem, override_back_lem, sun_back_lem, hcl_back_lem, solar_back_lem, comparison_back_lem, type_back_lem, offset_back_lem, event_back_lem, bound_back_lem, value_back_lem, operand_back_lem}

-- the zeros that fill up a row are those that are read past the end of its words
padded-word : (n i : ℕ) (ws : List ℕ) → i < n → word (padded (λ (k : ℕ). k) 0 n ws) i ≡ word ws i
unfolding padded
padded-word zero i ws h = absurd (omega arith)
padded-word (suc n) zero [] h = refl
padded-word (suc n) (suc i) [] h = padded-word n i [] (omega arith)
padded-word (suc n) zero (w ∷ ws) h = refl
padded-word (suc n) (suc i) (w ∷ ws) h = padded-word n i ws (omega arith)

pub whole_word : (ws : List ℕ) (i : ℕ) → ltb i row_words ≡ true → word (whole_row ws) i ≡ word ws i
unfolding whole_row
whole_word ws i h = padded-word row_words i ws (ltb-true i row_words h)

trigger_row_lem : (ws : List ℕ) → trigger_back (whole_row ws) ≡ trigger_back ws
unfolding trigger_back row_words
trigger_row_lem ws = simp whole_word

condition_row_lem : (ws : List ℕ) → condition_back (whole_row ws) ≡ condition_back ws
unfolding condition_back row_words
condition_row_lem ws = simp whole_word

-- an entry is read back from its own words

trigger-read : (x : Trigger) → HeldTrigger x → trigger_back (trigger_words x) ≡ x
unfolding trigger_back selector_back target_back headed coded trigger_words selector_words target_words HeldTrigger HeldSelector
trigger-read (Trigger.InputEvent (Selector.Instance r n) e) h = rw (event_back_lem e)
trigger-read (Trigger.InputEvent (Selector.Group a g k) e) h = rw (type_back_lem k h, event_back_lem e)
trigger-read (Trigger.InputOccupancy r state) h = rw (occupancy_back_lem state)
trigger-read (Trigger.InputLightCross r way n) h = rw (crossing_back_lem way)
trigger-read (Trigger.InputPositionChange r) h = refl
trigger-read (Trigger.InputDevicePowerCycled r) h = refl
trigger-read (Trigger.InputDeviceManualConfigChanged r) h = refl
trigger-read (Trigger.AtTime m days) h = refl
trigger-read (Trigger.AtSolar e offset days) h = rw (solar_back_lem e, offset_back_lem offset h)
trigger-read (Trigger.Every ms) h = refl
trigger-read (Trigger.LampTurns r to) h = rw (power_back_lem to)
trigger-read (Trigger.LampLevelCross r way n) h = rw (crossing_back_lem way)
trigger-read (Trigger.GroupBecomes r state) h = rw (aggregate_back_lem state)
trigger-read (Trigger.SceneRecalled a n) h = refl
trigger-read (Trigger.DeviceOnline r change) h = rw (online_back_lem change)
trigger-read (Trigger.HclOverride (LightTarget.Lamp r) change) h = rw (override_back_lem change)
trigger-read (Trigger.HclOverride (LightTarget.Group r) change) h = rw (override_back_lem change)
trigger-read (Trigger.HclOverride (LightTarget.Broadcast a) change) h = rw (override_back_lem change)
trigger-read (Trigger.TimerFires n) h = refl
trigger-read Trigger.ControllerStarts h = refl
trigger-read Trigger.ControllerBecomesActive h = refl
trigger-read (Trigger.RuleFails n) h = refl
trigger-read Trigger.HttpTrigger h = refl
trigger-read (Trigger.MqttMessage topic) h = refl

condition-read : (y : Condition) → HeldCondition y → condition_back (condition_words y) ≡ y
unfolding condition_back bound_back target_back headed coded condition_words bound_words target_words HeldCondition HeldBound
condition-read (Condition.TimeInRange (TimeBound.Clock m) to) h =
    ap₂ Condition.TimeInRange (bound_back_lem (TimeBound.Clock m) h.0) (bound_back_lem to h.1)
condition-read (Condition.TimeInRange (TimeBound.Solar e offset) to) h =
    ap₂ Condition.TimeInRange (bound_back_lem (TimeBound.Solar e offset) h.0) (bound_back_lem to h.1)
condition-read (Condition.SunIs state) h = rw (sun_back_lem state)
condition-read (Condition.LampIs r state) h = rw (power_back_lem state)
condition-read (Condition.LampCompare r LampProperty.Level c v) h = rw (comparison_back_lem c, value_back_lem v h)
condition-read (Condition.LampCompare r LampProperty.Cct c v) h = rw (comparison_back_lem c, value_back_lem v h)
condition-read (Condition.GroupState r state) h = rw (aggregate_back_lem state)
condition-read (Condition.InputOccupancy r state) h = rw (occupancy_back_lem state)
condition-read (Condition.InputLight r way v) h = rw (crossing_back_lem way, value_back_lem v h)
condition-read (Condition.HclState (LightTarget.Lamp r) state) h = rw (hcl_back_lem state)
condition-read (Condition.HclState (LightTarget.Group r) state) h = rw (hcl_back_lem state)
condition-read (Condition.HclState (LightTarget.Broadcast a) state) h = rw (hcl_back_lem state)
condition-read (Condition.DeviceOnline r) h = refl
condition-read (Condition.RuleEnabled n) h = refl
condition-read (Condition.LastFiredOlderThan n ms) h = refl
condition-read (Condition.TimerRunning n) h = refl
condition-read Condition.ControllerActive h = refl
condition-read (Condition.VarCompare n c v) h = rw (comparison_back_lem c, operand_back_lem v h)
condition-read (Condition.DayIn days) h = refl

-- and from its row

pub trigger_back_lem : (x : Trigger) → HeldTrigger x → trigger_back (whole_row (trigger_words x)) ≡ x
trigger_back_lem x h = trigger_row_lem (trigger_words x) ∙ trigger-read x h

pub condition_back_lem : (y : Condition) → HeldCondition y → condition_back (whole_row (condition_words y)) ≡ y
condition_back_lem y h = condition_row_lem (condition_words y) ∙ condition-read y h

-- so a row tells its entry: two entries with the same row are the same

pub trigger-told : (x y : Trigger) → HeldTrigger x → HeldTrigger y → whole_row (trigger_words x) ≡ whole_row (trigger_words y) → x ≡ y
trigger-told x y h k e = sym (trigger_back_lem x h) ∙ ap trigger_back e ∙ trigger_back_lem y k

pub condition-told : (x y : Condition) → HeldCondition x → HeldCondition y → whole_row (condition_words x) ≡ whole_row (condition_words y) →
    x ≡ y
condition-told x y h k e = sym (condition_back_lem x h) ∙ ap condition_back e ∙ condition_back_lem y k
