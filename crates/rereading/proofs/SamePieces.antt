-- Entries that are the same by bytes are written alike: what is written of an entry is said of the entry without its names, and of the bytes of these.
use Prim.Native.Nat.{ℕ}
use mathlib.Core.Path.{◌≡◌, ◌∙◌, refl, ap, sym}
use mathlib.Core.List.{List, [], ◌∷◌, ◌++◌, map}
use Rattle.text.specs.Literal.{ascii}
use Rattle.topics.specs.Ranges.{name_in}
use Rattle.model.specs.declared.Condition.{Condition}
use Rattle.model.specs.declared.Name.{Name}
use Rattle.model.specs.declared.Operand.{Operand}
use Rattle.model.specs.declared.Reading.{Reading}
use Rattle.model.specs.declared.Trigger.{Trigger}
use Rattle.model.specs.declared.Value.{Value}
use Rattle.language.specs.Same.{Shown, reading_parts, value_parts, operand_parts, trigger_parts, condition_parts, shown_trigger, shown_condition, SameTrigger, SameCondition}
use Rattle.writing.specs.Pieces.{Piece}
use Rattle.writing.specs.Write.{comparison_sign, name_pieces, reading_pieces, delta_pieces, value_pieces, operand_pieces, trigger_pieces, condition_pieces}
use Rattle.rereading.proofs.SamePossible.{other_names}

-- every name is written as the first of these
first_of : List (List ℕ) → Name → List ℕ
first_of [] n = []
first_of (bytes ∷ names) n = bytes

module _ (primary : ℕ) where
  -- a comparison of a variable has two names
  condition_by : List (List ℕ) → Condition → List Piece
  condition_by names (Condition.TimeInRange from to) = condition_pieces primary (first_of names) (Condition.TimeInRange from to)
  condition_by names (Condition.SunIs state) = condition_pieces primary (first_of names) (Condition.SunIs state)
  condition_by names (Condition.LampIs r state) = condition_pieces primary (first_of names) (Condition.LampIs r state)
  condition_by names (Condition.LampCompare r p c v) = condition_pieces primary (first_of names) (Condition.LampCompare r p c v)
  condition_by names (Condition.GroupState r state) = condition_pieces primary (first_of names) (Condition.GroupState r state)
  condition_by names (Condition.InputOccupancy r state) = condition_pieces primary (first_of names) (Condition.InputOccupancy r state)
  condition_by names (Condition.InputLight r way v) = condition_pieces primary (first_of names) (Condition.InputLight r way v)
  condition_by names (Condition.HclState to state) = condition_pieces primary (first_of names) (Condition.HclState to state)
  condition_by names (Condition.DeviceOnline r) = condition_pieces primary (first_of names) (Condition.DeviceOnline r)
  condition_by names (Condition.RuleEnabled n) = condition_pieces primary (first_of names) (Condition.RuleEnabled n)
  condition_by names (Condition.LastFiredOlderThan n ms) = condition_pieces primary (first_of names) (Condition.LastFiredOlderThan n ms)
  condition_by names (Condition.TimerRunning n) = condition_pieces primary (first_of names) (Condition.TimerRunning n)
  condition_by names Condition.ControllerActive = condition_pieces primary (first_of names) Condition.ControllerActive
  condition_by names (Condition.VarCompare n c v) =
      Piece.word (ascii "var") ∷ name_pieces (first_of names) n ++ Piece.sign (comparison_sign c) ∷ operand_pieces primary (first_of (other_names names)) v
  condition_by names (Condition.DayIn days) = condition_pieces primary (first_of names) (Condition.DayIn days)

  module _ (text : List ℕ) where
    reading_by_lem : (r : Reading) →
        reading_pieces primary (name_in text) r ≡ reading_pieces primary (first_of (map (name_in text) (reading_parts r).names)) (reading_parts r).bare
    unfolding reading_pieces reading_parts name_pieces first_of
    reading_by_lem (Reading.Lamp r p) = refl
    reading_by_lem (Reading.Group r p) = refl
    reading_by_lem (Reading.Input r p) = refl
    reading_by_lem (Reading.Time p) = refl
    reading_by_lem (Reading.Sun p) = refl
    reading_by_lem (Reading.Event p) = refl
    reading_by_lem (Reading.Var n) = refl

    value-by : (v : Value) →
        value_pieces primary (name_in text) v ≡ value_pieces primary (first_of (map (name_in text) (value_parts v).names)) (value_parts v).bare
    unfolding value_pieces value_parts
    value-by (Value.Literal z) = refl
    value-by (Value.Reads r delta) = ap (λ (ps : List Piece). ps ++ delta_pieces delta) (reading_by_lem r)

    operand-by : (v : Operand) →
        operand_pieces primary (name_in text) v ≡ operand_pieces primary (first_of (map (name_in text) (operand_parts v).names)) (operand_parts v).bare
    unfolding operand_pieces operand_parts first_of
    operand-by (Operand.Text n) = refl
    operand-by (Operand.Number v) = value-by v

    trigger_by_lem : (x : Trigger) →
        trigger_pieces primary (name_in text) x ≡ trigger_pieces primary (first_of (map (name_in text) (trigger_parts x).names)) (trigger_parts x).bare
    unfolding trigger_pieces trigger_parts name_pieces first_of
    trigger_by_lem (Trigger.InputEvent s e) = refl
    trigger_by_lem (Trigger.InputOccupancy r state) = refl
    trigger_by_lem (Trigger.InputLightCross r way n) = refl
    trigger_by_lem (Trigger.InputPositionChange r) = refl
    trigger_by_lem (Trigger.InputDevicePowerCycled r) = refl
    trigger_by_lem (Trigger.InputDeviceManualConfigChanged r) = refl
    trigger_by_lem (Trigger.AtTime m days) = refl
    trigger_by_lem (Trigger.AtSolar event offset days) = refl
    trigger_by_lem (Trigger.Every ms) = refl
    trigger_by_lem (Trigger.LampTurns r to) = refl
    trigger_by_lem (Trigger.LampLevelCross r way n) = refl
    trigger_by_lem (Trigger.GroupBecomes r state) = refl
    trigger_by_lem (Trigger.SceneRecalled a scene) = refl
    trigger_by_lem (Trigger.DeviceOnline r change) = refl
    trigger_by_lem (Trigger.HclOverride to change) = refl
    trigger_by_lem (Trigger.TimerFires n) = refl
    trigger_by_lem Trigger.ControllerStarts = refl
    trigger_by_lem Trigger.ControllerBecomesActive = refl
    trigger_by_lem (Trigger.RuleFails n) = refl
    trigger_by_lem Trigger.HttpTrigger = refl
    trigger_by_lem (Trigger.MqttMessage topic) = refl

    condition_by_lem : (y : Condition) →
        condition_pieces primary (name_in text) y ≡ condition_by (map (name_in text) (condition_parts y).names) (condition_parts y).bare
    unfolding condition_pieces condition_parts condition_by name_pieces first_of other_names
    condition_by_lem (Condition.TimeInRange from to) = refl
    condition_by_lem (Condition.SunIs state) = refl
    condition_by_lem (Condition.LampIs r state) = refl
    condition_by_lem (Condition.LampCompare r p c v) = rw (value-by v)
    condition_by_lem (Condition.GroupState r state) = refl
    condition_by_lem (Condition.InputOccupancy r state) = refl
    condition_by_lem (Condition.InputLight r way v) = rw (value-by v)
    condition_by_lem (Condition.HclState to state) = refl
    condition_by_lem (Condition.DeviceOnline r) = refl
    condition_by_lem (Condition.RuleEnabled n) = refl
    condition_by_lem (Condition.LastFiredOlderThan n ms) = refl
    condition_by_lem (Condition.TimerRunning n) = refl
    condition_by_lem Condition.ControllerActive = refl
    condition_by_lem (Condition.VarCompare n c v) = rw (operand-by v)
    condition_by_lem (Condition.DayIn days) = refl

  module _ (a b : List ℕ) where
    pub same_trigger-pieces : (x y : Trigger) → SameTrigger a b x y → trigger_pieces primary (name_in a) x ≡ trigger_pieces primary (name_in b) y
    unfolding shown_trigger
    same_trigger-pieces x y e =
        trigger_by_lem a x ∙ ap (λ (s : Shown Trigger). trigger_pieces primary (first_of s.names) s.bare) e ∙ sym (trigger_by_lem b y)

    pub same_condition-pieces : (x y : Condition) → SameCondition a b x y → condition_pieces primary (name_in a) x ≡ condition_pieces primary (name_in b) y
    unfolding shown_condition
    same_condition-pieces x y e =
        condition_by_lem a x ∙ ap (λ (s : Shown Condition). condition_by s.names s.bare) e ∙ sym (condition_by_lem b y)
