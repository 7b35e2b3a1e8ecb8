-- Entries that are the same by bytes (document 02): "Equality is by record, names and other strings by bytes, here and below" (§3), "equal lists, names
-- compared by bytes" (§14). An entry is shown as the entry with its names set to zero, and beside it the bytes of its names, in their order.
use Rattle.std.specs.Prelude.{ℕ, ◌≡◌, List, [], ◌∷◌, map}
use Rattle.topics.specs.Ranges.{name_in}
use Rattle.model.specs.declared.Name.{Name}
use Rattle.model.specs.declared.Reading.{Reading}
use Rattle.model.specs.declared.Value.{Value}
use Rattle.model.specs.declared.Operand.{Operand}
use Rattle.model.specs.declared.Trigger.{Trigger}
use Rattle.model.specs.declared.Trigger.TheVariants.{InputEvent, InputOccupancy, InputLightCross, InputPositionChange, InputDevicePowerCycled, InputDeviceManualConfigChanged, AtTime, AtSolar, Every, LampTurns, LampLevelCross, GroupBecomes, SceneRecalled, DeviceOnline, HclOverride, TimerFires, ControllerStarts, ControllerBecomesActive, RuleFails, HttpTrigger, MqttMessage}
use Rattle.model.specs.declared.Condition.{Condition}

-- what is left of an entry without its names, and these
pub record Parts (A : Type 0) : Type 0 where
  pub bare : A
  pub names : List Name

abbrev pub no_name : Name
no_name = record { start = 0; length = 0 }

-- no name in it
abbrev pub nameless : {A : Type 0} → A → Parts A
nameless x = record { bare = x; names = [] }

-- one name in it
abbrev pub named : {A : Type 0} → (Name → A) → Name → Parts A
named f n = record { bare = f no_name; names = n ∷ [] }

-- the names of a part of it
abbrev pub inside : {A B : Type 0} → (A → B) → Parts A → Parts B
inside f p = record { bare = f p.bare; names = p.names }

unfoldable pub reading_parts : Reading → Parts Reading
reading_parts (Reading.Lamp r p) = nameless (Reading.Lamp r p)
reading_parts (Reading.Group r p) = nameless (Reading.Group r p)
reading_parts (Reading.Input r p) = nameless (Reading.Input r p)
reading_parts (Reading.Time p) = nameless (Reading.Time p)
reading_parts (Reading.Sun p) = nameless (Reading.Sun p)
reading_parts (Reading.Event p) = nameless (Reading.Event p)
reading_parts (Reading.Var n) = named Reading.Var n

unfoldable pub value_parts : Value → Parts Value
value_parts (Value.Literal z) = nameless (Value.Literal z)
value_parts (Value.Reads r delta) = inside (λ x. Value.Reads x delta) (reading_parts r)

unfoldable pub operand_parts : Operand → Parts Operand
operand_parts (Operand.Text n) = named Operand.Text n
operand_parts (Operand.Number v) = inside Operand.Number (value_parts v)

unfoldable pub trigger_parts : Trigger → Parts Trigger
trigger_parts (InputEvent s event) = nameless (InputEvent s event)
trigger_parts (InputOccupancy r state) = nameless (InputOccupancy r state)
trigger_parts (InputLightCross r way light) = nameless (InputLightCross r way light)
trigger_parts (InputPositionChange r) = nameless (InputPositionChange r)
trigger_parts (InputDevicePowerCycled r) = nameless (InputDevicePowerCycled r)
trigger_parts (InputDeviceManualConfigChanged r) = nameless (InputDeviceManualConfigChanged r)
trigger_parts (AtTime m days) = nameless (AtTime m days)
trigger_parts (AtSolar event offset days) = nameless (AtSolar event offset days)
trigger_parts (Every ms) = nameless (Every ms)
trigger_parts (LampTurns r power) = nameless (LampTurns r power)
trigger_parts (LampLevelCross r way level) = nameless (LampLevelCross r way level)
trigger_parts (GroupBecomes r state) = nameless (GroupBecomes r state)
trigger_parts (SceneRecalled adapter scene) = nameless (SceneRecalled adapter scene)
trigger_parts (DeviceOnline r change) = nameless (DeviceOnline r change)
trigger_parts (HclOverride target change) = nameless (HclOverride target change)
trigger_parts (TimerFires n) = named TimerFires n
trigger_parts ControllerStarts = nameless ControllerStarts
trigger_parts ControllerBecomesActive = nameless ControllerBecomesActive
trigger_parts (RuleFails n) = named RuleFails n
trigger_parts HttpTrigger = nameless HttpTrigger
trigger_parts (MqttMessage n) = named MqttMessage n

unfoldable pub condition_parts : Condition → Parts Condition
condition_parts (Condition.TimeInRange start end) = nameless (Condition.TimeInRange start end)
condition_parts (Condition.SunIs sun) = nameless (Condition.SunIs sun)
condition_parts (Condition.LampIs r power) = nameless (Condition.LampIs r power)
condition_parts (Condition.LampCompare r p c v) = inside (λ x. Condition.LampCompare r p c x) (value_parts v)
condition_parts (Condition.GroupState r state) = nameless (Condition.GroupState r state)
condition_parts (Condition.InputOccupancy r state) = nameless (Condition.InputOccupancy r state)
condition_parts (Condition.InputLight r way v) = inside (λ x. Condition.InputLight r way x) (value_parts v)
condition_parts (Condition.HclState target state) = nameless (Condition.HclState target state)
condition_parts (Condition.DeviceOnline r) = nameless (Condition.DeviceOnline r)
condition_parts (Condition.RuleEnabled n) = named Condition.RuleEnabled n
condition_parts (Condition.LastFiredOlderThan n ms) = named (λ x. Condition.LastFiredOlderThan x ms) n
condition_parts (Condition.TimerRunning n) = named Condition.TimerRunning n
condition_parts Condition.ControllerActive = nameless Condition.ControllerActive
condition_parts (Condition.VarCompare n c v) =
    record { bare = Condition.VarCompare no_name c (operand_parts v).bare; names = n ∷ (operand_parts v).names }
condition_parts (Condition.DayIn days) = nameless (Condition.DayIn days)

-- an entry as it is shown: its names stand in a text
pub record Shown (A : Type 0) : Type 0 where
  pub bare : A
  pub names : List (List ℕ)

abbrev pub shown_in : {A : Type 0} → List ℕ → Parts A → Shown A
shown_in text p = record { bare = p.bare; names = map (name_in text) p.names }

unfoldable pub shown_trigger : List ℕ → Trigger → Shown Trigger
shown_trigger text x = shown_in text (trigger_parts x)

unfoldable pub shown_condition : List ℕ → Condition → Shown Condition
shown_condition text x = shown_in text (condition_parts x)

-- two entries are the same by bytes: x, whose names stand in a, and y, whose names stand in b
abbrev pub SameTrigger : List ℕ → List ℕ → Trigger → Trigger → Type 0
SameTrigger a b x y = shown_trigger a x ≡ shown_trigger b y

abbrev pub SameCondition : List ℕ → List ℕ → Condition → Condition → Type 0
SameCondition a b x y = shown_condition a x ≡ shown_condition b y

-- two lists are: as many entries, and each the same as the one in its place
abbrev pub SameTriggers : List ℕ → List ℕ → List Trigger → List Trigger → Type 0
SameTriggers a b xs ys = map (shown_trigger a) xs ≡ map (shown_trigger b) ys

abbrev pub SameConditions : List ℕ → List ℕ → List Condition → List Condition → Type 0
SameConditions a b xs ys = map (shown_condition a) xs ≡ map (shown_condition b) ys
