-- What 55 means (document 02, §7): "an entry that by itself no text could give under any sheet". An entry is given by a text if, with some sheet, party, primary
-- adapter, habit and lent topics, that text has a reading with it, names by bytes. proofs/GivenTheorem.antt shows that the test that is put
-- (writing/specs/Possible.antt) says yes exactly of the entries whose names stand inside their text and that some text gives.
use Rattle.std.specs.Prelude.{ℕ, ◌+◌, ◌≤◌, ◌≡◌, true, List, ◌∷◌, length}
use Rattle.sheet.specs.declared.Call.{Call}
use Rattle.model.specs.Limits.{last_adapter}
use Rattle.model.specs.Ranges.{Each}
use Rattle.model.specs.declared.Name.{Name}
use Rattle.model.specs.declared.Trigger.{Trigger}
use Rattle.model.specs.declared.Condition.{Condition}
use Rattle.language.specs.Demand.{HasReading}
use Rattle.language.specs.Same.{trigger_parts, condition_parts, SameTrigger, SameCondition}
use Rattle.writing.specs.Possible.{possible_trigger, possible_condition}

-- one of these
pub data Among {A : Type 0} (x : A) : List A → Type 0 where
  here : {xs : List A} → Among x (x ∷ xs)
  later : {y : A} {xs : List A} → Among x xs → Among x (y ∷ xs)

-- not "a name outside its text"
pub record Inside (text : List ℕ) (n : Name) : Type 0 where
  pub end : n.start + n.length ≤ length text

-- the trigger x, whose names stand in a text: some text gives it
pub record TriggerGiven (text : List ℕ) (x : Trigger) : Type 0 where
  pub call : Call
  -- a call's primary adapter is a byte
  pub in_range : call.primary ≤ last_adapter
  pub written : List ℕ
  pub sheet : List ℕ
  pub lent : List (List ℕ)
  pub size : ℕ
  pub triggers : List Trigger
  pub conditions : List Condition
  pub reads : HasReading call written sheet lent size triggers conditions
  pub trigger : Trigger
  pub among : Among trigger triggers
  pub same : SameTrigger text written x trigger

pub record ConditionGiven (text : List ℕ) (y : Condition) : Type 0 where
  pub call : Call
  -- a call's primary adapter is a byte
  pub in_range : call.primary ≤ last_adapter
  pub written : List ℕ
  pub sheet : List ℕ
  pub lent : List (List ℕ)
  pub size : ℕ
  pub triggers : List Trigger
  pub conditions : List Condition
  pub reads : HasReading call written sheet lent size triggers conditions
  pub condition : Condition
  pub among : Among condition conditions
  pub same : SameCondition text written y condition

-- the test says yes exactly of such entries
pub record ExactlyPossible : Type 0 where
  pub trigger : (text : List ℕ) (x : Trigger) → possible_trigger text x ≡ true → Each (Inside text) (trigger_parts x).names × TriggerGiven text x
  pub trigger_back : (text : List ℕ) (x : Trigger) → Each (Inside text) (trigger_parts x).names → TriggerGiven text x → possible_trigger text x ≡ true
  pub condition : (text : List ℕ) (y : Condition) → possible_condition text y ≡ true → Each (Inside text) (condition_parts y).names × ConditionGiven text y
  pub condition_back : (text : List ℕ) (y : Condition) → Each (Inside text) (condition_parts y).names → ConditionGiven text y → possible_condition text y ≡ true
