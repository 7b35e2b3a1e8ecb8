-- What becomes of lists that are written as a text and read again (document 02, §7): "Reading the text with the same sheet, party and primary yields the same
-- lists, names by bytes." An entry says in which of two texts its names stand (writing/specs/Writing.antt); it is the same by bytes as an entry that is read if
-- the two are shown alike (language/specs/Same.antt).
use Rattle.std.specs.Prelude.{ℕ, ◌≤◌, ◌≡◌, true, List, [], ◌∷◌, ◌++◌, map, length, take}
use Rattle.tokens.specs.Lexing.{least_words}
use Rattle.sheet.specs.Sheet.{Entry, well_formed, sheet_check}
use Rattle.sheet.specs.Party.{Agree}
use Rattle.sheet.specs.View.{View, seen, any_form}
use Rattle.sheet.specs.declared.Call.{Call}
use Rattle.sheet.specs.declared.Habit.{Habit}
use Rattle.topics.specs.Topics.{Allowed}
use Rattle.topics.specs.Ranges.{name_in}
use Rattle.model.specs.Limits.{last_adapter}
use Rattle.model.specs.Lists.{accepted_with}
use Rattle.model.specs.Ranges.{Each}
use Rattle.model.specs.declared.Condition.{Condition}
use Rattle.model.specs.declared.Trigger.{Trigger}
use Rattle.language.specs.Demand.{HasReading}
use Rattle.language.specs.Read.{read_of}
use Rattle.language.specs.Same.{Shown, shown_trigger, shown_condition, SameTriggers, SameConditions}
use Rattle.language.specs.Topics.{topic_of}
use Rattle.writing.specs.Reached.{is_reached}
use Rattle.writing.specs.Writing.{least_bytes, triggers_in, conditions_in, text_of, first_impossible, list_pieces, Outcome, write_of}
use Rattle.writing.specs.declared.ConditionFrom.{ConditionFrom}
use Rattle.writing.specs.declared.Lists.{Lists}
use Rattle.writing.specs.declared.TriggerFrom.{TriggerFrom}

-- how the entries are shown, their names in the first or the second text, and which topics they name
module _ (first second : List ℕ) where
  abbrev pub trigger_from : TriggerFrom → Shown Trigger
  trigger_from x = shown_trigger (text_of first second x.from) x.trigger

  abbrev pub condition_from : ConditionFrom → Shown Condition
  condition_from y = shown_condition (text_of first second y.from) y.condition

  unfoldable pub topics_from : List TriggerFrom → List (List ℕ)
  topics_from [] = []
  topics_from (x ∷ xs) = topic_of (name_in (text_of first second x.from)) x.trigger ++ topics_from xs

-- lists as the code has them: four rows each, of which the first are in use
pub record FourRows (l : Lists) : Type 0 where
  pub triggers : length l.triggers.rows ≡ 4
  pub conditions : length l.conditions.rows ≡ 4

-- the text that a call wrote into the buffer
abbrev pub written_in : Outcome → List ℕ
written_in outcome = take outcome.answer.length outcome.buffer

-- ---- written, and read again

-- the call reads a text as the lists l, names by bytes: what it answers, which is the text's one reading, is entry for entry the same
pub record ReadsBack (call : Call) (text sheet : List ℕ) (lent : List (List ℕ)) (words first second : List ℕ) (l : Lists) : Type 0 where
  pub triggers : List Trigger
  pub conditions : List Condition
  pub answer : (read_of call text sheet lent words).answer ≡ accepted_with triggers conditions
  pub reads : HasReading call text sheet lent (length words) triggers conditions
  pub same_triggers : map (shown_trigger text) triggers ≡ map (trigger_from first second) (triggers_in l)
  pub same_conditions : map (shown_condition text) conditions ≡ map (condition_from first second) (conditions_in l)

-- the call reads the lists back, or a topic of theirs is one too many beside those that are lent, and it refuses the text with 66. There is no third answer
pub data Reread (call : Call) (text sheet : List ℕ) (lent : List (List ℕ)) (words first second : List ℕ) (l : Lists) : Type 0 where
  read_back : ReadsBack call text sheet lent words first second l → Reread call text sheet lent words first second l
  too_many_topics : (Allowed lent (topics_from first second (triggers_in l)) → ⊥) → (read_of call text sheet lent words).answer.number ≡ 66 →
      Reread call text sheet lent words first second l

-- "Reading the text with the same sheet, party and primary yields the same lists, names by bytes": in the default call and in the archive loader's. (Under the shop
-- profile ids may not stand, which is how references are written.) A call's primary adapter is a byte
abbrev pub WritingReadsBack : Type 0
WritingReadsBack =
    (call : Call) (first second sheet : List ℕ) (l : Lists) (buffer : List ℕ) (lent : List (List ℕ)) (words : List ℕ) → any_form call.habit ≡ true →
    call.primary ≤ last_adapter → FourRows l → least_words ≤ length words →
    (write_of call.party call.primary first second sheet l buffer).answer.number ≡ 0 →
    Reread call (written_in (write_of call.party call.primary first second sheet l buffer)) sheet lent words first second l

-- ---- read, and written

-- lists that hold what was read of a text, which is then the first of the two
pub record Holds (l : Lists) (xs : List Trigger) (ys : List Condition) : Type 0 where
  pub count : l.triggers.count ≡ length xs
  pub triggers : triggers_in l ≡ map (λ (x : Trigger). record { from = 1; trigger = x }) xs
  pub condition_count : l.conditions.count ≡ length ys
  pub conditions : conditions_in l ≡ map (λ (y : Condition). record { from = 1; condition = y }) ys

-- the rows with names that are seen are on the primary or on adapters that are listed. Where a row is not, its name may be read, but no id can be written for it (56)
abbrev pub RowsReached : View → Type 0
RowsReached view = Each (λ (e : Entry). is_reached view e.adapter ≡ true) view.rows

-- the lists of a reading have no entry that no text could give (55), whichever habit read them; and if the rows that are seen can be reached, they are written into
-- every buffer that is long enough
abbrev pub WhatWasReadIsPossible : Type 0
WhatWasReadIsPossible =
    (call : Call) (text second sheet : List ℕ) (lent : List (List ℕ)) (size : ℕ) (xs : List Trigger) (ys : List Condition) (l : Lists) →
    call.primary ≤ last_adapter → HasReading call text sheet lent size xs ys → Holds l xs ys →
    (first_impossible text second l ≡ 0)
    × (RowsReached (seen call sheet) → (buffer : List ℕ) → least_bytes ≤ length buffer →
    (write_of call.party call.primary text second sheet l buffer).answer.number ≡ 0)

-- a text is read as lists that are the same by bytes as those of another text
pub record ReadsSame (call : Call) (text sheet : List ℕ) (lent : List (List ℕ)) (words other : List ℕ) (xs : List Trigger) (ys : List Condition) : Type 0 where
  pub triggers : List Trigger
  pub conditions : List Condition
  pub answer : (read_of call text sheet lent words).answer ≡ accepted_with triggers conditions
  pub same_triggers : SameTriggers text other triggers xs
  pub same_conditions : SameConditions text other conditions ys

-- what was read, whichever habit read it, then written and read again with the same topics lent, is the same, names by bytes
abbrev pub ReadWriteRead : Type 0
ReadWriteRead =
    (call : Call) (habit : Habit) (text second sheet : List ℕ) (lent : List (List ℕ)) (size : ℕ) (xs : List Trigger) (ys : List Condition) (l : Lists)
    (buffer words : List ℕ) → any_form habit ≡ true → call.primary ≤ last_adapter → HasReading call text sheet lent size xs ys → RowsReached (seen call sheet) →
    Holds l xs ys → FourRows l → least_bytes ≤ length buffer → least_words ≤ length words →
    ReadsSame (record { habit = habit; party = call.party; primary = call.primary })
    (written_in (write_of call.party call.primary text second sheet l buffer)) sheet lent words text xs ys

-- ---- written again

-- two lists of triggers and two of conditions are the same by bytes
pub record SameLists (first second : List ℕ) (l : Lists) (third fourth : List ℕ) (m : Lists) : Type 0 where
  pub triggers : map (trigger_from first second) (triggers_in l) ≡ map (trigger_from third fourth) (triggers_in m)
  pub conditions : map (condition_from first second) (conditions_in l) ≡ map (condition_from third fourth) (conditions_in m)

-- then they are written alike, token by token
abbrev pub SameListsWrittenAlike : Type 0
SameListsWrittenAlike =
    (first second third fourth : List ℕ) (l m : Lists) (primary : ℕ) → SameLists first second l third fourth m →
    list_pieces first second primary l ≡ list_pieces third fourth primary m

-- so what a written text is read as is written as the same text, byte for byte
abbrev pub Rewritten : Type 0
Rewritten =
    (call : Call) (first second third sheet : List ℕ) (lent : List (List ℕ)) (words : List ℕ) (l m : Lists) (buffer other : List ℕ) → call.primary ≤ last_adapter →
    (write_of call.party call.primary first second sheet l buffer).answer.number ≡ 0 →
    (r : ReadsBack call (written_in (write_of call.party call.primary first second sheet l buffer)) sheet lent words first second l) →
    Holds m r.triggers r.conditions → least_bytes ≤ length other →
    let text = written_in (write_of call.party call.primary first second sheet l buffer) in
    let again = write_of call.party call.primary text third sheet m other in
    (again.answer.number ≡ 0) × (written_in again ≡ text)

-- ---- another party's rows

-- §6, "For two accepted sheets that agree on which adapters are the party's, and on those adapters' rows in their order …, the party's call gives the same answer":
-- the answer of writing, and every byte of the buffer
abbrev pub IsolatedWriting : Type 0
IsolatedWriting =
    (party primary : ℕ) (first second s t : List ℕ) (l : Lists) (buffer : List ℕ) → sheet_check s ≡ well_formed → sheet_check t ≡ well_formed →
    Agree party s t → write_of party primary first second s l buffer ≡ write_of party primary first second t l buffer
