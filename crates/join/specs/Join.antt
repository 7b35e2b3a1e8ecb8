-- Joining two rules (document 02, §3): "Given two texts, a token buffer for each and one sheet, read both and join them". The whole call as one function: what is
-- answered, and every word of both buffers.
use Rattle.std.specs.Prelude.{ℕ, List, [], ◌∷◌, ◌++◌, map, Bool, true, false, length, take, ltb, eqb}
use Rattle.text.specs.Choice.{pick}
use Rattle.topics.specs.Ranges.{name_in}
use Rattle.model.specs.Lists.{padded, accepted_with, refused_with}
use Rattle.model.specs.declared.Trigger.{Trigger}
use Rattle.model.specs.declared.TriggerRow.{TriggerRow}
use Rattle.model.specs.declared.Triggers.{Triggers}
use Rattle.model.specs.declared.Condition.{Condition}
use Rattle.model.specs.declared.ConditionRow.{ConditionRow}
use Rattle.model.specs.declared.Conditions.{Conditions}
use Rattle.model.specs.declared.Answer.{Answer}
use Rattle.language.specs.Limits.{most_triggers}
use Rattle.language.specs.Topics.{topics_of}
use Rattle.language.specs.Read.{Outcome, read_of, rule_call}
use Rattle.compare.specs.Compare.{same_trigger, same_condition}
use Rattle.join.specs.declared.Joined.{Joined}

-- the entries of a list that are in use
abbrev pub triggers_in : Triggers → List Trigger
triggers_in l = map (λ (r : TriggerRow). r.trigger) (take l.count l.rows)

abbrev pub conditions_in : Conditions → List Condition
conditions_in l = map (λ (r : ConditionRow). r.condition) (take l.count l.rows)

-- "Each joined entry says which text it is taken from, where its names stand": 1 or 2
pub record Taken : Type 0 where
  pub from : ℕ
  pub trigger : Trigger

abbrev pub taken_from : ℕ → List Trigger → List Taken
taken_from from xs = map (λ (x : Trigger). record { from = from; trigger = x }) xs

module _ (first second : List ℕ) where
  abbrev pub text_of : ℕ → List ℕ
  text_of from = pick (eqb from 1) first second

  -- whether a trigger is one of these
  unfoldable pub is_among : Taken → List Taken → Bool
  is_among x [] = false
  is_among x (y ∷ ys) = pick (same_trigger (text_of y.from) (text_of x.from) y.trigger x.trigger) true (is_among x ys)

  -- one more, unless it is there already
  unfoldable pub kept_with : List Taken → Taken → List Taken
  kept_with kept x = pick (is_among x kept) kept (kept ++ x ∷ [])

  unfoldable pub kept_all : List Taken → List Taken → List Taken
  kept_all kept [] = kept
  kept_all kept (x ∷ xs) = kept_all (kept_with kept x) xs

  -- "the first's triggers, then those of the second that are not yet there, repeats dropped throughout"
  unfoldable pub joined_triggers : List Trigger → List Trigger → List Taken
  joined_triggers xs ys = kept_all [] (taken_from 1 xs ++ taken_from 2 ys)

  -- whether two lists of conditions are the same "in entries and order"
  unfoldable pub same_conditions : List Condition → List Condition → Bool
  same_conditions [] [] = true
  same_conditions [] (y ∷ ys) = false
  same_conditions (x ∷ xs) [] = false
  same_conditions (x ∷ xs) (y ∷ ys) = pick (same_condition first second x y) (same_conditions xs ys) false

-- "the answer says which text (else 0)"; no entry is taken from anywhere
unfoldable pub refused_join : ℕ → Answer → Joined
refused_join which answer = record { which = which; answer = answer; from = padded (λ (n : ℕ). n) 0 most_triggers [] }

unfoldable pub accepted_join : List Taken → List Condition → Joined
accepted_join kept ys =
    record {
      which = 0;
      answer = accepted_with (map (λ (x : Taken). x.trigger) kept) ys;
      from = padded (λ (x : Taken). x.from) 0 most_triggers kept;
    }

-- "then more than four triggers left with 52"
unfoldable pub by_count : List Taken → List Condition → Joined
by_count kept ys = pick (ltb most_triggers (length kept)) (refused_join 0 (refused_with 52 0 0 0)) (accepted_join kept ys)

-- "After these it refuses two condition lists that differ in entries or order with 51"; "the first's conditions are kept"
unfoldable pub both_read : List ℕ → List ℕ → Answer → Answer → Joined
both_read first second one two =
    let ys = conditions_in one.conditions in
    pick (same_conditions first second ys (conditions_in two.conditions))
    (by_count (joined_triggers first second (triggers_in one.triggers) (triggers_in two.triggers)) ys)
    (refused_join 0 (refused_with 51 0 0 0))

-- what is answered, and the words of both buffers at exit
pub record Join : Type 0 where
  pub joined : Joined
  pub first_buffer : List ℕ
  pub second_buffer : List ℕ

-- "then that of the second"
unfoldable pub by_second : List ℕ → List ℕ → Outcome → Outcome → Join
by_second first second one two =
    record {
      joined = pick (eqb two.answer.number 0) (both_read first second one.answer two.answer) (refused_join 2 two.answer);
      first_buffer = one.buffer;
      second_buffer = two.buffer;
    }

-- "the first text's topics count as earlier for the second" (§12)
abbrev pub earlier_topics : List ℕ → List (List ℕ) → Answer → List (List ℕ)
earlier_topics first lent one = lent ++ topics_of (name_in first) (triggers_in one.triggers)

-- "The reader's refusal of the first text comes first (second buffer untouched)"
unfoldable pub join_of : ℕ → ℕ → List ℕ → List ℕ → List ℕ → List (List ℕ) → List ℕ → List ℕ → Join
join_of party primary first second sheet lent words others =
    let call = rule_call party primary in
    let one = read_of call first sheet lent words in
    pick (eqb one.answer.number 0)
    (by_second first second one (read_of call second sheet (earlier_topics first lent one.answer) others))
    (record { joined = refused_join 1 one.answer; first_buffer = one.buffer; second_buffer = others })
