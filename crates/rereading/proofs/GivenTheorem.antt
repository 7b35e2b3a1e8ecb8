-- The test of 55 says yes exactly of the entries whose names stand inside their text and that some text gives (specs/Given.antt). Some text: what is written for the
-- entry alone, with a sheet on which every adapter is listed.
use Rattle.std.specs.Prelude.{Option, None, Some}
use Prim.Native.Nat.{ℕ}
use native.Mathlib.Omega.{arith}
use mathlib.Core.Path.{◌≡◌, refl, sym}
use mathlib.Core.Bool.{true}
use mathlib.Core.List.{List, [], ◌∷◌, ◌++◌, map, head-eq_of_cons-eq, cons-ne-nil}
use Rattle.tokens.specs.Lexing.{least_words}
use Rattle.sheet.specs.View.{any_form}
use Rattle.topics.specs.Topics.{has, different, Allowed, few}
use Rattle.topics.specs.Ranges.{name_in, topic_by}
use Rattle.model.specs.declared.Condition.{Condition}
use Rattle.model.specs.declared.Name.{Name}
use Rattle.model.specs.declared.Trigger.{Trigger}
use Rattle.language.specs.Read.{rule_call}
use Rattle.language.specs.Same.{Shown}
use Rattle.language.specs.Topics.{topic_name, topic_of}
use Rattle.writing.specs.Possible.{possible_trigger, possible_condition}
use Rattle.writing.specs.Reached.{reached_trigger, reached_condition}
use Rattle.writing.specs.Writing.{possible_counts, is_text, failing, first_failing, text_of, possible_trigger_from, possible_condition_from, first_impossible, first_unreached}
use Rattle.writing.specs.declared.ConditionFrom.{ConditionFrom}
use Rattle.writing.specs.declared.Lists.{Lists}
use Rattle.writing.specs.declared.TriggerFrom.{TriggerFrom}
use Rattle.rereading.specs.Given.{Among, TriggerGiven, ConditionGiven, ExactlyPossible}
use Rattle.rereading.specs.Rereading.{topics_from}
use Rattle.rereading.proofs.PossibleInside.{trigger-inside, condition-inside}
use Rattle.rereading.proofs.GivenPossible.{given-possible, given-possible_condition}
use Rattle.rereading.proofs.EveryAdapter.{every_adapter, every-passes, every-own, view_on, trigger_named_lem, condition-named}
use Rattle.rereading.proofs.WrittenLaws.{Writes, text_for}
use Rattle.rereading.proofs.RoundTrip.{written-reads}

-- ---- lists of one entry

abbrev trigger_only : Trigger → Lists
trigger_only x =
    let row : TriggerFrom = record { from = 1; trigger = x } in
    let unused : ConditionFrom = record { from = 1; condition = Condition.ControllerActive } in
    record {
      triggers = record { rows = row ∷ row ∷ row ∷ row ∷ []; count = 1 };
      conditions = record { rows = unused ∷ unused ∷ unused ∷ unused ∷ []; count = 0 };
    }

-- a condition needs a trigger beside it
abbrev condition_only : Condition → Lists
condition_only y =
    let trigger : TriggerFrom = record { from = 1; trigger = Trigger.HttpTrigger } in
    let row : ConditionFrom = record { from = 1; condition = y } in
    record {
      triggers = record { rows = trigger ∷ trigger ∷ trigger ∷ trigger ∷ []; count = 1 };
      conditions = record { rows = row ∷ row ∷ row ∷ row ∷ []; count = 1 };
    }

-- what is shown first is the first
first-shown : {A : Type 0} (f : A → Shown A) {s : Shown A} {more : List (Shown A)} (xs : List A) → map f xs ≡ s ∷ more →
    (x : A) × Among x xs × (s ≡ f x)
first-shown f [] e = absurd (cons-ne-nil _ _ (sym e))
first-shown f (x ∷ xs) e = (x, Among.here, sym (head-eq_of_cons-eq e))

-- one topic at most is never too many
one-allowed : (written : Name → List ℕ) (topic : Option Name) → Allowed [] (topic_by written topic ++ [])
unfolding topic_by has different
one-allowed written None = few (omega arith)
one-allowed written (Some name) = few (omega arith)

-- ---- what is written for it

module _ (text : List ℕ) (x : Trigger) (p : possible_trigger text x ≡ true) where
  trigger-writes : (primary : ℕ) → reached_trigger (view_on primary) x ≡ true → Writes 0 primary text [] every_adapter (trigger_only x)
  unfolding possible_counts first_impossible first_unreached first_failing failing possible_trigger_from is_text text_of
  trigger-writes primary h =
      record { sheet_passes = every-passes; own = every-own primary; counts = refl; possible = rw p; reached = rw h }

  trigger-given : TriggerGiven text x
  unfolding any_form topics_from topic_of text_of
  trigger-given =
      let named = trigger_named_lem text x p in
      let call = rule_call 0 named.primary in
      let w = trigger-writes named.primary named.reached in
      let r = written-reads call refl text [] every_adapter (trigger_only x) (record { triggers = refl; conditions = refl }) w [] least_words (omega arith)
      (one-allowed (name_in text) (topic_name x)) in
      let (u, among, same) = first-shown _ r.triggers r.same_triggers in
      record {
        call = call;
        in_range = named.in_range;
        written = text_for 0 named.primary text [] every_adapter (trigger_only x);
        sheet = every_adapter;
        lent = [];
        size = least_words;
        triggers = r.triggers;
        conditions = r.conditions;
        reads = r.reads;
        trigger = u;
        among = among;
        same = same;
      }

module _ (text : List ℕ) (y : Condition) (p : possible_condition text y ≡ true) where
  condition-writes : (primary : ℕ) → reached_condition (view_on primary) y ≡ true → Writes 0 primary text [] every_adapter (condition_only y)
  unfolding possible_counts first_impossible first_unreached first_failing failing possible_trigger_from possible_trigger possible_condition_from reached_trigger is_text text_of
  condition-writes primary h =
      record { sheet_passes = every-passes; own = every-own primary; counts = refl; possible = rw p; reached = rw h }

  condition-given : ConditionGiven text y
  unfolding any_form topics_from topic_of text_of
  condition-given =
      let named = condition-named text y p in
      let call = rule_call 0 named.primary in
      let w = condition-writes named.primary named.reached in
      let r = written-reads call refl text [] every_adapter (condition_only y) (record { triggers = refl; conditions = refl }) w [] least_words (omega arith)
      (one-allowed (name_in text) (topic_name Trigger.HttpTrigger)) in
      let (v, among, same) = first-shown _ r.conditions r.same_conditions in
      record {
        call = call;
        in_range = named.in_range;
        written = text_for 0 named.primary text [] every_adapter (condition_only y);
        sheet = every_adapter;
        lent = [];
        size = least_words;
        triggers = r.triggers;
        conditions = r.conditions;
        reads = r.reads;
        condition = v;
        among = among;
        same = same;
      }

pub exactly_possible : ExactlyPossible
exactly_possible =
    record {
      trigger = λ text x p. (trigger-inside text x p, trigger-given text x p);
      trigger_back = given-possible;
      condition = λ text y p. (condition-inside text y p, condition-given text y p);
      condition_back = given-possible_condition;
    }
