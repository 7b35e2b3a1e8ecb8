-- The reader's refusals of the two texts, one after the other (specs/Joining.antt).
use Prim.Native.Nat.{ℕ, ◌≤◌}
use mathlib.Core.Path.{◌≡◌, refl, ap, ◌∙◌}
use mathlib.Core.Bool.{Bool, true, false}
use mathlib.Core.List.{List, ◌++◌}
use lib.ListN.{length}
use lib.Dec.{ltb}
use borrow.Author.Tests.{eq-eqb, ne_eqb}
use Rattle.text.specs.Choice.{pick}
use Rattle.sheet.specs.declared.Call.{Call}
use Rattle.topics.specs.Ranges.{name_in}
use Rattle.model.specs.Limits.{last_adapter}
use Rattle.model.specs.Lists.{accepted_with, refused_with}
use Rattle.model.specs.declared.Trigger.{Trigger}
use Rattle.model.specs.declared.Condition.{Condition}
use Rattle.model.specs.declared.Answer.{Answer}
use Rattle.language.specs.Limits.{most_triggers}
use Rattle.language.specs.Topics.{topics_of}
use Rattle.language.specs.Read.{Outcome, read_of, rule_call}
use Rattle.language.specs.Demand.{HasReading}
use Rattle.language.proofs.Theorem.{exact}
use Rattle.join.specs.Join.{Taken, triggers_in, conditions_in, joined_triggers, same_conditions, refused_join, accepted_join, by_count, both_read, by_second, Join, join_of}
use Rattle.join.specs.Joining.{read_first, read_second, Unrefused, InTurn}
use Rattle.join.specs.declared.Joined.{Joined}
use Rattle.join.proofs.ListLaws.{few_triggers}
use Rattle.join.proofs.Theorem.{earlier_topics_lem}

-- a text without a reading is refused, and one with a reading is not
module _ (call : Call) (in_range : call.primary ≤ last_adapter) (text sheet : List ℕ) (lent : List (List ℕ)) (words : List ℕ) where
  unread : ((xs : List Trigger) (ys : List Condition) → HasReading call text sheet lent (length words) xs ys → ⊥) → (read_of call text sheet lent words).answer.number ≡ 0 → ⊥
  unread n e = let a = (exact call in_range text sheet lent words).sound e in n a.triggers a.conditions a.reads

  read : {xs : List Trigger} {ys : List Condition} → HasReading call text sheet lent (length words) xs ys → (read_of call text sheet lent words).answer.number ≡ 0
  unfolding accepted_with
  read {xs} {ys} h = ap (λ (a : Answer). a.number) ((exact call in_range text sheet lent words).complete xs ys h)

-- two accepted answers are joined to one that names neither text
pick-which : (t : Bool) (a b : Joined) → a.which ≡ 0 → b.which ≡ 0 → (pick t a b).which ≡ 0
pick-which true a b e f = e
pick-which false a b e f = f

count-which : (kept : List Taken) (ys : List Condition) → (by_count kept ys).which ≡ 0
unfolding by_count refused_join accepted_join
count-which kept ys =
    pick-which (ltb most_triggers (length kept)) (refused_join 0 (refused_with 52 0 0 0)) (accepted_join kept ys) refl refl

which-neither : (first second : List ℕ) (one two : Answer) → (both_read first second one two).which ≡ 0
unfolding both_read refused_join
which-neither first second one two =
    let ys = conditions_in one.conditions in
    let kept = joined_triggers first second (triggers_in one.triggers) (triggers_in two.triggers) in
    pick-which (same_conditions first second ys (conditions_in two.conditions)) (by_count kept ys) (refused_join 0 (refused_with 51 0 0 0)) (count-which kept ys) refl

module _ (party primary : ℕ) (in_range : primary ≤ last_adapter) (first second sheet : List ℕ) (lent : List (List ℕ)) (words others : List ℕ) where
  abbrev call : Call
  call = rule_call party primary

  abbrev whole : Join
  whole = join_of party primary first second sheet lent words others

  abbrev one : Answer
  one = (read_first party primary first second sheet lent words others).answer

  first_refused : ((xs : List Trigger) (ys : List Condition) → HasReading call first sheet lent (length words) xs ys → ⊥) →
      whole ≡ record { joined = refused_join 1 one; first_buffer = (read_of call first sheet lent words).buffer; second_buffer = others }
  unfolding join_of
  first_refused n = rw (ne_eqb one.number 0 (unread call in_range first sheet lent words n))

  -- behind a first text that is read
  module _ {xs : List Trigger} {ys : List Condition} (h : HasReading call first sheet lent (length words) xs ys) where
    behind-first : whole ≡ by_second first second (read_of call first sheet lent words) (read_second party primary first second sheet lent words others xs)
    unfolding join_of
    behind-first =
        rw (
          eq-eqb one.number 0 (read call in_range first sheet lent words h),
          earlier_topics_lem first lent xs ys (few_triggers h.reading) ((exact call in_range first sheet lent words).complete xs ys h),
        )

    abbrev two : Outcome
    two = read_second party primary first second sheet lent words others xs

    second_refused : ((us : List Trigger) (vs : List Condition) → HasReading call second sheet (lent ++ topics_of (name_in first) xs) (length others) us vs → ⊥) →
        whole ≡ record { joined = refused_join 2 two.answer; first_buffer = (read_of call first sheet lent words).buffer; second_buffer = two.buffer }
    unfolding by_second
    second_refused n = behind-first ∙ rw (ne_eqb two.answer.number 0 (unread call in_range second sheet (lent ++ topics_of (name_in first) xs) others n))

    unrefused : {us : List Trigger} {vs : List Condition} → HasReading call second sheet (lent ++ topics_of (name_in first) xs) (length others) us vs →
        Unrefused party primary first second sheet lent words others whole xs
    unfolding by_second
    unrefused g =
        let e = eq-eqb two.answer.number 0 (read call in_range second sheet (lent ++ topics_of (name_in first) xs) others g) in
        record {
          neither = ap (λ (j : Join). j.joined.which) behind-first ∙ rw e (which-neither first second one two.answer);
          first_words = ap (λ (j : Join). j.first_buffer) behind-first;
          second_words = ap (λ (j : Join). j.second_buffer) behind-first;
        }

-- for every two texts, sheet, lent topics and buffers
pub in_turn : (party primary : ℕ) → primary ≤ last_adapter → (first second sheet : List ℕ) (lent : List (List ℕ)) (words others : List ℕ) →
    InTurn party primary first second sheet lent words others (join_of party primary first second sheet lent words others)
in_turn party primary in_range first second sheet lent words others =
    record {
      first_refused = first_refused party primary in_range first second sheet lent words others;
      second_refused = λ h. second_refused party primary in_range first second sheet lent words others h;
      unrefused = λ b. unrefused party primary in_range first second sheet lent words others b.one b.two;
    }
