-- The whole call, step by step.
use Rattle.std.specs.Prelude.{Option, None, Some}
use Prim.Native.Nat.{ℕ, ◌+◌, ◌≤◌}
use mathlib.Core.Path.{◌≡◌, ◌∙◌, refl, ap, sym, subst}
use mathlib.Core.List.{List, [], ◌∷◌, map, map-append}
use mathlib.Core.Bool.{Bool, true, false}
use native.Mathlib.Omega.{arith}
use lib.ListN.{length, take, length-append}
use lib.Seq.{length-take-le}
use borrow.Author.Tests.{eq-eqb, ne_eqb}
use Rattle.model.specs.Lists.{triggers_of, conditions_of, accepted_with, refused_with}
use mir.Syntax.{w8}
use mir.Val.{Fits}
use Rattle.model.specs.Limits.{last_adapter}
use Rattle.model.specs.declared.Name.{Name}
use Rattle.model.specs.declared.Trigger.{Trigger}
use Rattle.model.specs.declared.TriggerRow.{TriggerRow}
use Rattle.model.specs.declared.Triggers.{Triggers}
use Rattle.model.specs.declared.Answer.{Answer}
use Rattle.sheet.specs.declared.Call.{Call}
use Rattle.topics.specs.Topics.{lent_topics}
use Rattle.topics.specs.Ranges.{range_words, topic_by, lent_with}
use Rattle.topics.proofs.RangeLaws.{topics_at_lem}
use Rattle.language.specs.Limits.{most_triggers}
use Rattle.language.specs.Topics.{topic_name, topic_of, topics_of}
use Rattle.language.specs.Read.{Outcome, read_of, rule_call}
use Rattle.language.specs.Demand.{Exact}
use Rattle.join.specs.Join.{taken_from, triggers_in, conditions_in, kept_all, joined_triggers, same_conditions, refused_join, by_count, both_read, by_second, earlier_topics, Join, join_of}
use Rattle.join.specs.Kept.{most_kept, kept_of, names_by, topic_names, topics_held, OfKept, OfConditions, Few, Finished}
use Rattle.join.specs.declared.Joined.{Joined}
use Rattle.join.specs.declared.Kept.{Kept}
use Rattle.join.specs.declared.Topics.{Topics}
use Rattle.join.proofs.RowLaws.{in_use-long, padded-front}
use Rattle.join.proofs.KeptLaws.{all_both}
use Rattle.join.specs.Joining.{ExactJoin}
use Rattle.join.proofs.Theorem.{exact-join}
use Rattle.join.proofs.ListLaws.{padded-long, conditions-back, few_triggers, few_conditions}

-- an accepted answer of the reader is finished
pub finished : (call : Call) (text sheet : List ℕ) (lent : List (List ℕ)) (size : ℕ) {answer : Answer} → Exact call text sheet lent size answer → answer.number ≡ 0 →
    Finished answer
finished call text sheet lent size e h =
    let a = e.sound h in
    record {
      triggers = a.triggers;
      conditions = a.conditions;
      lists = a.lists;
      few_triggers = few_triggers a.reads.reading;
      few_conditions = few_conditions a.reads.reading;
    }

module _ {answer : Answer} (f : Finished answer) where
  finished-conditions-are : answer.conditions ≡ conditions_of f.conditions
  unfolding accepted_with
  finished-conditions-are = ap (λ (a : Answer). a.conditions) f.lists

  pub finished-triggers : Few answer.triggers.rows answer.triggers.count
  unfolding accepted_with triggers_of
  finished-triggers = rw f.lists (padded-long _ _ most_triggers f.triggers, f.few_triggers)

  pub finished-conditions : Few answer.conditions.rows answer.conditions.count
  unfolding accepted_with conditions_of
  finished-conditions = rw f.lists (padded-long _ _ most_triggers f.conditions, f.few_conditions)

-- none are kept, and then those of one text
pub none-few : {kept : Kept} → kept ≡ kept_of [] → kept.count ≤ most_triggers
unfolding kept_of
none-few e = rw e (omega arith)

pub one-few : {none : Kept} (kept : Kept) (list : Triggers) → none ≡ kept_of [] → Few list.rows list.count → kept.count ≤ none.count + list.count →
    kept.count ≤ most_triggers
unfolding kept_of
one-few {none} kept list e few h =
    let z : none.count ≡ 0 = ap (λ (k : Kept). k.count) e in
    omega (arith, few.1)

-- both are read
module _ (first second : List ℕ) (one two : Answer) {b : Bool}
    (said : b ≡ same_conditions first second (conditions_in one.conditions) (conditions_in two.conditions)) where
  pub both-differ : b ≡ false → {r : Joined} → r ≡ refused_join 0 (refused_with 51 0 0 0) → r ≡ both_read first second one two
  unfolding both_read
  both-differ h e = rw (← said, h) e

  pub both-joined : b ≡ true → Finished one → {none kept more : Kept} → none ≡ kept_of [] →
      OfKept none (λ l. kept ≡ kept_of (kept_all first second l (taken_from 1 (triggers_in one.triggers)))) →
      OfKept kept (λ l. more ≡ kept_of (kept_all first second l (taken_from 2 (triggers_in two.triggers)))) → {r : Joined} →
      OfKept more (λ l. OfConditions one.conditions (λ ys. r ≡ by_count l ys)) → r ≡ both_read first second one two
  unfolding both_read joined_triggers
  both-joined h f n k m j =
      let ones = taken_from 1 (triggers_in one.triggers) in
      let twos = taken_from 2 (triggers_in two.triggers) in
      let ys : conditions_in one.conditions ≡ f.conditions = rw (finished-conditions-are f) (conditions-back f.conditions f.few_conditions) in
      rw (← said, h, ys, ← all_both first second [] ones twos)
      (j (kept_all first second (kept_all first second [] ones) twos) (m (kept_all first second [] ones) (k [] n)) f.conditions (finished-conditions-are f))

-- the first text's topics
topic-map : (written : Name → List ℕ) (t : Option Name) → map written (names_by t) ≡ topic_by written t
unfolding names_by topic_by
topic-map written None = refl
topic-map written (Some name) = refl

topics-map : (written : Name → List ℕ) (xs : List Trigger) → map written (topic_names xs) ≡ topics_of written xs
unfolding topic_names topics_of topic_of
topics-map written [] = refl
topics-map written (x ∷ xs) = map-append written (names_by (topic_name x)) (topic_names xs) ∙ rw (topic-map written (topic_name x), topics-map written xs)

name-few : (t : Option Name) → length (names_by t) ≤ 1
unfolding names_by
name-few None = omega arith
name-few (Some name) = omega arith

names-few : (xs : List Trigger) → length (topic_names xs) ≤ length xs
unfolding topic_names
names-few [] = omega arith
names-few (x ∷ xs) = omega (arith, length-append (names_by (topic_name x)) (topic_names xs), name-few (topic_name x), names-few xs)

words_long : (names : List Name) → length (range_words names) ≡ length names + length names
unfolding range_words
words_long [] = refl
words_long (n ∷ names) = omega (arith, words_long names)

module _ (first lent : List ℕ) {one : Answer} (f : Finished one) {topics : Topics} (are : topics ≡ topics_held (topic_names (triggers_in one.triggers))) where
  xs : List Trigger
  xs = triggers_in one.triggers

  names-four : length (topic_names xs) ≤ most_triggers
  unfolding xs
  names-four =
      let few = finished-triggers f in
      omega (
        arith,
        names-few (triggers_in one.triggers),
        in_use-long (λ (r : TriggerRow). r.trigger) one.triggers.rows one.triggers.count (omega (arith, few.0, few.1)),
        few.1,
      )

  pub earlier-words : lent_with lent first (take topics.count topics.words) ≡ earlier_topics first (lent_topics lent) one
  unfolding topics_held xs
  earlier-words =
      rw (
        are,
        padded-front most_kept (range_words (topic_names (triggers_in one.triggers))) (omega (arith, words_long (topic_names (triggers_in one.triggers)), names-four)),
        topics_at_lem first (topic_names (triggers_in one.triggers)) (omega (arith, names-four)),
        topics-map,
      )

-- there is room for them
module _ (topics : Topics) (names : List Name) (are : topics ≡ topics_held names) (few : topics.count ≤ most_kept) where
  pub held-room : topics.count ≤ length topics.words
  unfolding topics_held
  held-room =
      let long : length topics.words ≡ most_kept = rw are (padded-long _ _ most_kept (range_words names)) in
      omega arith

  pub held-front : topics.count ≡ length (take topics.count topics.words)
  held-front = sym (length-take-le topics.count topics.words held-room)

-- the call
module _ (party primary : ℕ) (first second sheet : List ℕ) (lent : List (List ℕ)) (words others : List ℕ) where
  abbrev call : Call
  call = rule_call party primary

  abbrev first_read : Outcome
  first_read = read_of call first sheet lent words

  abbrev whole : Join
  whole = join_of party primary first second sheet lent words others

  module _ {one : Answer} (read : one ≡ first_read.answer) {b : List ℕ} (left : b ≡ first_read.buffer) where
    pub first_refused : (one.number ≡ 0 → ⊥) → {r : Joined} → r ≡ refused_join 1 one →
        (r ≡ whole.joined) × ((b ≡ whole.first_buffer) × (others ≡ whole.second_buffer))
    unfolding join_of
    first_refused h e = rw (ne_eqb first_read.answer.number 0 (rw read at h)) (e ∙ rw read, (left, refl))

    module _ (h : one.number ≡ 0) {topics : List (List ℕ)} (earlier : topics ≡ earlier_topics first lent one) where
      abbrev second_read : Outcome
      second_read = read_of call second sheet (earlier_topics first lent first_read.answer) others

      accepted-first : whole ≡ by_second first second first_read second_read
      unfolding join_of
      accepted-first = rw (eq-eqb first_read.answer.number 0 (rw read at h))

      module _ {two : Answer} (read-too : two ≡ (read_of call second sheet topics others).answer) {c : List ℕ}
          (left-too : c ≡ (read_of call second sheet topics others).buffer) where
        two_is : two ≡ second_read.answer
        two_is = rw (earlier, read) at read-too

        c-is : c ≡ second_read.buffer
        c-is = rw (earlier, read) at left-too

        pub second_refused : (two.number ≡ 0 → ⊥) → {r : Joined} → r ≡ refused_join 2 two →
            (r ≡ whole.joined) × ((b ≡ whole.first_buffer) × (c ≡ whole.second_buffer))
        unfolding by_second
        second_refused k e = rw (accepted-first, ne_eqb second_read.answer.number 0 (rw two_is at k)) (e ∙ rw two_is, (left, c-is))

        pub both-accepted : two.number ≡ 0 → {r : Joined} → r ≡ both_read first second one two →
            (r ≡ whole.joined) × ((b ≡ whole.first_buffer) × (c ≡ whole.second_buffer))
        unfolding by_second
        both-accepted k e = rw (accepted-first, eq-eqb second_read.answer.number 0 (rw two_is at k)) (e ∙ rw (read, two_is), (left, c-is))

in_byte : {n : ℕ} → Fits w8 n → n ≤ last_adapter
in_byte h = let f = h.fits in omega arith

-- all that the call promises, by its answer and the words at exit
pub promised : (party primary : ℕ) → Fits w8 primary → (first second sheet : List ℕ) (lent : List (List ℕ)) (words others : List ℕ) {r : Joined} {b c : List ℕ} →
    (r ≡ (join_of party primary first second sheet lent words others).joined)
    × ((b ≡ (join_of party primary first second sheet lent words others).first_buffer) × (c ≡ (join_of party primary first second sheet lent words others).second_buffer)) →
    (r ≡ (join_of party primary first second sheet lent words others).joined)
    × ((b ≡ (join_of party primary first second sheet lent words others).first_buffer)
    × ((c ≡ (join_of party primary first second sheet lent words others).second_buffer)
    × ExactJoin party primary first second sheet lent (length words) (length others) r))
promised party primary byte first second sheet lent words others h = (
  h.0,
  (
    h.1.0,
    (
      h.1.1,
      subst (λ (r : Joined). ExactJoin party primary first second sheet lent (length words) (length others) r) (sym h.0)
          (exact-join party primary (in_byte byte) first second sheet lent words others),
    ),
  ),
)
