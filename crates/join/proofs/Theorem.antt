-- Joining in the words of document 02, §3 (specs/Joining.antt), of the definition of the whole call (specs/Join.antt).
use Prim.Native.Nat.{ℕ, ◌≤◌}
use native.Mathlib.Omega.{arith, not-le}
use mathlib.Core.Path.{◌≡◌, refl, ap, ◌∙◌, subst}
use mathlib.Core.Bool.{Bool, true, false, false≢true}
use mathlib.Core.List.{List, ◌++◌}
use lib.ListN.{length}
use lib.Dec.{eqb}
use borrow.Author.Tests.{le-ltb, lt-ltb, ltb-false, eq-eqb, eqb-true, eqb-false}
use Rattle.text.specs.Choice.{pick}
use Rattle.text.proofs.Tests.{both}
use Rattle.tokens.proofs.NumberLaws.{token-numbers}
use Rattle.sheet.specs.declared.Call.{Call}
use Rattle.topics.specs.Ranges.{name_in}
use Rattle.model.specs.Limits.{last_adapter}
use Rattle.model.specs.Lists.{accepted_with, refused_with}
use Rattle.model.specs.Ranges.{Each, none, more}
use Rattle.model.specs.declared.Trigger.{Trigger}
use Rattle.model.specs.declared.Condition.{Condition}
use Rattle.model.specs.declared.Answer.{Answer}
use Rattle.flat.specs.Held.{HeldTrigger, HeldCondition}
use Rattle.language.specs.Limits.{most_triggers}
use Rattle.language.specs.Topics.{topics_of}
use Rattle.language.specs.Read.{Outcome, read_of, rule_call}
use Rattle.language.specs.Demand.{HasReading}
use Rattle.language.specs.Same.{SameConditions, shown_condition}
use Rattle.language.proofs.RangeLaws.{ranges}
use Rattle.language.proofs.NumberLaws.{numbers}
use Rattle.language.proofs.Theorem.{exact}
use Rattle.compare.specs.Compare.{same_condition}
use Rattle.compare.proofs.SameLaws.{same_condition_lem, held-triggers, held-conditions}
use Rattle.join.specs.Join.{Taken, taken_from, joined_triggers, same_conditions, refused_join, accepted_join, by_count, both_read, earlier_topics, by_second, Join, join_of}
use Rattle.join.specs.Joining.{JoinsTo, OneJoin, BothRead, AcceptsJoin, ExactJoin}
use Rattle.join.specs.declared.Joined.{Joined}
use Rattle.join.proofs.ListLaws.{triggers-back, conditions-back, few_triggers, few_conditions}
use Rattle.join.proofs.FirstsLaws.{HeldTaken, each_append, firsts_kept, kept_firsts}

-- two lists of conditions
conditions-sound : (a b : List ℕ) {xs ys : List Condition} → Each HeldCondition xs → Each HeldCondition ys → same_conditions a b xs ys ≡ true → SameConditions a b xs ys
unfolding same_conditions
conditions-sound a b none none e = refl
conditions-sound a b none (more g gs) e = absurd (false≢true e)
conditions-sound a b (more h hs) none e = absurd (false≢true e)
conditions-sound a b (more {x = x} {xs = xs} h hs) (more {x = y} {xs = ys} g gs) e =
    let t = both (same_condition a b x y) e in
    rw ((same_condition_lem a b x y h g).0 t.0, conditions-sound a b hs gs t.1)

conditions-complete : (a b : List ℕ) {xs ys : List Condition} → Each HeldCondition xs → Each HeldCondition ys → SameConditions a b xs ys → same_conditions a b xs ys ≡ true
unfolding same_conditions
conditions-complete a b none none e = refl
conditions-complete a b none (more g gs) e = absurd (let n = ap length e in omega arith)
conditions-complete a b (more h hs) none e = absurd (let n = ap length e in omega arith)
conditions-complete a b (more {x = x} {xs = xs} h hs) (more {x = y} {xs = ys} g gs) e =
    let s : shown_condition a x ≡ shown_condition b y = cc in
    let r : SameConditions a b xs ys = cc in
    rw ((same_condition_lem a b x y h g).1 s, conditions-complete a b hs gs r)

-- what the lists of every reading are: at most four entries each, and words can tell every entry
pub record OfReading (xs : List Trigger) (ys : List Condition) : Type 0 where
  pub few_xs : length xs ≤ most_triggers
  pub few_ys : length ys ≤ most_triggers
  pub held_xs : Each HeldTrigger xs
  pub held_ys : Each HeldCondition ys

pub of-reading : (call : Call) → call.primary ≤ last_adapter → (text sheet : List ℕ) {lent : List (List ℕ)} {size : ℕ} {xs : List Trigger} {ys : List Condition} →
    HasReading call text sheet lent size xs ys → OfReading xs ys
of-reading call in_range text sheet h =
    let r = ranges call sheet in_range h.reading in
    let n = numbers (token-numbers text h.gives.lexed) h.reading in
    record {
      few_xs = few_triggers h.reading;
      few_ys = few_conditions h.reading;
      held_xs = held-triggers r n;
      held_ys = held-conditions r n;
    }

pub held-taken : (from : ℕ) {xs : List Trigger} → Each HeldTrigger xs → Each HeldTaken (taken_from from xs)
held-taken from none = none
held-taken from (more h hs) = more h (held-taken from hs)

-- what is accepted is not the one of two that is refused
module _ {A : Type 0} (number : A → ℕ) where
  accepted-first : (t : Bool) (a b : A) → (t ≡ false → number b ≡ 0 → ⊥) → number (pick t a b) ≡ 0 → (t ≡ true) × (number a ≡ 0)
  accepted-first true a b n e = (refl, e)
  accepted-first false a b n e = absurd (n refl e)

  accepted-second : (t : Bool) (a b : A) → (t ≡ true → number a ≡ 0 → ⊥) → number (pick t a b) ≡ 0 → t ≡ false
  accepted-second true a b n e = absurd (n refl e)
  accepted-second false a b n e = refl

abbrev number_of : Joined → ℕ
number_of j = j.answer.number

-- by how many triggers are left
module _ (kept : List Taken) (ys : List Condition) where
  count-sound : (by_count kept ys).answer.number ≡ 0 → length kept ≤ most_triggers
  unfolding by_count refused_join refused_with
  count-sound e =
      ltb-false most_triggers (length kept)
      (accepted-second number_of _ (refused_join 0 (refused_with 52 0 0 0)) (accepted_join kept ys) (λ t z. omega arith) e)

  count-few : length kept ≤ most_triggers → by_count kept ys ≡ accepted_join kept ys
  unfolding by_count
  count-few l = rw (le-ltb most_triggers (length kept) l)

  count-many : (length kept ≤ most_triggers → ⊥) → by_count kept ys ≡ refused_join 0 (refused_with 52 0 0 0)
  unfolding by_count
  count-many n = rw (lt-ltb most_triggers (length kept) (not-le (length kept) most_triggers n))

-- what two accepted answers are joined to, by the test of their conditions and by how many triggers are left
module _ (first second : List ℕ) {xs us : List Trigger} {ys vs : List Condition} (one : OfReading xs ys) (two : OfReading us vs) where
  held-row : Each HeldTaken (taken_from 1 xs ++ taken_from 2 us)
  held-row = each_append (held-taken 1 one.held_xs) (held-taken 2 two.held_xs)

  joins-kept : JoinsTo first second xs us (joined_triggers first second xs us)
  unfolding joined_triggers
  joins-kept = firsts_kept first second _ held-row

  kept-joins : {kept : List Taken} → JoinsTo first second xs us kept → kept ≡ joined_triggers first second xs us
  unfolding joined_triggers
  kept-joins h = kept_firsts first second held-row h

  abbrev read : Joined
  read = both_read first second (accepted_with xs ys) (accepted_with us vs)

  by-conditions : read ≡ pick (same_conditions first second ys vs) (by_count (joined_triggers first second xs us) ys) (refused_join 0 (refused_with 51 0 0 0))
  unfolding both_read accepted_with
  by-conditions =
      rw (
        conditions-back ys one.few_ys,
        conditions-back vs two.few_ys,
        triggers-back xs one.few_xs,
        triggers-back us two.few_xs,
      )

  read_same : SameConditions first second ys vs → read ≡ by_count (joined_triggers first second xs us) ys
  read_same e = by-conditions ∙ rw (conditions-complete first second one.held_ys two.held_ys e)

  read-differ : (SameConditions first second ys vs → ⊥) → read ≡ refused_join 0 (refused_with 51 0 0 0)
  read-differ n = by-conditions ∙ by (same_conditions first second ys vs) refl
    where
      by : (t : Bool) → same_conditions first second ys vs ≡ t →
          pick t (by_count (joined_triggers first second xs us) ys) (refused_join 0 (refused_with 51 0 0 0)) ≡ refused_join 0 (refused_with 51 0 0 0)
      by true e = absurd (n (conditions-sound first second one.held_ys two.held_ys e))
      by false e = refl

  read-sound : read.answer.number ≡ 0 → SameConditions first second ys vs × (length (joined_triggers first second xs us) ≤ most_triggers)
  unfolding refused_join refused_with
  read-sound e =
      let t =
      accepted-first number_of (same_conditions first second ys vs) (by_count (joined_triggers first second xs us) ys) (refused_join 0 (refused_with 51 0 0 0))
      (λ t z. omega arith) (rw by-conditions at e) in
      (conditions-sound first second one.held_ys two.held_ys t.0, count-sound (joined_triggers first second xs us) ys t.1)

-- the topics of an accepted text are those of its reading
pub earlier_topics_lem : (first : List ℕ) (lent : List (List ℕ)) {answer : Answer} (xs : List Trigger) (ys : List Condition) → length xs ≤ most_triggers →
    answer ≡ accepted_with xs ys → earlier_topics first lent answer ≡ lent ++ topics_of (name_in first) xs
unfolding accepted_with
earlier_topics_lem first lent xs ys l e = rw (e, triggers-back xs l)

-- one answer after the other
module _ (first second : List ℕ) (one : Outcome) (two : Answer → Outcome) (others : List ℕ) where
  abbrev steps : Join
  steps =
      pick (eqb one.answer.number 0) (by_second first second one (two one.answer))
      (record { joined = refused_join 1 one.answer; first_buffer = one.buffer; second_buffer = others })

  steps-read : one.answer.number ≡ 0 → (two one.answer).answer.number ≡ 0 → steps.joined ≡ both_read first second one.answer (two one.answer).answer
  unfolding by_second
  steps-read e f = rw (eq-eqb one.answer.number 0 e, eq-eqb (two one.answer).answer.number 0 f)

  steps-sound : steps.joined.answer.number ≡ 0 → (one.answer.number ≡ 0) × ((two one.answer).answer.number ≡ 0)
  unfolding by_second refused_join
  steps-sound e =
      let t = accepted-first (λ (j : Join). number_of j.joined) (eqb one.answer.number 0) _ _ (eqb-false one.answer.number 0) e in
      let u =
      accepted-first number_of (eqb (two one.answer).answer.number 0) _ (refused_join 2 (two one.answer).answer)
      (eqb-false (two one.answer).answer.number 0) t.1 in
      (eqb-true one.answer.number 0 t.0, eqb-true (two one.answer).answer.number 0 u.0)

-- the whole call
module _ (party primary : ℕ) (in_range : primary ≤ last_adapter) (first second sheet : List ℕ) (lent : List (List ℕ)) (words others : List ℕ) where
  abbrev call : Call
  call = rule_call party primary

  abbrev whole : Joined
  whole = (join_of party primary first second sheet lent words others).joined

  abbrev Both : List Trigger → List Trigger → List Condition → List Condition → Type 0
  Both = BothRead party primary first second sheet lent (length words) (length others)

  module _ {xs us : List Trigger} {ys vs : List Condition} (b : Both xs us ys vs) where
    one-lists : OfReading xs ys
    one-lists = of-reading call in_range first sheet b.one

    two-lists : OfReading us vs
    two-lists = of-reading call in_range second sheet b.two

    one-is : (read_of call first sheet lent words).answer ≡ accepted_with xs ys
    one-is = (exact call in_range first sheet lent words).complete xs ys b.one

    two_is : (read_of call second sheet (earlier_topics first lent (read_of call first sheet lent words).answer) others).answer ≡ accepted_with us vs
    two_is =
        rw (earlier_topics_lem first lent xs ys one-lists.few_xs one-is)
        ((exact call in_range second sheet (lent ++ topics_of (name_in first) xs) others).complete us vs b.two)

    -- two readings are joined
    whole-read : whole ≡ both_read first second (accepted_with xs ys) (accepted_with us vs)
    unfolding join_of accepted_with
    whole-read =
        steps-read first second (read_of call first sheet lent words) (λ a. read_of call second sheet (earlier_topics first lent a) others) others
        (ap (λ (a : Answer). a.number) one-is) (ap (λ (a : Answer). a.number) two_is) ∙ rw (two_is, one-is)

    join-complete : {kept : List Taken} → SameConditions first second ys vs → JoinsTo first second xs us kept → length kept ≤ most_triggers → whole ≡ accepted_join kept ys
    join-complete {kept} e j l =
        let k = kept-joins first second one-lists two-lists j in
        whole-read ∙ read_same first second one-lists two-lists e ∙ rw (← k) (count-few kept ys l)

    join-many : {kept : List Taken} → SameConditions first second ys vs → JoinsTo first second xs us kept → (length kept ≤ most_triggers → ⊥) →
        whole ≡ refused_join 0 (refused_with 52 0 0 0)
    join-many {kept} e j n =
        let k = kept-joins first second one-lists two-lists j in
        whole-read ∙ read_same first second one-lists two-lists e ∙ rw (← k) (count-many kept ys n)

    join_one : OneJoin first second xs us
    join_one =
        record {
          kept = joined_triggers first second xs us;
          joins = joins-kept first second one-lists two-lists;
          no_other = λ h. kept-joins first second one-lists two-lists h;
        }

    join-differ : (SameConditions first second ys vs → ⊥) → whole ≡ refused_join 0 (refused_with 51 0 0 0)
    join-differ n = whole-read ∙ read-differ first second one-lists two-lists n

    join-sound : whole.answer.number ≡ 0 → AcceptsJoin party primary first second sheet lent (length words) (length others) whole
    join-sound e =
        let r = read-sound first second one-lists two-lists (rw whole-read at e) in
        let j = joins-kept first second one-lists two-lists in
        record {
          triggers = xs;
          others = us;
          conditions = ys;
          same = vs;
          read = b;
          equal = r.0;
          kept = joined_triggers first second xs us;
          joins = j;
          few = r.1;
          lists = join-complete r.0 j r.1;
        }

  -- what is accepted is two readings
  sound : whole.answer.number ≡ 0 → AcceptsJoin party primary first second sheet lent (length words) (length others) whole
  unfolding join_of
  sound e =
      let one = read_of call first sheet lent words in
      let n = steps-sound first second one (λ a. read_of call second sheet (earlier_topics first lent a) others) others e in
      let a = (exact call in_range first sheet lent words).sound n.0 in
      let c = (exact call in_range second sheet (earlier_topics first lent one.answer) others).sound n.1 in
      let l = earlier_topics_lem first lent a.triggers a.conditions (few_triggers a.reads.reading) a.lists in
      let two = subst (λ (earlier : List (List ℕ)). HasReading call second sheet earlier (length others) c.triggers c.conditions) l c.reads in
      join-sound (record { one = a.reads; two = two }) e

-- document 02, §3, for every two texts, sheet, lent topics and buffers. A call's primary adapter is a byte.
pub exact-join : (party primary : ℕ) → primary ≤ last_adapter → (first second sheet : List ℕ) (lent : List (List ℕ)) (words others : List ℕ) →
    ExactJoin party primary first second sheet lent (length words) (length others) (join_of party primary first second sheet lent words others).joined
exact-join party primary in_range first second sheet lent words others =
    record {
      one = join_one party primary in_range first second sheet lent words others;
      sound = sound party primary in_range first second sheet lent words others;
      complete = λ b. join-complete party primary in_range first second sheet lent words others b;
      differ = join-differ party primary in_range first second sheet lent words others;
      many = λ b. join-many party primary in_range first second sheet lent words others b;
    }
