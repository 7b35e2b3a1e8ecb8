-- What was read can be written, and reading it again gives the same; what a written text is read as is written as the same text (specs/Rereading.antt).
use Prim.Native.Nat.{ℕ, ◌+◌, ◌≤◌}
use native.Mathlib.Omega.{arith}
use mathlib.Core.Path.{◌≡◌, ◌∙◌, refl, sym, ap}
use mathlib.Core.Bool.{Bool, true}
use mathlib.Core.List.{List, [], ◌∷◌, map, map-map, head-eq_of_cons-eq, tail-eq_of_cons-eq, cons-ne-nil}
use lib.ListN.{length}
use borrow.Author.Tests.{le-leb}
use Rattle.tokens.specs.Cursor.{Tok}
use Rattle.sheet.specs.View.{View, seen, own_primary}
use Rattle.sheet.specs.declared.Call.{Call}
use Rattle.model.specs.Limits.{last_adapter}
use Rattle.model.specs.Ranges.{Each}
use Rattle.model.specs.declared.Condition.{Condition}
use Rattle.model.specs.declared.Name.{Name}
use Rattle.model.specs.declared.Trigger.{Trigger}
use Rattle.language.specs.Demand.{HasReading}
use Rattle.language.specs.Read.{rule_call}
use Rattle.language.specs.Same.{shown_trigger, shown_condition}
use Rattle.language.specs.grammar.Text.{whens, joined, IfSection, no_if, conditions, ReadingWith, reading}
use Rattle.writing.specs.Pieces.{spaced}
use Rattle.writing.specs.Writing.{least_bytes, triggers_in, conditions_in, possible_counts, is_text, failing, first_failing, text_of, possible_trigger_from, possible_condition_from, first_impossible, trigger_from_pieces, condition_from_pieces, list_pieces, first_unreached, written_with, write_of}
use Rattle.writing.specs.declared.ConditionFrom.{ConditionFrom}
use Rattle.writing.specs.declared.Lists.{Lists}
use Rattle.writing.specs.declared.TriggerFrom.{TriggerFrom}
use Rattle.writing.proofs.FailingLaws.{Pass, none-failing}
use Rattle.rereading.specs.Rereading.{trigger_from, condition_from, written_in, Holds, RowsReached, WhatWasReadIsPossible, ReadWriteRead, SameLists, SameListsWrittenAlike, Rewritten}
use Rattle.rereading.proofs.PossibleLaws.{holds}
use Rattle.rereading.proofs.ReadingPossible.{reading-possible}
use Rattle.rereading.proofs.ReadingReached.{has-reading-reached}
use Rattle.rereading.proofs.SameReached.{same-reached, same-reached_condition}
use Rattle.rereading.proofs.SamePieces.{same_trigger-pieces, same_condition-pieces}
use Rattle.rereading.proofs.WrittenLaws.{Writes, text_for, writes, writes_only, text_in}
use Rattle.rereading.proofs.RoundTrip.{same-topics, same-unreached, written-reads, answered}

-- ---- lists that are shown alike

module _ {A B C : Type 0} (f : A → C) (g : B → C) where
  each-alike : {P : A → Type 0} {Q : B → Type 0} → ((x : A) (y : B) → f x ≡ g y → Q y → P x) → (xs : List A) {ys : List B} → map f xs ≡ map g ys →
      Each Q ys → Each P xs
  each-alike h [] e Each.none = Each.none
  each-alike h [] e (Each.more q qs) = absurd (cons-ne-nil _ _ (sym e))
  each-alike h (x ∷ xs) e Each.none = absurd (cons-ne-nil _ _ e)
  each-alike h (x ∷ xs) e (Each.more {x = y} q qs) = Each.more (h x y (head-eq_of_cons-eq e) q) (each-alike h xs (tail-eq_of_cons-eq e) qs)

  map-alike : {D : Type 0} (p : A → D) (q : B → D) → ((x : A) (y : B) → f x ≡ g y → p x ≡ q y) → (xs : List A) (ys : List B) → map f xs ≡ map g ys →
      map p xs ≡ map q ys
  map-alike p q h [] [] e = refl
  map-alike p q h [] (y ∷ ys) e = absurd (cons-ne-nil _ _ (sym e))
  map-alike p q h (x ∷ xs) [] e = absurd (cons-ne-nil _ _ e)
  map-alike p q h (x ∷ xs) (y ∷ ys) e = rw (h x y (head-eq_of_cons-eq e), map-alike p q h xs ys (tail-eq_of_cons-eq e))

-- ---- where each entry passes, none is the first to fail

none-fails : {A : Type 0} (test : A → Bool) (k : ℕ) {xs : List A} → Each (λ (x : A). test x ≡ true) xs → failing test k xs ≡ 0
unfolding failing
none-fails test k Each.none = refl
none-fails test k (Each.more h hs) = rw h (none-fails test (k + 1) hs)

pass-none : {f : TriggerFrom → Bool} {g : ConditionFrom → Bool} (l : Lists) → Pass f g l → first_failing f g l ≡ 0
unfolding first_failing
pass-none {f} {g} l p = rw (none-fails f 1 p.triggers) (none-fails g (l.triggers.count + 1) p.conditions)

-- ---- the lists of a reading

abbrev as_first : Trigger → TriggerFrom
as_first x = record { from = 1; trigger = x }

abbrev condition_as_first : Condition → ConditionFrom
condition_as_first y = record { from = 1; condition = y }

-- are shown as they were read
module _ (text second : List ℕ) {l : Lists} {xs : List Trigger} {ys : List Condition} (h : Holds l xs ys) where
  held : map (trigger_from text second) (triggers_in l) ≡ map (shown_trigger text) xs
  unfolding text_of
  held = rw h.triggers (map-map (trigger_from text second) as_first xs)

  held-conditions : map (condition_from text second) (conditions_in l) ≡ map (shown_condition text) ys
  unfolding text_of
  held-conditions = rw h.conditions (map-map (condition_from text second) condition_as_first ys)

each-mapped : {A B : Type 0} {P : A → Type 0} {Q : B → Type 0} (f : A → B) → ((x : A) → P x → Q (f x)) → {xs : List A} → Each P xs → Each Q (map f xs)
each-mapped f g Each.none = Each.none
each-mapped f g (Each.more {x} h hs) = Each.more (g x h) (each-mapped f g hs)

-- are as many as may stand
if_few : {t : ℕ → Tok} {view : View} {range : ℕ → Name} {i j : ℕ} {ys : List Condition} → IfSection t view range i ys j → length ys ≤ 4
if_few no_if = omega arith
if_few (conditions w (joined h r few)) = omega arith

counts-held : {t : ℕ → Tok} {view : View} {range : ℕ → Name} {l : Lists} {xs : List Trigger} {ys : List Condition} → ReadingWith t view range xs ys →
    Holds l xs ys → possible_counts l ≡ true
unfolding possible_counts
counts-held (reading (whens r some few) i e) h = rw (h.count, h.condition_count) (holds (holds (le-leb _ _ some) (le-leb _ _ few)) (le-leb _ _ (if_few i)))

module _ {call : Call} (in_range : call.primary ≤ last_adapter) {text sheet : List ℕ} {lent : List (List ℕ)} {size : ℕ} {xs : List Trigger} {ys : List Condition}
    (r : HasReading call text sheet lent size xs ys) (second : List ℕ) {l : Lists} (h : Holds l xs ys) where
  -- are possible
  possible-held : first_impossible text second l ≡ 0
  unfolding first_impossible possible_trigger_from possible_condition_from is_text text_of
  possible-held =
      let (p, q) = reading-possible call in_range text sheet lent size xs ys r in
      pass-none l
      (record {
        triggers = rw h.triggers (each-mapped as_first (λ x k. k) p);
        conditions = rw h.conditions (each-mapped condition_as_first (λ y k. k) q);
      })

  -- and can be named, if the rows that are seen are reached
  reached-held : RowsReached (seen call sheet) → first_unreached (seen call sheet) l ≡ 0
  unfolding first_unreached
  reached-held rows =
      let (p, q) = has-reading-reached call text sheet lent size xs ys rows r in
      pass-none l
      (record {
        triggers = rw h.triggers (each-mapped as_first (λ x k. k) p);
        conditions = rw h.conditions (each-mapped condition_as_first (λ y k. k) q);
      })

  -- so that all that is asked before they are written is met
  writes-held : RowsReached (seen call sheet) → Writes call.party call.primary text second sheet l
  unfolding seen own_primary
  writes-held rows =
      record {
        sheet_passes = r.sheet_passes;
        own = r.own;
        counts = counts-held r.reading h;
        possible = possible-held;
        reached = same-unreached (seen (rule_call call.party call.primary) sheet) (seen call sheet) refl l ∙ reached-held rows;
      }

-- ---- whole calls

module _ (party primary : ℕ) (first second sheet : List ℕ) (l : Lists) (buffer : List ℕ) (w : Writes party primary first second sheet l)
    (room : least_bytes ≤ length buffer) where
  accepted : (write_of party primary first second sheet l buffer).answer.number ≡ 0
  unfolding written_with
  accepted = rw (writes party primary first second sheet l buffer w room)

  written : written_in (write_of party primary first second sheet l buffer) ≡ text_for party primary first second sheet l
  written = rw (writes party primary first second sheet l buffer w room) (text_in _ buffer)

pub what_was_read-is-possible : WhatWasReadIsPossible
what_was_read-is-possible call text second sheet lent size xs ys l in_range r h = (
  possible-held in_range r second h,
  λ rows buffer room. accepted call.party call.primary text second sheet l buffer (writes-held in_range r second h rows) room,
)

pub read-write-read : ReadWriteRead
read-write-read call habit text second sheet lent size xs ys l buffer words any in_range r rows h four room lexed =
    let w = writes-held in_range r second h rows in
    let again : Call = record { habit = habit; party = call.party; primary = call.primary } in
    let topics = rw (same-topics text text second xs (triggers_in l) (sym (held text second h))) at r.topics in
    let back = answered {call = again} in_range words (written-reads again any text second sheet l four w lent (length words) lexed topics) in
    rw (written call.party call.primary text second sheet l buffer w room)
    (record {
      triggers = back.triggers;
      conditions = back.conditions;
      answer = back.answer;
      same_triggers = back.same_triggers ∙ held text second h;
      same_conditions = back.same_conditions ∙ held-conditions text second h;
    })

-- ---- lists that are the same by bytes

pub same_lists-written-alike : SameListsWrittenAlike
unfolding list_pieces
same_lists-written-alike first second third fourth l m primary s =
    rw (
      map-alike (trigger_from first second) (trigger_from third fourth) (trigger_from_pieces first second primary) (trigger_from_pieces third fourth primary)
          (λ x y e. same_trigger-pieces primary _ _ x.trigger y.trigger e) (triggers_in l) (triggers_in m) s.triggers,
      map-alike (condition_from first second) (condition_from third fourth) (condition_from_pieces first second primary) (condition_from_pieces third fourth primary)
          (λ x y e. same_condition-pieces primary _ _ x.condition y.condition e) (conditions_in l) (conditions_in m) s.conditions,
    )

-- a call that can name the second can name the first
same_lists-reached : (view : View) {first second third fourth : List ℕ} {l m : Lists} → SameLists first second l third fourth m →
    first_unreached view m ≡ 0 → first_unreached view l ≡ 0
unfolding first_unreached
same_lists-reached view {first} {second} {third} {fourth} {l} {m} s e =
    let p = none-failing _ _ m e in
    pass-none l
    (record {
      triggers =
          each-alike (trigger_from first second) (trigger_from third fourth) (λ x y f k. same-reached view view refl _ _ x.trigger y.trigger f ∙ k)
          (triggers_in l) s.triggers p.triggers;
      conditions =
          each-alike (condition_from first second) (condition_from third fourth)
          (λ x y f k. same-reached_condition view view refl _ _ x.condition y.condition f ∙ k) (conditions_in l) s.conditions p.conditions;
    })

pub rewritten : Rewritten
rewritten call first second third sheet lent words l m buffer other in_range e r h room =
    let text = written_in (write_of call.party call.primary first second sheet l buffer) in
    let (w, least) = writes_only call.party call.primary first second sheet l buffer e in
    let s : SameLists text third m first second l = record {
      triggers = held text third h ∙ r.same_triggers;
      conditions = held-conditions text third h ∙ r.same_conditions;
    } in
    let v : Writes call.party call.primary text third sheet m = record {
      sheet_passes = w.sheet_passes;
      own = w.own;
      counts = counts-held r.reads.reading h;
      possible = possible-held in_range r.reads third h;
      reached = same_lists-reached _ s w.reached;
    } in (
      accepted call.party call.primary text third sheet m other v room,
      written call.party call.primary text third sheet m other v room
          ∙ ap spaced (same_lists-written-alike text third first second m l call.primary s)
          ∙ sym (written call.party call.primary first second sheet l buffer w least),
    )
