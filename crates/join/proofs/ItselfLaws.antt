-- A rule joined with itself (specs/Joining.antt): no trigger of the second text is new.
use Prim.Native.Nat.{ℕ, ◌≤◌}
use native.Mathlib.Omega.{arith}
use mathlib.Core.Path.{◌≡◌, refl, sym, subst}
use mathlib.Core.List.{List, [], ◌∷◌, ◌++◌, append_assoc, append-nil}
use lib.ListN.{length, length-map}
use Rattle.tokens.specs.Lexing.{least_words}
use Rattle.topics.specs.Topics.Allowed.{all_lent}
use Rattle.topics.specs.Ranges.{name_in}
use Rattle.topics.proofs.DifferentLaws.{has_right}
use Rattle.model.specs.Limits.{last_adapter}
use Rattle.model.specs.Ranges.{Each, none, more}
use Rattle.model.specs.declared.Trigger.{Trigger}
use Rattle.model.specs.declared.Condition.{Condition}
use Rattle.language.specs.Limits.{most_triggers}
use Rattle.language.specs.Topics.{topics_of}
use Rattle.language.specs.Read.{rule_call}
use Rattle.language.specs.Demand.{HasReading}
use Rattle.join.specs.Join.{Taken, taken_from, join_of}
use Rattle.join.specs.Joining.{Among, here, later, Firsts, end, new, again, JoinsTo, BothRead, WithoutRepeats, JoinsItself}
use Rattle.join.specs.declared.Joined.{Joined}
use Rattle.join.proofs.FirstsLaws.{among-left, firsts_kept}
use Rattle.join.proofs.OnceLaws.{of_text}
use Rattle.join.proofs.Theorem.{of-reading, held-taken, exact-join}

each_map : {A : Type 0} {P Q : A → Type 0} → ((x : A) → P x → Q x) → {xs : List A} → Each P xs → Each Q xs
each_map f none = none
each_map f (more {x = x} p ps) = more (f x p) (each_map f ps)

module _ (first second : List ℕ) where
  -- of a row in which none is new, none is kept
  firsts-none : (row : List Taken) {before : List Taken} → Each (λ x. Among first second x before) row → Firsts first second before row []
  firsts-none [] none = end
  firsts-none (x ∷ row) (more a h) = again a (firsts-none row (each_map (λ y. among-left first second (x ∷ [])) h))

  -- two rows, one behind the other
  firsts-append : {before front back ones twos : List Taken} → Firsts first second before front ones → Firsts first second (before ++ front) back twos →
      Firsts first second before (front ++ back) (ones ++ twos)
  firsts-append {before} {back = back} {twos = twos} end h = subst (λ (l : List Taken). Firsts first second l back twos) (append-nil before) h
  firsts-append {before} {back = back} {twos = twos} (new {rest = rest} {x = x} n g) h =
      new n (firsts-append g (subst (λ (l : List Taken). Firsts first second l back twos) (sym (append_assoc before (x ∷ []) rest)) h))
  firsts-append {before} {back = back} {twos = twos} (again {rest = rest} {x = x} a g) h =
      again a (firsts-append g (subst (λ (l : List Taken). Firsts first second l back twos) (sym (append_assoc before (x ∷ []) rest)) h))

  few-firsts : {before row kept : List Taken} → Firsts first second before row kept → length kept ≤ length row
  few-firsts end = omega arith
  few-firsts (new n h) = let l = few-firsts h in omega arith
  few-firsts (again a h) = let l = few-firsts h in omega arith

module _ (text : List ℕ) where
  -- what the second text has, the first has
  there : (xs : List Trigger) → Each (λ x. Among text text x (taken_from 1 xs)) (taken_from 2 xs)
  there [] = none
  there (x ∷ xs) = more (here refl) (each_map (λ y. later) (there xs))

  joins-itself : (xs : List Trigger) {kept : List Taken} → Firsts text text [] (taken_from 1 xs) kept → JoinsTo text text xs xs kept
  joins-itself xs {kept} h = subst (JoinsTo text text xs xs) (append-nil kept) (firsts-append text text h (firsts-none text text (taken_from 2 xs) (there xs)))

-- a text that is read is read with its own topics lent, too
read_again : {party primary : ℕ} {text sheet : List ℕ} {lent : List (List ℕ)} {size other : ℕ} {xs : List Trigger} {ys : List Condition} → least_words ≤ other →
    HasReading (rule_call party primary) text sheet lent size xs ys → BothRead party primary text text sheet lent size other xs xs ys ys
read_again {text = text} {lent = lent} {xs = xs} room h =
    record {
      one = h;
      two =
          record {
            room = room;
            sheet_passes = h.sheet_passes;
            own = h.own;
            lexing = h.lexing;
            count = h.count;
            gives = h.gives;
            few = h.few;
            reading = h.reading;
            topics = all_lent (λ t. has_right t lent (topics_of (name_in text) xs));
          };
    }

module _ (party primary : ℕ) (in_range : primary ≤ last_adapter) (text sheet : List ℕ) (lent : List (List ℕ)) (words others : List ℕ) where
  abbrev whole : Joined
  whole = (join_of party primary text text sheet lent words others).joined

  without-repeats : {xs : List Trigger} {ys : List Condition} → HasReading (rule_call party primary) text sheet lent (length words) xs ys → least_words ≤ length others →
      WithoutRepeats text xs ys whole
  without-repeats {xs} h room =
      let w = of-reading (rule_call party primary) in_range text sheet h in
      let f = firsts_kept text text (taken_from 1 xs) (held-taken 1 w.held_xs) in
      let o = of_text text text 1 xs f in
      let g = subst (Firsts text text [] (taken_from 1 xs)) o.taken f in
      let l : length (taken_from 1 xs) ≤ most_triggers = rw (length-map {B = Taken} xs (λ (x : Trigger). record { from = 1; trigger = x })) w.few_xs in
      let few = few-firsts text text g in
      record {
        ones = o.part;
        firsts = g;
        lists = (exact-join party primary in_range text text sheet lent words others).complete (read_again room h) refl (joins-itself text xs g) (omega arith);
      }

  readable : whole.answer.number ≡ 0 →
      (xs : List Trigger) × (ys : List Condition) × HasReading (rule_call party primary) text sheet lent (length words) xs ys × (least_words ≤ length others)
  readable e =
      let a = (exact-join party primary in_range text text sheet lent words others).sound e in
      (a.triggers, a.conditions, a.read.one, a.read.two.room)

-- for every text, sheet, lent topics and buffers
pub itself : (party primary : ℕ) → primary ≤ last_adapter → (text sheet : List ℕ) (lent : List (List ℕ)) (words others : List ℕ) →
    JoinsItself party primary text sheet lent (length words) (length others) (join_of party primary text text sheet lent words others).joined
itself party primary in_range text sheet lent words others =
    record {
      accepted = λ h. without-repeats party primary in_range text sheet lent words others h;
      readable = readable party primary in_range text sheet lent words others;
    }
