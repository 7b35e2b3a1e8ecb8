-- Joining in the words of document 02, §3, apart from how it is done: which pairs of texts are accepted, and with which lists. proofs/Theorem.antt shows it of the definition of the
-- call (Join.antt), and `join` promises it of the code. What follows for whoever joins two rules: each trigger stands there once, and in which order (proofs/OnceLaws.antt), what becomes
-- of a rule that is joined with itself (ItselfLaws.antt), and whose refusal is answered (TurnLaws.antt).
use Rattle.std.specs.Prelude.{ℕ, ◌≤◌, ◌≡◌, List, [], ◌∷◌, ◌++◌, length}
use Rattle.tokens.specs.Lexing.{least_words}
use Rattle.sheet.specs.Sheet.{well_formed, sheet_check}
use Rattle.sheet.specs.Party.{Agree}
use Rattle.topics.specs.Ranges.{name_in}
use Rattle.model.specs.Lists.{refused_with}
use Rattle.model.specs.declared.Trigger.{Trigger}
use Rattle.model.specs.declared.Condition.{Condition}
use Rattle.language.specs.Limits.{most_triggers}
use Rattle.language.specs.Topics.{topics_of}
use Rattle.language.specs.Read.{Outcome, read_of, rule_call}
use Rattle.language.specs.Demand.{HasReading}
use Rattle.language.specs.Same.{SameTrigger, SameConditions}
use Rattle.join.specs.Join.{Taken, taken_from, text_of, accepted_join, refused_join, Join, join_of}
use Rattle.join.specs.declared.Joined.{Joined}

-- a list, and what is left of it when some entries are left out
pub data SomeOf {A : Type 0} : List A → List A → Type 0 where
  nothing : SomeOf [] []
  stays : {x : A} {xs part : List A} → SomeOf xs part → SomeOf (x ∷ xs) (x ∷ part)
  goes : {x : A} {xs part : List A} → SomeOf xs part → SomeOf (x ∷ xs) part

module _ (first second : List ℕ) where
  -- "Equality is by record, names and other strings by bytes": each has its names in its own text
  abbrev pub SameTaken : Taken → Taken → Type 0
  SameTaken x y = SameTrigger (text_of first second x.from) (text_of first second y.from) x.trigger y.trigger

  -- one of these is the same
  pub data Among (x : Taken) : List Taken → Type 0 where
    here : {y : Taken} {ys : List Taken} → SameTaken y x → Among x (y ∷ ys)
    later : {y : Taken} {ys : List Taken} → Among x ys → Among x (y ∷ ys)

  -- those of a row of triggers to which none before is the same, in their order; `before` stand before the row
  pub data Firsts : List Taken → List Taken → List Taken → Type 0 where
    end : {before : List Taken} → Firsts before [] []
    new : {before rest kept : List Taken} {x : Taken} → (Among x before → ⊥) → Firsts (before ++ x ∷ []) rest kept → Firsts before (x ∷ rest) (x ∷ kept)
    again : {before rest kept : List Taken} {x : Taken} → Among x before → Firsts (before ++ x ∷ []) rest kept → Firsts before (x ∷ rest) kept

  -- "the first's triggers, then those of the second that are not yet there, repeats dropped throughout"
  abbrev pub JoinsTo : List Trigger → List Trigger → List Taken → Type 0
  JoinsTo xs us kept = Firsts [] (taken_from 1 xs ++ taken_from 2 us) kept

  -- there is one list, and only one, that they join to
  pub record OneJoin (xs us : List Trigger) : Type 0 where
    pub kept : List Taken
    pub joins : JoinsTo xs us kept
    pub no_other : {other : List Taken} → JoinsTo xs us other → other ≡ kept

  -- exactly one of these is the same
  pub data Once (x : Taken) : List Taken → Type 0 where
    only : {y : Taken} {ys : List Taken} → SameTaken y x → (Among x ys → ⊥) → Once x (y ∷ ys)
    behind : {y : Taken} {ys : List Taken} → (SameTaken y x → ⊥) → Once x ys → Once x (y ∷ ys)

  -- "A trigger stands in the joined list exactly once if in either, else not at all"
  pub record OnceEach (xs us : List Trigger) (kept : List Taken) : Type 0 where
    pub in_first : (x : Taken) → Among x (taken_from 1 xs) → Once x kept
    pub in_second : (x : Taken) → Among x (taken_from 2 us) → Once x kept
    pub in_neither : (x : Taken) → (Among x (taken_from 1 xs) → ⊥) → (Among x (taken_from 2 us) → ⊥) → Among x kept → ⊥

  -- "the first's triggers, then those of the second that are not yet there": each text's in its own order. What the first has is taken from the first
  pub record InOrder (xs us : List Trigger) (kept : List Taken) : Type 0 where
    pub ones : List Trigger
    pub twos : List Trigger
    pub parts : kept ≡ taken_from 1 ones ++ taken_from 2 twos
    pub first_order : SomeOf xs ones
    pub second_order : SomeOf us twos
    pub all_first : (x : Taken) → Among x (taken_from 1 xs) → Among x (taken_from 1 ones)
    pub not_yet : (x : Taken) → Among x (taken_from 2 twos) → Among x (taken_from 1 xs) → ⊥

-- both texts have readings by the default call; "the first text's topics count as earlier for the second" (§12)
pub record BothRead (party primary : ℕ) (first second sheet : List ℕ) (lent : List (List ℕ)) (size other : ℕ) (xs us : List Trigger) (ys vs : List Condition) : Type 0 where
  pub one : HasReading (rule_call party primary) first sheet lent size xs ys
  pub two : HasReading (rule_call party primary) second sheet (lent ++ topics_of (name_in first) xs) other us vs

module _ (party primary : ℕ) (first second sheet : List ℕ) (lent : List (List ℕ)) (size other : ℕ) where
  -- an accepted answer
  pub record AcceptsJoin (answer : Joined) : Type 0 where
    pub triggers : List Trigger
    pub others : List Trigger
    pub conditions : List Condition
    pub same : List Condition
    pub read : BothRead party primary first second sheet lent size other triggers others conditions same
    pub equal : SameConditions first second conditions same
    pub kept : List Taken
    pub joins : JoinsTo first second triggers others kept
    pub few : length kept ≤ most_triggers
    pub lists : answer ≡ accepted_join kept conditions

  -- what two readings are answered with
  module _ (answer : Joined) where
    pub record ExactJoin : Type 0 where
      pub one : {xs us : List Trigger} {ys vs : List Condition} → BothRead party primary first second sheet lent size other xs us ys vs → OneJoin first second xs us
      pub sound : answer.answer.number ≡ 0 → AcceptsJoin answer
      pub complete : {xs us : List Trigger} {ys vs : List Condition} {kept : List Taken} → BothRead party primary first second sheet lent size other xs us ys vs →
          SameConditions first second ys vs → JoinsTo first second xs us kept → length kept ≤ most_triggers → answer ≡ accepted_join kept ys
      -- "refuses two condition lists that differ in entries or order with 51"
      pub differ : {xs us : List Trigger} {ys vs : List Condition} → BothRead party primary first second sheet lent size other xs us ys vs →
          (SameConditions first second ys vs → ⊥) → answer ≡ refused_join 0 (refused_with 51 0 0 0)
      -- "then more than four triggers left with 52"
      pub many : {xs us : List Trigger} {ys vs : List Condition} {kept : List Taken} → BothRead party primary first second sheet lent size other xs us ys vs →
          SameConditions first second ys vs → JoinsTo first second xs us kept → (length kept ≤ most_triggers → ⊥) → answer ≡ refused_join 0 (refused_with 52 0 0 0)

-- the triggers of one text, "repeats dropped throughout", all taken from the first; "the first's conditions are kept"
pub record WithoutRepeats (text : List ℕ) (xs : List Trigger) (ys : List Condition) (answer : Joined) : Type 0 where
  pub ones : List Trigger
  pub firsts : Firsts text text [] (taken_from 1 xs) (taken_from 1 ones)
  pub lists : answer ≡ accepted_join (taken_from 1 ones) ys

-- a rule joined with itself is accepted exactly if it has a reading and there is room for its records twice, whatever its topics: "the first text's topics count as
-- earlier for the second" (§12)
pub record JoinsItself (party primary : ℕ) (text sheet : List ℕ) (lent : List (List ℕ)) (size other : ℕ) (answer : Joined) : Type 0 where
  pub accepted : {xs : List Trigger} {ys : List Condition} → HasReading (rule_call party primary) text sheet lent size xs ys → least_words ≤ other →
      WithoutRepeats text xs ys answer
  pub readable : answer.answer.number ≡ 0 →
      (xs : List Trigger) × (ys : List Condition) × HasReading (rule_call party primary) text sheet lent size xs ys × (least_words ≤ other)

-- "The reader's refusal of the first text comes first (second buffer untouched), then that of the second; the answer says which text (else 0)"
module _ (party primary : ℕ) (first second sheet : List ℕ) (lent : List (List ℕ)) (words others : List ℕ) where
  abbrev pub read_first : Outcome
  read_first = read_of (rule_call party primary) first sheet lent words

  -- behind a first text with these triggers
  abbrev pub read_second : List Trigger → Outcome
  read_second xs = read_of (rule_call party primary) second sheet (lent ++ topics_of (name_in first) xs) others

  -- neither is refused by the reader
  pub record Unrefused (join : Join) (xs : List Trigger) : Type 0 where
    pub neither : join.joined.which ≡ 0
    pub first_words : join.first_buffer ≡ read_first.buffer
    pub second_words : join.second_buffer ≡ (read_second xs).buffer

  -- what is answered, and the words of both buffers at exit
  pub record InTurn (join : Join) : Type 0 where
    pub first_refused : ((xs : List Trigger) (ys : List Condition) → HasReading (rule_call party primary) first sheet lent (length words) xs ys → ⊥) →
        join ≡ record { joined = refused_join 1 read_first.answer; first_buffer = read_first.buffer; second_buffer = others }
    pub second_refused : {xs : List Trigger} {ys : List Condition} → HasReading (rule_call party primary) first sheet lent (length words) xs ys →
        ((us : List Trigger) (vs : List Condition) → HasReading (rule_call party primary) second sheet (lent ++ topics_of (name_in first) xs) (length others) us vs → ⊥) →
        join ≡ record { joined = refused_join 2 (read_second xs).answer; first_buffer = read_first.buffer; second_buffer = (read_second xs).buffer }
    pub unrefused : {xs us : List Trigger} {ys vs : List Condition} → BothRead party primary first second sheet lent (length words) (length others) xs us ys vs →
        Unrefused join xs

-- §6, "For two accepted sheets that agree on which adapters are the party's, and on those adapters' rows in their order …, the party's call gives the same answer":
-- the answer of joining, and every word of both buffers
abbrev pub IsolatedJoin : Type 0
IsolatedJoin =
    (party primary : ℕ) (first second s t : List ℕ) (lent : List (List ℕ)) (words others : List ℕ) → sheet_check s ≡ well_formed → sheet_check t ≡ well_formed →
    Agree party s t → join_of party primary first second s lent words others ≡ join_of party primary first second t lent words others
