-- The sections and the whole rule: what is answered is a reading, and a reading is what is answered.
use Prim.Native.Nat.{ℕ, zero, suc, ◌+◌, ◌≤◌}
use native.Mathlib.Omega.{arith}
use mathlib.Core.Path.{◌≡◌, refl, sym, ap, ◌∙◌}
use mathlib.Core.Bool.{Bool, true, false}
use mathlib.Core.List.{List, [], ◌∷◌, ◌++◌}
use lib.ListN.{length}
use lib.Dec.{eqb}
use borrow.Author.Tests.{eqb-true, eq-eqb}
use Rattle.text.specs.Literal.{ascii}
use Rattle.text.specs.Part.{same_bytes}
use Rattle.tokens.specs.Result.{Res, ok, no}
use Rattle.tokens.specs.Cursor.{Tok, is_word}
use Rattle.sheet.specs.View.{View}
use Rattle.topics.specs.Topics.{Allowed, fits}
use Rattle.topics.proofs.AllowedLaws.{fits-append, fits-allowed}
use Rattle.text.proofs.Tests.{both}
use Rattle.tokens.specs.Grammar.{Word, a_word}
use Rattle.tokens.proofs.Okay.{Okay, bind_ok, pick-ok, perhaps-ok, mapped, word-kind, is_word_lem, word-yes, word-no, word_none}
use Rattle.language.specs.Trigger.{trigger_at}
use Rattle.language.specs.Condition.{condition_at}
use Rattle.language.specs.Section.{repeated, Topics, trigger_named, when_section, if_section, Lists, at_end, rule_at}
use Rattle.language.specs.Topics.{topic_of, topics_of}
use Rattle.language.specs.grammar.Trigger.{TriggerOf}
use Rattle.language.specs.grammar.Condition.{ConditionOf}
use Rattle.language.specs.grammar.Text.{Repeated, end, more, WhenSection, whens, joined, IfSection, no_if, conditions, ReadingWith, reading}
use Rattle.model.specs.declared.Name.{Name}
use Rattle.model.specs.declared.Trigger.{Trigger}
use Rattle.model.specs.declared.Condition.{Condition}
use Rattle.language.proofs.WordLaws.{End, StopsCondition, StopsTrigger, other-unsigned, other-days}
use Rattle.language.proofs.TriggerSound.{trigger-sound}
use Rattle.language.proofs.TriggerComplete.{trigger-complete}
use Rattle.language.proofs.ConditionSound.{condition-sound}
use Rattle.language.proofs.ConditionComplete.{condition-complete}

-- a test has one answer
one_answer : {b : Bool} → b ≡ true → b ≡ false → ⊥
one_answer {b} e f = let z : ◌≡◌ {A = ℕ} 0 1 = cc in omega arith

-- each entry of a list is fine by what is known of the earlier ones
pub data Kept {S A : Type 0} (after : S → A → S) (Fine : S → A → Type 0) : S → List A → Type 0 where
  none_kept : {s : S} → Kept after Fine s []
  more_kept : {s : S} {x : A} {xs : List A} → Fine s x → Kept after Fine (after s x) xs → Kept after Fine s (x ∷ xs)

-- a form behind a word
module _ (t : ℕ → Tok) (word : List ℕ) (number : ℕ) {S A : Type 0} (Form : ℕ → A → ℕ → Type 0) (form : S → ℕ → Res A) (after : S → A → S)
    (Fine : S → A → Type 0) where
  -- at most so many of them, and one at least where the word stands
  abbrev pub Few : ℕ → S → ℕ → List A → ℕ → Type 0
  Few most s i xs j =
      Repeated t word Form i xs j × (length xs ≤ most) × (is_word t word i ≡ true → 1 ≤ length xs) × Kept after Fine s xs

  pub repeated-sound : ((s : S) (i : ℕ) → Okay (λ x j. Form i x j × Fine s x) (form s i)) → (most : ℕ) (s : S) (i : ℕ) →
      Okay (Few most s i) (repeated t word number form after s most i)
  unfolding repeated
  repeated-sound sound zero s i =
      perhaps-ok (Few zero s i) (is_word t word i) i _ _ (λ e. tt) (λ e. (end, omega arith, (λ f. absurd (one_answer f e)), none_kept))
  repeated-sound sound (suc most) s i =
      let G = Few (suc most) s i in
      perhaps-ok G (is_word t word i) i _ _
      (λ e.
      bind_ok G (form s (i + 1)) _ (sound s (i + 1))
      (λ x k h.
      bind_ok G (repeated t word number form after (after s x) most k) _ (repeated-sound sound most (after s x) k)
      (λ xs l g.
      let few = g.1 in
      (more (is_word_lem t word i e) h.0 g.0, omega arith, (λ f. omega arith), more_kept h.1 g.3))))
      (λ e. (end, omega arith, (λ f. absurd (one_answer f e)), none_kept))

  -- the list goes on up to a token that is not the word, and each form is answered where what stands behind it lets it end there
  module _ (Behind : ℕ → Type 0) (complete : (s : S) (i j : ℕ) (x : A) → Behind j → Form i x j → Fine s x → form s i ≡ ok x j)
      (next : (i j : ℕ) → Word t word i j → Behind i) where
    -- behind a form stands the word again, or what stands behind the list
    pub goes_on : {i j : ℕ} {xs : List A} → Behind j → Repeated t word Form i xs j → Behind i
    goes_on b end = b
    goes_on b (more w h r) = next _ _ w

    pub repeated-complete : {i j : ℕ} {xs : List A} (most : ℕ) {s : S} → length xs ≤ most → is_word t word j ≡ false → Behind j →
        Repeated t word Form i xs j → Kept after Fine s xs → repeated t word number form after s most i ≡ ok xs j
    unfolding repeated
    repeated-complete zero l n b end kept = rw (n)
    repeated-complete (suc most) l n b end kept = rw (n)
    repeated-complete zero l n b (more w h r) kept = absurd (omega arith)
    repeated-complete {i = i} (suc most) {s} l n b (more {k = k} {x = x} (a_word p q) h r) (more_kept fine kept) =
        rw (word-yes t (a_word p q), complete s _ k x (goes_on b r) h fine, repeated-complete {i = k} most (omega arith) n b r kept)

-- behind a trigger stand `when`, `if` or the end, behind a condition `and` or the end
word-stops : {t : ℕ → Tok} {word : List ℕ} {i j : ℕ} → same_bytes word (ascii "on") ≡ false → same_bytes word (ascii "is") ≡ false →
    Word t word i j → StopsTrigger t i
word-stops {t} e f w =
    record {
      unsigned = other-unsigned t refl refl (word-kind w);
      days = other-days t refl refl (word-kind w);
      no_on = word-no t (ascii "on") e w;
      no_is = word-no t (ascii "is") f w;
    }

end-stops : (t : ℕ → Tok) (i : ℕ) → (t i).kind ≡ 0 → StopsTrigger t i
end-stops t i e =
    record {
      unsigned = other-unsigned t refl refl e;
      days = other-days t refl refl e;
      no_on = word_none t (ascii "on") refl e;
      no_is = word_none t (ascii "is") refl e;
    }

stops-condition : {t : ℕ → Tok} {i : ℕ} → StopsTrigger t i → StopsCondition t i
stops-condition s = record { unsigned = s.unsigned; days = s.days }

-- the lists in an answer
abbrev triggers_in_lem : Res Lists → List Trigger
triggers_in_lem (ok lists j) = lists.triggers
triggers_in_lem (no r) = []

abbrev conditions_in_lem : Res Lists → List Condition
conditions_in_lem (ok lists j) = lists.conditions
conditions_in_lem (no r) = []

-- conditions are asked nothing of the earlier ones
abbrev AnyCondition : Unit {0} → Condition → Type 0
AnyCondition s y = Unit {0}

abbrev same-state : Unit {0} → Condition → Unit {0}
same-state s y = s

all-kept : (s : Unit {0}) (ys : List Condition) → Kept same-state AnyCondition s ys
all-kept s [] = none_kept
all-kept s (y ∷ ys) = more_kept tt (all-kept s ys)

module _ (t : ℕ → Tok) (view : View) (range : ℕ → Name) (topics : Topics) (fuel : ℕ) where
  -- a trigger is fine where its topic is not one too many behind those that are named
  abbrev FineTopic : List (List ℕ) → Trigger → Type 0
  FineTopic named x = fits topics.lent named (topic_of topics.written x) ≡ true

  abbrev with_topic_lem : List (List ℕ) → Trigger → List (List ℕ)
  with_topic_lem named x = named ++ topic_of topics.written x

  named-sound : (named : List (List ℕ)) (i : ℕ) →
      Okay (λ x j. TriggerOf t view range i x j × FineTopic named x) (trigger_named t view range topics fuel named i)
  unfolding trigger_named
  named-sound named i =
      let G : Trigger → ℕ → Type 0 = λ x j. TriggerOf t view range i x j × FineTopic named x in
      bind_ok G (trigger_at t view range fuel i) _ (trigger-sound t view range fuel i)
      (λ x j h. pick-ok G (fits topics.lent named (topic_of topics.written x)) _ _ (λ e. (h, e)) (λ e. tt))

  -- the triggers, and that their topics are not too many
  abbrev pub WhensKept : ℕ → List Trigger → ℕ → Type 0
  WhensKept i xs j = WhenSection t view range i xs j × Kept with_topic_lem FineTopic [] xs

  pub when-sound : (i : ℕ) → Okay (WhensKept i) (when_section t view range topics fuel i)
  unfolding when_section
  when-sound i =
      let G = WhensKept i in
      let form = trigger_named t view range topics fuel in
      pick-ok G (is_word t (ascii "when") i) _ _
      (λ e.
      mapped G (repeated t (ascii "when") 37 form with_topic_lem [] 4 i)
      (repeated-sound t (ascii "when") 37 (TriggerOf t view range) form with_topic_lem FineTopic named-sound 4 [] i)
      (λ xs j h. (whens h.0 (h.2 e) h.1, h.3)))
      (λ e. tt)

  pub if_sound : (i : ℕ) → Okay (IfSection t view range i) (if_section t view range fuel i)
  unfolding if_section
  if_sound i =
      let G = IfSection t view range i in
      let form = condition_at t view range fuel in
      let sound = condition-sound t view range fuel in
      perhaps-ok G (is_word t (ascii "if") i) i _ _
      (λ e.
      bind_ok G (form (i + 1)) _ (sound (i + 1))
      (λ y k h.
      bind_ok G (repeated t (ascii "and") 39 (λ s. form) same-state tt 3 k) _
      (repeated-sound t (ascii "and") 39 (ConditionOf t view range) (λ s. form) same-state AnyCondition
      (λ s i. mapped _ (form i) (sound i) (λ y j h. (h, tt))) 3 tt k)
      (λ ys l g. conditions (is_word_lem t (ascii "if") i e) (joined h g.0 g.1))))
      (λ e. no_if)

  -- topics that are judged one by one fit, and those that fit are kept
  kept-fits : {named : List (List ℕ)} {xs : List Trigger} → Kept with_topic_lem FineTopic named xs →
      fits topics.lent named (topics_of topics.written xs) ≡ true
  unfolding topics_of fits
  kept-fits none_kept = refl
  kept-fits {named} (more_kept {x = x} {xs = xs} e kept) =
      rw (fits-append topics.lent named (topic_of topics.written x) (topics_of topics.written xs), e, kept-fits kept)

  fits_kept : (named : List (List ℕ)) (xs : List Trigger) → fits topics.lent named (topics_of topics.written xs) ≡ true →
      Kept with_topic_lem FineTopic named xs
  unfolding topics_of
  fits_kept named [] e = none_kept
  fits_kept named (x ∷ xs) e =
      let b = both (fits topics.lent named (topic_of topics.written x)) (rw fits-append at e) in
      more_kept b.0 (fits_kept (with_topic_lem named x) xs b.1)

  -- what is answered for the whole rule is a reading of all its tokens, and its topics are allowed
  abbrev pub ReadWith : List Trigger → List Condition → Type 0
  ReadWith xs ys = ReadingWith t view range xs ys × Allowed topics.lent (topics_of topics.written xs)

  pub rule-sound : Okay (λ lists j. ReadWith lists.triggers lists.conditions) (rule_at t view range topics fuel)
  unfolding rule_at at_end
  rule-sound =
      let G : Lists → ℕ → Type 0 = λ lists j. ReadWith lists.triggers lists.conditions in
      bind_ok G (when_section t view range topics fuel 0) _ (when-sound 0)
      (λ xs i h.
      bind_ok G (if_section t view range fuel i) _ (if_sound i)
      (λ ys j g.
      pick-ok G (eqb (t j).kind 0) _ _
      (λ e. (reading h.0 g (eqb-true _ _ e), (fits-allowed topics.lent (topics_of topics.written xs)).0 (kept-fits h.1)))
      (λ e. tt)))

  -- what may stand behind the `when` section
  data BehindWhen (i : ℕ) : Type 0 where
    an_if : {j : ℕ} → Word t (ascii "if") i j → BehindWhen i
    the_end : (t i).kind ≡ 0 → BehindWhen i

  when_stops : {i : ℕ} → BehindWhen i → StopsTrigger t i
  unfolding same_bytes
  when_stops (an_if w) = word-stops refl refl w
  when_stops (the_end e) = end-stops t _ e

  no_when : {i : ℕ} → BehindWhen i → is_word t (ascii "when") i ≡ false
  unfolding same_bytes
  no_when (an_if w) = word-no t (ascii "when") refl w
  no_when (the_end e) = word_none t (ascii "when") refl e

  module _ (past : End t fuel) where
    named_complete : (named : List (List ℕ)) (i j : ℕ) (x : Trigger) → StopsTrigger t j → TriggerOf t view range i x j → FineTopic named x →
        trigger_named t view range topics fuel named i ≡ ok x j
    unfolding trigger_named
    named_complete named i j x s g e = rw (trigger-complete past s g, e)

    when_complete : {i j : ℕ} {xs : List Trigger} → BehindWhen j → WhenSection t view range i xs j → Kept with_topic_lem FineTopic [] xs →
        when_section t view range topics fuel i ≡ ok xs j
    unfolding when_section same_bytes
    when_complete b (whens end some few) kept = absurd (omega arith)
    when_complete b (whens (more (a_word p q) h r) some few) kept =
        rw (word-yes t (a_word p q))
        (repeated-complete t (ascii "when") 37 (TriggerOf t view range) (trigger_named t view range topics fuel) with_topic_lem FineTopic (StopsTrigger t)
        named_complete (λ i j w. word-stops refl refl w) 4 few (no_when b) (when_stops b) (more (a_word p q) h r) kept)

    pub if_complete : {i j : ℕ} {ys : List Condition} → (t j).kind ≡ 0 → IfSection t view range i ys j →
        if_section t view range fuel i ≡ ok ys j
    unfolding if_section same_bytes
    if_complete e no_if = rw (word_none t (ascii "if") refl e)
    if_complete {j = j} e (conditions (a_word p q) (joined h r few)) =
        let s : StopsCondition t j = stops-condition (end-stops t j e) in
        let complete : (s : Unit {0}) (i j : ℕ) (x : Condition) → StopsCondition t j → ConditionOf t view range i x j → AnyCondition s x →
        condition_at t view range fuel i ≡ ok x j =
        λ s i j x u g a. condition-complete past u g in
        let form : Unit {0} → ℕ → Res Condition = λ s. condition_at t view range fuel in
        let next : (i j : ℕ) → Word t (ascii "and") i j → StopsCondition t i = λ i j w. stops-condition (word-stops refl refl w) in
        rw (
          word-yes t (a_word p q),
          complete tt _ _ _ (goes_on t (ascii "and") 39 (ConditionOf t view range) form same-state AnyCondition (StopsCondition t) complete next s r) h tt,
          repeated-complete t (ascii "and") 39 (ConditionOf t view range) form same-state AnyCondition (StopsCondition t) complete next 3 few
              (word_none t (ascii "and") refl e) s r (all-kept tt _),
        )

    behind_when : {i j : ℕ} {ys : List Condition} → (t j).kind ≡ 0 → IfSection t view range i ys j → BehindWhen i
    behind_when e no_if = the_end e
    behind_when e (conditions w h) = an_if w

    -- a reading whose topics are allowed is what is answered
    pub rule_complete : {xs : List Trigger} {ys : List Condition} → ReadWith xs ys →
        (j : ℕ) × (rule_at t view range topics fuel ≡ ok (record { triggers = xs; conditions = ys }) j)
    unfolding rule_at at_end
    rule_complete {xs} (reading {j = j} h g e, allowed) =
        let kept = fits_kept [] xs ((fits-allowed topics.lent (topics_of topics.written xs)).1 allowed) in
        (j, rw (when_complete (behind_when e g) h kept, if_complete e g, eq-eqb (t j).kind 0 e))

    -- two of them are equal
    pub one_reading : {xs us : List Trigger} {ys vs : List Condition} → ReadWith xs ys → ReadWith us vs → (xs ≡ us) × (ys ≡ vs)
    one_reading h g =
        let same = sym (rule_complete h).1 ∙ (rule_complete g).1 in
        (ap triggers_in_lem same, ap conditions_in_lem same)
