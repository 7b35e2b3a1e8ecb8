-- What is lent decides only whether 66 is answered: a reading with some lent topics is one with any others, or these refuse the text with 66.
use Prim.Native.Nat.{ℕ, zero, suc, ◌+◌, ◌≤◌}
use native.Mathlib.Omega.{arith}
use mathlib.Core.Path.{◌≡◌, ◌∙◌, refl, sym, ap}
use mathlib.Core.Bool.{Bool, true, false}
use mathlib.Core.Logic.{◌⊎◌, inl, inr, ⊎_elim}
use mathlib.Core.List.{List, [], ◌++◌}
use lib.ListN.{length}
use borrow.Author.Tests.{le-ltb}
use Rattle.text.specs.Choice.{pick}
use Rattle.text.specs.Literal.{ascii}
use Rattle.tokens.specs.Cursor.{Tok, is_word, tokens}
use Rattle.tokens.specs.Ended.{record_words}
use Rattle.tokens.specs.Lex.{lex_text}
use Rattle.tokens.specs.Lexing.{Lexing, most_bytes, least_words}
use Rattle.tokens.specs.Record.{capacity}
use Rattle.tokens.specs.Result.{Res, ok, no, bind, perhaps, refuse}
use Rattle.tokens.specs.declared.cursor.Refusal.{Refusal}
use Rattle.sheet.specs.View.{View, seen}
use Rattle.sheet.specs.declared.Call.{Call}
use Rattle.topics.specs.Topics.{fits}
use Rattle.topics.specs.Ranges.{name_in}
use Rattle.model.specs.Limits.{last_adapter}
use Rattle.model.specs.Lists.{accepted_with, refused_with}
use Rattle.model.specs.declared.Answer.{Answer}
use Rattle.model.specs.declared.Condition.{Condition}
use Rattle.model.specs.declared.Name.{Name}
use Rattle.model.specs.declared.Trigger.{Trigger}
use Rattle.language.specs.Demand.{HasReading}
use Rattle.language.specs.Range.{range_of}
use Rattle.language.specs.Read.{parsed, topics_with, rule_in, on_accepted, anywhere, rule_of, by_primary, by_text, by_sheet, Outcome, read_of}
use Rattle.language.specs.Section.{repeated, Topics, trigger_named, when_section, Lists, rule_at}
use Rattle.language.specs.Topics.{topic_of}
use Rattle.language.specs.Trigger.{trigger_at}
use Rattle.language.proofs.AskedLaws.{lexed-complete, Passed, answering, Asked, before, reached, asked}
use Rattle.language.proofs.HabitLaws.{wide-accepts}
use Rattle.language.proofs.Theorem.{exact, passes, passed_reads, seeing-complete}

-- two answers: the same, or one of them refuses with 66
data But66 {A : Type 0} : Res A → Res A → Type 0 where
  same : (m : Res A) → But66 m m
  first : {r : Refusal} (n : Res A) → r.number ≡ 66 → But66 (no r) n
  second : (m : Res A) {r : Refusal} → r.number ≡ 66 → But66 m (no r)

but_bind : {A B : Type 0} {m n : Res A} (f g : A → ℕ → Res B) → But66 m n → ((x : A) (i : ℕ) → But66 (f x i) (g x i)) → But66 (bind m f) (bind n g)
but_bind f g (same (ok x i)) h = h x i
but_bind f g (same (no r)) h = same (no r)
but_bind f g (first n e) h = first (bind n g) e
but_bind f g (second m e) h = second (bind m f) e

but_pick : {A : Type 0} (t : Bool) {k l m n : Res A} → But66 k l → But66 m n → But66 (pick t k m) (pick t l n)
but_pick true h g = h
but_pick false h g = g

but_perhaps : {A : Type 0} (t : Bool) (i : ℕ) (f g : ℕ → Res A) (m : Res A) → But66 (f (i + 1)) (g (i + 1)) → But66 (perhaps t i f m) (perhaps t i g m)
but_perhaps true i f g m h = h
but_perhaps false i f g m h = same m

-- where one of two tests fails, that one's answer is 66
but_tested : {A : Type 0} (t u : Bool) (m : Res A) (i : ℕ) → But66 (pick t m (refuse 66 i)) (pick u m (refuse 66 i))
but_tested true true m i = same m
but_tested true false m i = second m refl
but_tested false u m i = first (pick u m (refuse 66 i)) refl

module _ {S A : Type 0} (t : ℕ → Tok) (word : List ℕ) (number : ℕ) (p q : S → ℕ → Res A) (after : S → A → S)
    (form : (s : S) (i : ℕ) → But66 (p s i) (q s i)) where
  but_repeated : (most : ℕ) (s : S) (i : ℕ) → But66 (repeated t word number p after s most i) (repeated t word number q after s most i)
  unfolding repeated
  but_repeated zero s i = same _
  but_repeated (suc most) s i =
      but_perhaps (is_word t word i) i _ _ _
      (but_bind _ _ (form s (i + 1)) (λ x k. but_bind _ _ (but_repeated most (after s x) k) (λ xs l. same _)))

module _ (t : ℕ → Tok) (view : View) (range : ℕ → Name) (written : Name → List ℕ) (fuel : ℕ) (lent more : List (List ℕ)) where
  abbrev one : Topics
  one = record { lent = lent; written = written }

  abbrev other : Topics
  other = record { lent = more; written = written }

  but_named : (named : List (List ℕ)) (i : ℕ) → But66 (trigger_named t view range one fuel named i) (trigger_named t view range other fuel named i)
  unfolding trigger_named
  but_named named i =
      but_bind _ _ (same (trigger_at t view range fuel i))
      (λ x j. but_tested (fits lent named (topic_of written x)) (fits more named (topic_of written x)) (ok x j) i)

  but_rule : But66 (rule_at t view range one fuel) (rule_at t view range other fuel)
  unfolding rule_at when_section
  but_rule =
      but_bind _ _
      (but_pick (is_word t (ascii "when") 0) (but_repeated t (ascii "when") 37 _ _ (λ named x. named ++ topic_of written x) but_named 4 [] 0) (same _))
      (λ xs i. same _)

-- an answer beside one that is accepted
data Or66 {A : Type 0} : Res A → A → ℕ → Type 0 where
  accepted : (x : A) (i : ℕ) → Or66 (ok x i) x i
  refused : {r : Refusal} (x : A) (i : ℕ) → r.number ≡ 66 → Or66 (no r) x i

never-no : {A X : Type 0} {x : A} {i : ℕ} {r : Refusal} → Res.no r ≡ ok x i → X
never-no e = let z : ◌≡◌ {A = ℕ} 0 1 = cc in absurd (omega arith)

beside : {A : Type 0} {m n : Res A} {x : A} {i : ℕ} → But66 m n → n ≡ ok x i → Or66 m x i
beside (same m) e = rw e (accepted _ _)
beside (first n k) e = refused _ _ k
beside (second m k) e = never-no e

-- judged on an accepted reading
judged : (l : Lexing) {m n : Res Lists} {lists : Lists} {i j : ℕ} → Or66 m lists i → Or66 n lists j →
    (n ≡ ok lists j) ⊎ ((parsed l (on_accepted m n)).number ≡ 66)
unfolding parsed on_accepted refused_with
judged l (refused x i e) h = inr e
judged l (accepted x i) (accepted y j) = inl refl
judged l (accepted x i) (refused y j e) = inr e

module _ {call : Call} (in_range : call.primary ≤ last_adapter) {text sheet : List ℕ} {more : List (List ℕ)} (words : List ℕ) {xs : List Trigger}
    {ys : List Condition} (h : HasReading call text sheet more (length words) xs ys) where
  abbrev view : View
  view = seen call sheet

  abbrev records : List ℕ
  records = record_words (lex_text text)

  -- what is asked before topics is asked whatever is lent
  passed : Passed call text sheet (length words)
  unfolding read_of accepted_with
  passed = by (asked call text sheet more words)
    where
      by : Asked call text sheet more words (answering call text sheet more words) → Passed call text sheet (length words)
      by (before e n) =
          absurd (n (ap (λ (o : Outcome). o.answer.number) (sym (e view)) ∙ ap (λ (a : Answer). a.number) ((exact call in_range text sheet more words).complete xs ys h)))
      by (reached p e) = p

  module _ (lent : List (List ℕ)) where
    answered : (read_of call text sheet lent words).answer ≡ parsed (lex_text text) (rule_of text records view lent)
    unfolding read_of by_sheet by_text by_primary
    answered =
        rw (
          le-ltb most_bytes (length text) passed.gives.short,
          le-ltb (length words) least_words passed.room,
          passed.sheet_passes,
          passed.own,
          passes passed.gives.octets,
          lexed-complete text view lent (lex_text text) passed.gives.finished,
        )

    rule-lent : (n : View) {lists : Lists} {j : ℕ} → rule_in text records n more ≡ ok lists j → Or66 (rule_in text records n lent) lists j
    rule-lent n e = beside (but_rule (tokens text records) n (range_of records) (name_in text) (capacity records) lent more) e

    pub read-or_66 : HasReading call text sheet lent (length words) xs ys ⊎ ((read_of call text sheet lent words).answer.number ≡ 66)
    unfolding rule_of
    read-or_66 =
        let (j, rule) = seeing-complete h in
        let wide = wide-accepts (tokens text records) view (range_of records) (topics_with text more) (capacity records) rule in
        ⊎_elim (λ e. inl (passed_reads passed e)) (λ e. inr (ap (λ (a : Answer). a.number) answered ∙ e))
        (judged (lex_text text) (rule-lent (anywhere view) wide) (rule-lent view rule))
