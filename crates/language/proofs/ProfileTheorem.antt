-- The shop profile (specs/Profile.antt), of the definition of the whole call (specs/Read.antt): it answers as the default call, or refuses the earliest
-- of the forms that it leaves out.
use Prim.Native.Nat.{ℕ, ◌<◌, ◌≤◌}
use native.Mathlib.Omega.{arith}
use native.Mathlib.Decide.{dec_lt}
use mathlib.Core.Path.{◌≡◌, refl, sym, ap, ◌∙◌, subst}
use mathlib.Core.Bool.{Bool, true, false, false≢true}
use mathlib.Core.List.{List}
use lib.ListN.{length}
use lib.Dec.{eqb}
use borrow.Author.Tests.{eq-eqb, ne_eqb}
use Rattle.text.specs.Choice.{pick}
use Rattle.text.specs.Literal.{ascii}
use Rattle.text.specs.Part.{same_bytes}
use Rattle.tokens.specs.declared.cursor.Refusal.{Refusal}
use Rattle.tokens.specs.Result.{Res, ok, no, refuse}
use Rattle.tokens.specs.Kind.{INTEGER}
use Rattle.tokens.specs.Record.{capacity}
use Rattle.tokens.specs.Cursor.{Tok, tokens}
use Rattle.tokens.specs.Lex.{lex_text, written_from}
use Rattle.tokens.specs.Ended.{record_words}
use Rattle.tokens.proofs.Okay.{token-kind, word-kind, kind-yes, kind-no, not-kind, word-yes, word-no}
use Rattle.sheet.specs.View.{View, may_repeat, any_form, seen, own_primary}
use Rattle.model.specs.Lists.{accepted_with, refused_with}
use Rattle.references.proofs.NumberLaws.{Refuses, refusal-least}
use Rattle.references.proofs.HabitLaws.{Calls, seen_one, Offence, id_at, broadcast_at, event_at_rule, Compared, same, repeat, offends}
use Rattle.language.specs.Range.{range_of}
use Rattle.language.specs.Section.{Lists}
use Rattle.language.specs.Read.{topics_with, rule_in, on_accepted, anywhere, rule_of, parsed, Outcome, read_of, rule_call, shop_call}
use Rattle.language.specs.Profile.{except, offence_number, Offends, Earliest, Profiled, refused, named, offence}
use Rattle.language.proofs.AskedLaws.{Passed, parsing, Asked, before, reached, asked}
use Rattle.language.proofs.HabitLaws.{under, accepted-by, compared-rule}
use Rattle.language.proofs.RefusalLaws.{call-refuses}
use Rattle.language.proofs.Theorem.{passed_reads, seeing-complete}

-- by its token a form has its number
offence_number_lem : (t : ℕ → Tok) {k n : ℕ} → Offence t k n → n ≡ offence_number t k
unfolding offence_number same_bytes
offence_number_lem t (id_at h) = rw (kind-yes t refl (token-kind h))
offence_number_lem t {k} (broadcast_at w) = rw (kind-no t INTEGER k (not-kind t INTEGER refl (word-kind w)), word-yes t w)
offence_number_lem t {k} (event_at_rule w) = rw (kind-no t INTEGER k (not-kind t INTEGER refl (word-kind w)), word-no t (ascii "broadcast") refl w)

-- where the first refuses a form at k and the third, which allows them anywhere, accepts: what the second answers, by what it allows
record At (one : ℕ → Bool) (k : ℕ) (u v : Res Lists) : Type 0 where
  refuses : one k ≡ false → (r : Refusal) × (u ≡ no r)
  accepts : ((l : ℕ) → k ≤ l → one l ≡ true) → u ≡ v

-- the token of a refusal
abbrev token_in_lem : Res Lists → ℕ
token_in_lem (ok lists j) = 0
token_in_lem (no r) = r.token

offence-at : {t : ℕ → Tok} {view : View} {one : ℕ → Bool} {more : (k : ℕ) → view.allows k ≡ true → one k ≡ true} {x u v : Res Lists} →
    Compared t (under view one more) 0 x u v → {k n : ℕ} → x ≡ refuse n k → {lists : Lists} {j : ℕ} → v ≡ ok lists j → At one k u v
offence-at (same h) e f = absurd (let z : ◌≡◌ {A = ℕ} 0 1 = cc in omega arith)
offence-at (repeat n a b h) e f = absurd (false≢true (sym a ∙ b))
offence-at {one = one} {u = u} {v = v} (offends l g a r h) e f =
    subst (λ (p : ℕ). At one p u v) (ap token_in_lem e) (record { refuses = λ d. (_, r d); accepts = h.agree })

one_answer : {m : Res Lists} {lists : Lists} {j : ℕ} {r : Refusal} → m ≡ ok lists j → m ≡ no r → ⊥
one_answer e d = let z : ◌≡◌ {A = ℕ} 0 1 = cc in omega arith

-- what is answered for the rule in the records, with what is seen
abbrev answered : List ℕ → List (List ℕ) → View → Res Lists
answered text lent view = rule_in text (record_words (lex_text text)) view lent

-- at every token but one
abbrev all_but : ℕ → ℕ → Bool
all_but k i = pick (eqb i k) false true

-- the first allows none of the forms
module _ (text : List ℕ) (lent : List (List ℕ)) (view : View) (none : (k : ℕ) → view.allows k ≡ false) where
  abbrev calls : (ℕ → Bool) → Calls
  calls one = under view one (λ k e. absurd (false≢true (sym (none k) ∙ e)))

  compared : (one : ℕ → Bool) →
      Compared (tokens text (record_words (lex_text text))) (calls one) 0 (answered text lent view) (answered text lent (seen_one (calls one)))
      (answered text lent (anywhere view))
  compared one =
      let records = record_words (lex_text text) in
      compared-rule (tokens text records) (calls one) (range_of records) (topics_with text lent) (capacity records)

  -- where it accepts, a call that allows them at every token but k does
  accepted_but : (k : ℕ) {lists : Lists} {j : ℕ} → answered text lent view ≡ ok lists j → answered text lent (except k (anywhere view)) ≡ ok lists j
  accepted_but k e = accepted-by (compared (all_but k)) e

  -- where it refuses a form at k, and a call that allows them anywhere accepts
  module _ {k n : ℕ} (e : answered text lent view ≡ refuse n k) {lists : Lists} {j : ℕ} (f : answered text lent (anywhere view) ≡ ok lists j) where
    refused_but : (r : Refusal) × (answered text lent (except k (anywhere view)) ≡ no r)
    refused_but = (offence-at (compared (all_but k)) e f).refuses (rw (eq-eqb k k refl))

    accepted-before : (l : ℕ) → l < k → answered text lent (except l (anywhere view)) ≡ ok lists j
    accepted-before l h = (offence-at (compared (all_but l)) e f).accepts (λ i m. rw (ne_eqb i l (λ z. omega arith))) ∙ f

module _ (party primary : ℕ) (text sheet : List ℕ) (lent : List (List ℕ)) (words : List ℕ) where
  abbrev full : View
  full = seen (rule_call party primary) sheet

  abbrev strict : View
  strict = seen (shop_call party primary) sheet

  -- what the shop call does, by the answers with both views
  abbrev ProfiledBy : Res Lists → Res Lists → Type 0
  ProfiledBy m s =
      Profiled party primary text sheet lent (length words)
      (record { answer = parsed (lex_text text) (on_accepted m m); buffer = written_from 0 words (lex_text text) })
      (record { answer = parsed (lex_text text) (on_accepted m s); buffer = written_from 0 words (lex_text text) })

  module _ (passed : Passed (rule_call party primary) text sheet (length words)) where
    -- refused at k: a form stands there, and none before
    earliest : {k n : ℕ} {lists : Lists} {j : ℕ} → answered text lent full ≡ ok lists j → answered text lent strict ≡ refuse n k →
        Earliest party primary text sheet lent (length words) k
    unfolding seen may_repeat any_form
    earliest {k} {lists = lists} e d =
        record {
          offends =
              record {
                triggers = lists.triggers;
                conditions = lists.conditions;
                reads = passed_reads passed e;
                needed = λ xs ys h. one_answer (seeing-complete h).1 (refused_but text lent strict (λ i. refl) d e).1;
              };
          first = λ l o. not-before l o (dec_lt l k);
        }
      where
        not-before : (l : ℕ) → Offends party primary text sheet lent (length words) l → Dec (l < k) → k ≤ l
        not-before l o (yes h) = absurd (o.needed _ _ (passed_reads passed (accepted-before text lent strict (λ i. refl) d e l h)))
        not-before l o (Dec.no h) = omega arith

    -- the rule is answered alike, or refused for a form
    rule-profiled : {more : (k : ℕ) → strict.allows k ≡ true → ◌≡◌ {A = Bool} true true} {s u : Res Lists} (m : Res Lists) →
        answered text lent full ≡ m → answered text lent strict ≡ s → Compared (tokens text (record_words (lex_text text))) (under strict (λ k. true) more) 0 s u m →
        ProfiledBy m s
    unfolding seen may_repeat any_form rule_of on_accepted parsed accepted_with refused_with Refuses
    rule-profiled (ok lists j) e d (same h) = named refl (λ k o. o.needed _ _ (passed_reads passed (accepted_but text lent strict (λ i. refl) k d)))
    rule-profiled (ok lists j) e d (repeat n a b h) = absurd (false≢true (sym a ∙ b))
    rule-profiled (ok lists j) e d (offends {k} l f a r h) =
        rw (offence_number_lem (tokens text (record_words (lex_text text))) f) (offence {k = k} (earliest e d))
    rule-profiled (Res.no r) e d c =
        let refuses = subst (λ m. Refuses (on_accepted m m)) e (call-refuses text (record_words (lex_text text)) full lent) in
        let some = refusal-least r.number refuses in
        refused (λ z. omega arith)

    -- the rule is parsed
    parsed-profiled : Profiled party primary text sheet lent (length words) (parsing text lent words full) (parsing text lent words strict)
    unfolding rule_of seen may_repeat any_form
    parsed-profiled = rule-profiled (answered text lent full) refl refl (compared text lent strict (λ k. refl) (λ k. true))

  asked-profiled : {f : View → Outcome} → Asked (rule_call party primary) text sheet lent words f →
      Profiled party primary text sheet lent (length words) (f full) (f strict)
  asked-profiled (before e n) = rw (e full, e strict) (refused n)
  asked-profiled (reached p e) = rw (e full, e strict) (parsed-profiled p)

-- the shop profile: for every party, primary adapter, text, sheet, lent topics and buffer
pub profiled : (party primary : ℕ) (text sheet : List ℕ) (lent : List (List ℕ)) (words : List ℕ) →
    Profiled party primary text sheet lent (length words) (read_of (rule_call party primary) text sheet lent words)
    (read_of (shop_call party primary) text sheet lent words)
unfolding read_of own_primary
profiled party primary text sheet lent words = asked-profiled party primary text sheet lent words (asked (rule_call party primary) text sheet lent words)
