-- The two sections and the whole rule: what is answered (document 01, questions 37 to 41).
use Rattle.std.specs.Prelude.{ℕ, zero, suc, List, [], ◌∷◌, ◌++◌, eqb}
use Rattle.text.specs.Choice.{pick}
use Rattle.text.specs.Literal.{ascii}
use Rattle.tokens.specs.Result.{Res, ok, bind, perhaps, refuse}
use Rattle.tokens.specs.Cursor.{Tok, is_word}
use Rattle.topics.specs.Topics.{fits}
use Rattle.sheet.specs.View.{View}
use Rattle.language.specs.Topics.{topic_of}
use Rattle.language.specs.Limits.{most_triggers, most_ands}
use Rattle.language.specs.Trigger.{trigger_at}
use Rattle.language.specs.Condition.{condition_at}
use Rattle.model.specs.declared.Name.{Name}
use Rattle.model.specs.declared.Trigger.{Trigger}
use Rattle.model.specs.declared.Condition.{Condition}

-- a form behind a word, as often as the word stands there; when it stands there once more than `most` times: refused with a number, at the word.
-- What is known of the earlier ones, s, goes into the form.
unfoldable pub repeated : {S A : Type 0} → (ℕ → Tok) → List ℕ → ℕ → (S → ℕ → Res A) → (S → A → S) → S → ℕ → ℕ → Res (List A)
repeated t word number form after s zero i = perhaps (is_word t word i) i (λ j. refuse number i) (ok [] i)
repeated t word number form after s (suc most) i =
    perhaps (is_word t word i) i
    (λ j. bind (form s j) (λ x k. bind (repeated t word number form after (after s x) most k) (λ xs l. ok (x ∷ xs) l))) (ok [] i)

-- what is asked of topics: the lent ones, and the bytes of a name
pub record Topics : Type 0 where
  pub lent : List (List ℕ)
  pub written : Name → List ℕ

-- document 02, §12: "then, after a following `is` got its 40, a new topic when eight or more others stand named with 66, at the word `mqtt`". The trigger
-- at i, whose first word that is, behind others that named these topics
unfoldable pub trigger_named : (ℕ → Tok) → View → (ℕ → Name) → Topics → ℕ → List (List ℕ) → ℕ → Res Trigger
trigger_named t view range topics fuel named i =
    bind (trigger_at t view range fuel i)
    (λ x j. pick (fits topics.lent named (topic_of topics.written x)) (ok x j) (refuse 66 i))

-- "Fourth `when` the last? 37, at the fifth. One `when` at all? 38."
unfoldable pub when_section : (ℕ → Tok) → View → (ℕ → Name) → Topics → ℕ → ℕ → Res (List Trigger)
when_section t view range topics fuel i =
    pick (is_word t (ascii "when") i)
    (repeated t (ascii "when") 37 (trigger_named t view range topics fuel) (λ named x. named ++ topic_of topics.written x) [] most_triggers i)
    (refuse 38 i)

-- "At most four conditions? 39, at the `and`."
unfoldable pub if_section : (ℕ → Tok) → View → (ℕ → Name) → ℕ → ℕ → Res (List Condition)
if_section t view range fuel i =
    perhaps (is_word t (ascii "if") i) i
    (λ j.
    bind (condition_at t view range fuel j)
    (λ y k. bind (repeated t (ascii "and") 39 (λ s. condition_at t view range fuel) (λ s y. s) (tt {0}) most_ands k) (λ ys l. ok (y ∷ ys) l)))
    (ok [] i)

-- the two lists of a rule
pub record Lists : Type 0 where
  pub triggers : List Trigger
  pub conditions : List Condition

-- "Text at an end after both sections? 41, at the next token."
unfoldable pub at_end : (ℕ → Tok) → List Trigger → List Condition → ℕ → Res Lists
at_end t xs ys i = pick (eqb (t i).kind 0) (ok (record { triggers = xs; conditions = ys }) i) (refuse 41 i)

unfoldable pub rule_at : (ℕ → Tok) → View → (ℕ → Name) → Topics → ℕ → Res Lists
rule_at t view range topics fuel =
    bind (when_section t view range topics fuel 0)
    (λ xs i. bind (if_section t view range fuel i) (λ ys j. at_end t xs ys j))
