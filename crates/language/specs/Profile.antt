-- The shop profile, document 02, §9: "What the profile accepts is what the full reader accepts, less those forms, with equal lists. It refuses a numbered
-- reference with 57, broadcast with 58, an `event` reading with 59, at the id or the word; the earliest place decides." The grammar has at which token
-- such a form shows itself, and a call sees at which tokens one may stand. That the call is accepted exactly when there is a reading with none of them is
-- `Exact` of that call (Demand.antt); here is what it answers otherwise. proofs/ProfileTheorem.antt shows it of the definition of the call, and `read_shop`
-- promises it of the code.
use Rattle.std.specs.Prelude.{ℕ, ◌≤◌, ◌≡◌, List, false, eqb}
use Rattle.text.specs.Choice.{pick}
use Rattle.text.specs.Literal.{ascii}
use Rattle.tokens.specs.Kind.{INTEGER}
use Rattle.tokens.specs.Cursor.{Tok, tokens, is_kind, is_word}
use Rattle.tokens.specs.Lex.{lex_text}
use Rattle.tokens.specs.Ended.{record_words, token_line, token_column}
use Rattle.sheet.specs.View.{View, seen}
use Rattle.model.specs.Lists.{refused_with}
use Rattle.model.specs.declared.Trigger.{Trigger}
use Rattle.model.specs.declared.Condition.{Condition}
use Rattle.language.specs.Read.{Outcome, rule_call}
use Rattle.language.specs.Demand.{HasReading, HasReadingSeeing}

-- what is seen, but that no such form may stand at the token k
abbrev pub except : ℕ → View → View
except k view =
    record {
      primary = view.primary;
      listed = view.listed;
      rows = view.rows;
      repeats = view.repeats;
      allows = λ i. pick (eqb i k) false (view.allows i);
    }

-- by what shows the form: an id, the word `broadcast`, or the word `event`
unfoldable pub offence_number : (ℕ → Tok) → ℕ → ℕ
offence_number t k = pick (is_kind t INTEGER k) 57 (pick (is_word t (ascii "broadcast") k) 58 59)

module _ (party primary : ℕ) (text sheet : List ℕ) (lent : List (List ℕ)) (size : ℕ) where
  -- such a form stands at the token k: the default call has a reading, and none if such a form may not stand there
  pub record Offends (k : ℕ) : Type 0 where
    pub triggers : List Trigger
    pub conditions : List Condition
    pub reads : HasReading (rule_call party primary) text sheet lent size triggers conditions
    pub needed : (xs : List Trigger) (ys : List Condition) →
        HasReadingSeeing (except k (seen (rule_call party primary) sheet)) (rule_call party primary) text sheet lent size xs ys → ⊥

  -- "the earliest place decides"
  pub record Earliest (k : ℕ) : Type 0 where
    pub offends : Offends k
    pub first : (j : ℕ) → Offends j → k ≤ j

  -- what the shop call does where the default call does full
  pub data Profiled (full : Outcome) : Outcome → Type 0 where
    -- any other refusal stands
    refused : (full.answer.number ≡ 0 → ⊥) → Profiled full full
    -- "with equal lists"
    named : full.answer.number ≡ 0 → ((k : ℕ) → Offends k → ⊥) → Profiled full full
    offence : {k : ℕ} → Earliest k →
        Profiled full
        (record {
          answer =
              refused_with (offence_number (tokens text (record_words (lex_text text))) k) (token_line (lex_text text) k) (token_column (lex_text text) k) 0;
          buffer = full.buffer;
        })
