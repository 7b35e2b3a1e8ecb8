-- "Text: one to four `when` TRIGGER, then perhaps `if` CONDITION with up to three `and` CONDITION."
use Rattle.std.specs.Prelude.{ℕ, ◌≤◌, ◌≡◌, List, [], ◌∷◌, length}
use Rattle.text.specs.Literal.{ascii}
use Rattle.tokens.specs.Cursor.{Tok}
use Rattle.sheet.specs.View.{View}
use Rattle.tokens.specs.Grammar.{Word}
use Rattle.language.specs.Limits.{most_triggers, most_ands}
use Rattle.language.specs.grammar.Trigger.{TriggerOf}
use Rattle.language.specs.grammar.Condition.{ConditionOf}
use Rattle.model.specs.declared.Name.{Name}
use Rattle.model.specs.declared.Trigger.{Trigger}
use Rattle.model.specs.declared.Condition.{Condition}

-- a form behind a word, any number of times
pub data Repeated (t : ℕ → Tok) (word : List ℕ) {A : Type 0} (Form : ℕ → A → ℕ → Type 0) : ℕ → List A → ℕ → Type 0 where
  end : {i : ℕ} → Repeated t word Form i [] i
  more : {i j k l : ℕ} {x : A} {xs : List A} → Word t word i j → Form j x k → Repeated t word Form k xs l →
      Repeated t word Form i (x ∷ xs) l

-- one `when` at all (38), and at most four (37)
pub data WhenSection (t : ℕ → Tok) (view : View) (range : ℕ → Name) : ℕ → List Trigger → ℕ → Type 0 where
  whens : {i j : ℕ} {xs : List Trigger} → Repeated t (ascii "when") (TriggerOf t view range) i xs j → 1 ≤ length xs → length xs ≤ most_triggers →
      WhenSection t view range i xs j

-- CONDITION "with up to three `and` CONDITION": at most four conditions (39)
pub data ConditionsOf (t : ℕ → Tok) (view : View) (range : ℕ → Name) : ℕ → List Condition → ℕ → Type 0 where
  joined : {i j k : ℕ} {y : Condition} {ys : List Condition} → ConditionOf t view range i y j →
      Repeated t (ascii "and") (ConditionOf t view range) j ys k → length ys ≤ most_ands → ConditionsOf t view range i (y ∷ ys) k

pub data IfSection (t : ℕ → Tok) (view : View) (range : ℕ → Name) : ℕ → List Condition → ℕ → Type 0 where
  no_if : {i : ℕ} → IfSection t view range i [] i
  conditions : {i j k : ℕ} {ys : List Condition} → Word t (ascii "if") i j → ConditionsOf t view range j ys k →
      IfSection t view range i ys k

-- "A reading of a text's tokens with a sheet is a list of triggers and one of conditions, the latter empty without `if`: one record for each,
-- in order, by forms below that use up all the tokens, with 22 to 39 met where they apply." Each form's rule has the questions that apply to it;
-- behind the last token the kind is 0.
pub data ReadingWith (t : ℕ → Tok) (view : View) (range : ℕ → Name) : List Trigger → List Condition → Type 0 where
  reading : {i j : ℕ} {xs : List Trigger} {ys : List Condition} → WhenSection t view range 0 xs i → IfSection t view range i ys j →
      (t j).kind ≡ 0 → ReadingWith t view range xs ys
