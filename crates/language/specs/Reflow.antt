-- Document 02, §14: layout changes nothing.
use Rattle.std.specs.Prelude.{ℕ, ◌<◌, ◌≡◌, true, List, length}
use Rattle.tokens.specs.Cursor.{tokens}
use Rattle.tokens.specs.Buffer.{is_asked_first}
use Rattle.tokens.specs.Lex.{lex_text}
use Rattle.tokens.specs.Ended.{record_words, token_line, token_column}
use Rattle.sheet.specs.declared.Call.{Call}
use Rattle.model.specs.Lists.{accepted_with, refused_with}
use Rattle.model.specs.declared.Trigger.{Trigger}
use Rattle.model.specs.declared.Condition.{Condition}
use Rattle.model.specs.declared.Answer.{Answer}
use Rattle.language.specs.Demand.{Gives}
use Rattle.language.specs.Read.{read_of}
use Rattle.language.specs.Same.{SameTriggers, SameConditions}

-- "two texts … whose tokens agree in number, kind, value and the bytes of words and strings, and which both pass questions 1 and 4 and the lexer": as many
-- tokens, and each is the one in its place. Of a token its kind, its number and, if it is a word or a string, its bytes are seen, so that `5s` and
-- `5000ms` are the same token
pub record SameTokens (a b : List ℕ) : Type 0 where
  pub count : ℕ
  pub first : Gives a (lex_text a) count
  pub second : Gives b (lex_text b) count
  pub alike : (i : ℕ) → i < count → tokens a (record_words (lex_text a)) i ≡ tokens b (record_words (lex_text b)) i

-- "get equal lists, names compared by bytes, or the same refusal number and detail at the corresponding token or at both ends (2, 3 and 53 at the same place)":
-- the answers to two texts
pub data SameAnswer (a b : List ℕ) : Answer → Answer → Type 0 where
  accepted : (xs us : List Trigger) (ys vs : List Condition) → SameTriggers a b xs us → SameConditions a b ys vs →
      SameAnswer a b (accepted_with xs ys) (accepted_with us vs)
  -- at the token with the index k of either text, or at the end of either
  at_token : (number k detail : ℕ) →
      SameAnswer a b (refused_with number (token_line (lex_text a) k) (token_column (lex_text a) k) detail)
      (refused_with number (token_line (lex_text b) k) (token_column (lex_text b) k) detail)
  -- 2, 3 and 53, which are asked before the text is lexed
  at_place : (number line column : ℕ) → is_asked_first number ≡ true → SameAnswer a b (refused_with number line column 0) (refused_with number line column 0)

-- "all else given alike": the call (its habit, party and primary), the sheet, the lent topics and the size of the buffer. What the buffers hold before the
-- call may differ
abbrev pub LayoutChangesNothing : Type 0
LayoutChangesNothing =
    (call : Call) (a b sheet : List ℕ) (lent : List (List ℕ)) (v w : List ℕ) → SameTokens a b → length v ≡ length w →
    SameAnswer a b (read_of call a sheet lent v).answer (read_of call b sheet lent w).answer
