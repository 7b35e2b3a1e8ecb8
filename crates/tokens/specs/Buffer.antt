-- What the lent words hold after a call, word by word (document 01: "Acceptance is four zeros; the buffer then holds every token's record, its
-- other words unchanged.", and for refusals the records before the refused token).
use Rattle.std.specs.Prelude.{ℕ, ◌<◌, ◌≤◌, ◌≡◌, List, [], length, get_or, Bool, true, eqb, Result, Ok, Err}
use Rattle.text.specs.Choice.{pick, within}
use Rattle.tokens.specs.Lex.{lex_text}
use Rattle.tokens.specs.Ended.{record_words}
use Rattle.tokens.specs.declared.lexer.Lexed.{Lexed}
use Rattle.tokens.specs.declared.lexer.Refusal.{Refusal}

-- the first words at exit are those of front, and every other word is the one that was there
pub record Holds (front entry exit : List ℕ) : Type 0 where
  pub size : length exit ≡ length entry
  pub first : (k : ℕ) → k < length front → get_or exit k 0 ≡ get_or front k 0
  pub others : (k : ℕ) → length front ≤ k → get_or exit k 0 ≡ get_or entry k 0

-- 0, or the number of the refusal
unfoldable pub lex_number : Result Lexed Refusal → ℕ
lex_number (Ok t) = 0
lex_number (Err r) = r.number

-- the questions that are asked before the text is lexed: 1 to 4, and 53 (document 02, §6: "after question 4")
abbrev pub is_asked_first : ℕ → Bool
is_asked_first number = pick (within 1 4 number) true (eqb number 53)

-- the words that a call writes which ends with this number: none for a question that is asked first; else the records of the tokens, of a text
-- that the lexer refuses those before the refused token
unfoldable pub front_of : ℕ → List ℕ → List ℕ
front_of number text = pick (is_asked_first number) [] (record_words (lex_text text))
