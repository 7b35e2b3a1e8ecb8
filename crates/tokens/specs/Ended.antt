-- A lexing that came to the end of its text: how many tokens it has, their records as words, and their places.
use Rattle.std.specs.Prelude.{ℕ, zero, suc, List, [], ◌++◌}
use Rattle.text.specs.declared.place.Place.{Place}
use Rattle.tokens.specs.Record.{words_of}
use Rattle.tokens.specs.Lexing.{Lexing, ended, refused, token}
use Rattle.tokens.specs.declared.record.Record.{Record}

-- count tokens, and then the end of the text
pub data Ended : Lexing → ℕ → Type 0 where
  at_end_rule : {p : Place} → Ended (ended p) 0
  behind : {r : Record} {l : Lexing} {count : ℕ} → Ended l count → Ended (token r l) (suc count)

-- the records of a text's tokens, as words
unfoldable pub record_words : Lexing → List ℕ
record_words (ended p) = []
record_words (refused number p) = []
record_words (token r l) = words_of r ++ record_words l

-- "at the token in hand or at the end of text": the line and column of the token with an index
unfoldable pub token_line : Lexing → ℕ → ℕ
token_line (ended p) i = p.line
token_line (refused number p) i = p.line
token_line (token r l) zero = r.line
token_line (token r l) (suc i) = token_line l i

unfoldable pub token_column : Lexing → ℕ → ℕ
token_column (ended p) i = p.column
token_column (refused number p) i = p.column
token_column (token r l) zero = r.column
token_column (token r l) (suc i) = token_column l i
