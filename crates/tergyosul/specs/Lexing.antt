-- Answers as words, for callers in C and Rust.
use Rattle.std.specs.Prelude.{ℕ, List, [], ◌∷◌, Result, Ok, Err}
use Rattle.std.proofs.lemmas.List.Edits.{sets}
use Rattle.text.specs.Place.{counted}
use Rattle.tokens.specs.declared.lexer.Lexed.{Lexed}
use Rattle.tokens.specs.declared.lexer.Refusal.{Refusal}
use Rattle.tergyosul.specs.Room.{lex_answer_words, by_room}

-- four words at the front of the lent ones; these are unchanged where they are fewer
unfoldable pub four_first : List ℕ → ℕ → ℕ → ℕ → ℕ → List ℕ
four_first words a b c d = by_room lex_answer_words words words (sets words 0 (a ∷ b ∷ c ∷ d ∷ []))

-- number, line, column, and the count of the tokens; on acceptance line and column are those of the text's end
unfoldable pub lex_flat : Result Lexed Refusal → List ℕ → List ℕ
lex_flat (Ok t) words = four_first words 0 t.line t.column (counted t.count)
lex_flat (Err r) words = four_first words r.number r.line r.column 0
