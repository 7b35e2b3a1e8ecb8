-- The pieces of document 02, §13, and the tokens of a sequence of them.
use Rattle.std.specs.Prelude.{ℕ, zero, suc, List, [], ◌∷◌}
use Rattle.text.specs.Literal.{ascii}
use Rattle.tokens.specs.Cursor.{Tok, tokens}
use Rattle.tokens.specs.Ended.{record_words}
use Rattle.tokens.specs.Lex.{lex_text}

-- "over this vocabulary": a piece is the place of its token in this text, 0 to 22
abbrev pub vocabulary : List ℕ
vocabulary = ascii "lamp sun time is in on off up down sunrise sunset level and 0 63 64 ( ) . .. == + -"

abbrev pub piece_count : ℕ
piece_count = 23

-- a piece's token, as the lexer gives it; another number has none, and its kind is 0
unfoldable pub piece_token : ℕ → Tok
piece_token q = tokens vocabulary (record_words (lex_text vocabulary)) q

-- the tokens of a sequence of pieces; behind its end the kind is 0
unfoldable pub chain_tokens : List ℕ → ℕ → Tok
chain_tokens [] i = record { kind = 0; number = 0; bytes = [] }
chain_tokens (q ∷ v) zero = piece_token q
chain_tokens (q ∷ v) (suc i) = chain_tokens v i
