-- What is written, token by token (document 02, §7): "one space between tokens". Each token is spelled in one way.
use Rattle.std.specs.Prelude.{ℕ, zero, suc, ◌+◌, ◌/◌, ◌%◌, List, [], ◌∷◌, ◌++◌, map, ltb, eqb}
use Rattle.text.specs.Choice.{pick}
use Rattle.text.specs.Literal.{ascii}
use Rattle.text.specs.Split.{split}
use Rattle.tokens.specs.Kind.{OPEN, CLOSE, COMMA, POINT, POINTS, ASSIGN, EQ, NE, GE, LE, GT, LT, PLUS}
use Rattle.tokens.specs.Rules.{most_run}

pub data Piece : Type 0 where
  word : List ℕ → Piece
  string : List ℕ → Piece
  integer : ℕ → Piece
  time : ℕ → Piece
  duration : ℕ → Piece
  -- by its kind
  sign : ℕ → Piece

-- the last digit of a number
abbrev pub digit : ℕ → ℕ
digit n = n % 10 + 0x30

-- "Other numbers have no leading zero": its digits, of which no number that is written has more than ten
unfoldable pub decimal_from : ℕ → ℕ → List ℕ
decimal_from zero n = []
decimal_from (suc most) n = pick (ltb n 10) (digit n ∷ []) (decimal_from most (n / 10) ++ digit n ∷ [])

unfoldable pub decimal : ℕ → List ℕ
decimal n = decimal_from 10 n

-- "times have two digits on each side"
unfoldable pub two_digits : ℕ → List ℕ
two_digits n = digit (n / 10) ∷ digit n ∷ []

unfoldable pub spelled_time : ℕ → List ℕ
spelled_time m = two_digits (m / 60) ++ 0x3A ∷ two_digits (m % 60)

-- "Durations up to 1,000,000,000 ms are written in ms, longer ones in seconds with three places."
unfoldable pub three_digits : ℕ → List ℕ
three_digits n = digit (n / 100) ∷ two_digits n

unfoldable pub spelled_duration : ℕ → List ℕ
spelled_duration ms =
    pick (ltb most_run ms) (decimal (ms / 1000) ++ 0x2E ∷ three_digits (ms % 1000) ++ ascii "s") (decimal ms ++ ascii "ms")

-- the signs that are written
unfoldable pub spelled_sign : ℕ → List ℕ
spelled_sign kind =
    pick (eqb kind OPEN) (ascii "(")
    (pick (eqb kind CLOSE) (ascii ")")
    (pick (eqb kind COMMA) (ascii ",")
    (pick (eqb kind POINT) (ascii ".")
    (pick (eqb kind POINTS) (ascii "..")
    (pick (eqb kind ASSIGN) (ascii "=")
    (pick (eqb kind EQ) (ascii "==")
    (pick (eqb kind NE) (ascii "!=")
    (pick (eqb kind GE) (ascii ">=")
    (pick (eqb kind LE) (ascii "<=")
    (pick (eqb kind GT) (ascii ">") (pick (eqb kind LT) (ascii "<") (pick (eqb kind PLUS) (ascii "+") (ascii "-")))))))))))))

unfoldable pub spelled : Piece → List ℕ
spelled (Piece.word bytes) = bytes
spelled (Piece.string bytes) = 0x22 ∷ bytes ++ 0x22 ∷ []
spelled (Piece.integer n) = decimal n
spelled (Piece.time m) = spelled_time m
spelled (Piece.duration ms) = spelled_duration ms
spelled (Piece.sign kind) = spelled_sign kind

-- "one space between tokens"
unfoldable pub spaced : List Piece → List ℕ
spaced [] = []
spaced (p ∷ []) = spelled p
spaced (p ∷ q ∷ ps) = spelled p ++ 0x20 ∷ spaced (q ∷ ps)

-- each token behind a space: what stands behind a first token
unfoldable pub further : List Piece → List ℕ
further [] = []
further (p ∷ ps) = 0x20 ∷ spelled p ++ further ps

-- words, with a blank between them
abbrev pub words : List ℕ → List Piece
words bytes = map Piece.word (split 0x20 bytes)
