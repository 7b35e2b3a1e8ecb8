-- The kinds of tokens (document 01, "Tokens and places"); past the last token the kind is 0.
use Rattle.std.specs.Prelude.{ℕ}

-- with a number or bytes
abbrev pub WORD : ℕ
WORD = 1

abbrev pub STRING : ℕ
STRING = 2

abbrev pub INTEGER : ℕ
INTEGER = 3

abbrev pub TIME : ℕ
TIME = 4

abbrev pub DURATION : ℕ
DURATION = 5

abbrev pub DECIMAL : ℕ
DECIMAL = 6

-- ( ) { } , . .. = == != >= <= > < + -
abbrev pub OPEN : ℕ
OPEN = 7

abbrev pub CLOSE : ℕ
CLOSE = 8

abbrev pub OPEN_BRACE : ℕ
OPEN_BRACE = 9

abbrev pub CLOSE_BRACE : ℕ
CLOSE_BRACE = 10

abbrev pub COMMA : ℕ
COMMA = 11

abbrev pub POINT : ℕ
POINT = 12

abbrev pub POINTS : ℕ
POINTS = 13

abbrev pub ASSIGN : ℕ
ASSIGN = 14

abbrev pub EQ : ℕ
EQ = 15

abbrev pub NE : ℕ
NE = 16

abbrev pub GE : ℕ
GE = 17

abbrev pub LE : ℕ
LE = 18

abbrev pub GT : ℕ
GT = 19

abbrev pub LT : ℕ
LT = 20

abbrev pub PLUS : ℕ
PLUS = 21

abbrev pub MINUS : ℕ
MINUS = 22
