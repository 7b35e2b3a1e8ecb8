-- The pieces by name: each is its place in the vocabulary.
use Rattle.std.specs.Prelude.{ℕ}

abbrev pub LAMP : ℕ
LAMP = 0

abbrev pub SUN : ℕ
SUN = 1

abbrev pub TIME : ℕ
TIME = 2

abbrev pub IS : ℕ
IS = 3

abbrev pub IN : ℕ
IN = 4

abbrev pub ON : ℕ
ON = 5

abbrev pub OFF : ℕ
OFF = 6

abbrev pub UP : ℕ
UP = 7

abbrev pub DOWN : ℕ
DOWN = 8

abbrev pub SUNRISE : ℕ
SUNRISE = 9

abbrev pub SUNSET : ℕ
SUNSET = 10

abbrev pub LEVEL : ℕ
LEVEL = 11

abbrev pub AND : ℕ
AND = 12

abbrev pub ZERO : ℕ
ZERO = 13

abbrev pub SIXTY_THREE : ℕ
SIXTY_THREE = 14

abbrev pub SIXTY_FOUR : ℕ
SIXTY_FOUR = 15

abbrev pub OPEN : ℕ
OPEN = 16

abbrev pub CLOSE : ℕ
CLOSE = 17

abbrev pub POINT : ℕ
POINT = 18

abbrev pub POINTS : ℕ
POINTS = 19

abbrev pub EQUAL : ℕ
EQUAL = 20

abbrev pub PLUS : ℕ
PLUS = 21

abbrev pub MINUS : ℕ
MINUS = 22
