-- The token that begins at a place (document 01, questions 10 to 18, and "Tokens and places").
use Rattle.std.specs.Prelude.{ℕ, ◌+◌, ◌-◌, ◌*◌, ◌^◌, List, ltb, eqb, Option, Some, None, Result, Ok, Err}
use Rattle.text.specs.Choice.{pick}
use Rattle.text.specs.Utf8.{chars}
use Rattle.text.specs.Part.{part_of}
use Rattle.text.specs.Place.{step_of}
use Rattle.text.specs.declared.place.Place.{Place}
use Rattle.tokens.specs.Kind.{WORD, STRING, INTEGER, TIME, DURATION, DECIMAL, OPEN, CLOSE, OPEN_BRACE, CLOSE_BRACE, COMMA, POINT, POINTS, ASSIGN, EQ, NE, GE, LE, GT, LT, PLUS, MINUS}
use Rattle.text.specs.Ascii.{is_digit, is_alpha, is_word_start, is_word_part}
use Rattle.tokens.specs.Scan.{passed, quoted, digits}
use Rattle.tokens.specs.Duration.{unit_of, amount}
use Rattle.tokens.specs.declared.lexer.Lexeme.{Lexeme}

-- a token with its bytes from start to end, and the place behind it
abbrev pub made : ℕ → ℕ → ℕ → ℕ → Place → Result Lexeme ℕ
made kind number start end next = Ok (record { kind = kind; number = number; start = start; end = end; next = next })

-- what stands at a place of s: its first character and the place behind that
abbrev pub look : List ℕ → Place → Option (ℕ × Place)
look s p = step_of p (chars s p.at)

-- the tokens without a value, by their first character and, of a pair, the second; 0 where there is none.
-- "7 to 22 for ( ) { } , . .. = == != >= <= > < + - in that order"
unfoldable pub single_kind : ℕ → ℕ
single_kind c =
    pick (eqb c 0x28) OPEN
    (pick (eqb c 0x29) CLOSE
    (pick (eqb c 0x7B) OPEN_BRACE
    (pick (eqb c 0x7D) CLOSE_BRACE
    (pick (eqb c 0x2C) COMMA
    (pick (eqb c 0x2E) POINT
    (pick (eqb c 0x3D) ASSIGN
    (pick (eqb c 0x3E) GT
    (pick (eqb c 0x3C) LT
    (pick (eqb c 0x2B) PLUS
    (pick (eqb c 0x2D) MINUS 0))))))))))

unfoldable pub pair_kind : ℕ → ℕ → ℕ
pair_kind c d =
    pick (eqb c 0x2E) (pick (eqb d 0x2E) POINTS 0)
    (pick (eqb d 0x3D) (pick (eqb c 0x3D) EQ (pick (eqb c 0x21) NE (pick (eqb c 0x3E) GE (pick (eqb c 0x3C) LE 0)))) 0)

-- can a token begin here? 10
unfoldable pub single : ℕ → Place → Place → Result Lexeme ℕ
single c p next = pick (eqb (single_kind c) 0) (Err 10) (made (single_kind c) 0 p.at next.at next)

unfoldable pub punct : ℕ → Place → Place → Option (ℕ × Place) → Result Lexeme ℕ
punct c p next (Some (d, behind)) =
    pick (eqb (pair_kind c d) 0) (single c p next) (made (pair_kind c d) 0 p.at behind.at behind)
punct c p next None = single c p next

-- a string: its bytes are those inside the quotes. Closed before LF or end? 11
unfoldable pub string : Place → Result (ℕ × Place) ℕ → Result Lexeme ℕ
string p (Ok (end, next)) = made STRING 0 p.at end next
string p (Err at) = Err 11

-- a token of a kind from p to e, with a number
abbrev pub spanning : ℕ → ℕ → Place → Place → Result Lexeme ℕ
spanning kind number p e = made kind number p.at e.at e

-- how many digits stand between two places: a digit is one byte
abbrev pub digits_in : Place → Place → ℕ
digits_in p e = e.at - p.at

-- time of one or two hour digits, two minute digits, at most 23:59? 13 (hours and minutes are how many digits each has)
unfoldable pub time_by : Place → ℕ → ℕ → ℕ → ℕ → Place → Result Lexeme ℕ
time_by p hour hours minute minutes e =
    pick (ltb 2 hours) (Err 13)
    (pick (eqb minutes 2)
    (pick (ltb 23 hour) (Err 13) (pick (ltb 59 minute) (Err 13) (spanning TIME (hour * 60 + minute) p e)))
    (Err 13))

-- a time whose hour's digits end at q; m is the place behind the colon
unfoldable pub time : Place → ℕ → Place → Place → Option (ℕ × Place) → Result Lexeme ℕ
time p hour q m (Some (minute, e)) = time_by p hour (digits_in p q) minute (digits_in m e) e
time p hour q m None = Err 12

-- a decimal with d places, times 10,000: at most four places? 15. At most 429496.7295? 12.
unfoldable pub decimal : Place → ℕ → ℕ → ℕ → Place → Result Lexeme ℕ
decimal p whole frac d e =
    pick (ltb 4 d) (Err 15)
    (pick (ltb (whole * 10000 + frac * 10 ^ (4 - d)) 4294967296)
    (spanning DECIMAL (whole * 10000 + frac * 10 ^ (4 - d)) p e)
    (Err 12))

unfoldable pub amount_to : Place → Place → Result ℕ ℕ → Result Lexeme ℕ
amount_to p e (Ok ms) = spanning DURATION ms p e
amount_to p e (Err number) = Err number

-- a duration whose unit ends at e: unit one of ms, s, m, h? 16
unfoldable pub duration_by : Place → ℕ → ℕ → ℕ → ℕ → Place → Result Lexeme ℕ
duration_by p unit whole frac d e = pick (eqb unit 0) (Err 16) (amount_to p e (amount whole frac d unit))

-- "Unit (the run of letters)": it begins at u
unfoldable pub duration : List ℕ → Place → ℕ → ℕ → ℕ → Place → Result Lexeme ℕ
duration s p whole frac d u =
    let e = passed is_alpha u (chars s u.at) in
    duration_by p (unit_of (part_of s u.at e.at)) whole frac d e

-- behind the digits of a fraction, which begin at f and end at e
unfoldable pub fraction_at : List ℕ → Place → ℕ → ℕ → Place → Place → Option (ℕ × Place) → Result Lexeme ℕ
fraction_at s p whole frac f e (Some (c, next)) =
    pick (is_alpha c) (duration s p whole frac (digits_in f e) e) (decimal p whole frac (digits_in f e) e)
fraction_at s p whole frac f e None = decimal p whole frac (digits_in f e) e

unfoldable pub fraction : List ℕ → Place → ℕ → Place → Option (ℕ × Place) → Result Lexeme ℕ
fraction s p whole f (Some (frac, e)) = fraction_at s p whole frac f e (look s e)
fraction s p whole f None = Err 12

-- "A point joins a number only when a digit follows." The number ends at q, f is the place behind the point.
unfoldable pub point : List ℕ → Place → ℕ → Place → Place → Option (ℕ × Place) → Result Lexeme ℕ
point s p whole q f (Some (c, next)) =
    pick (is_digit c) (fraction s p whole f (digits 0 f (chars s f.at))) (spanning INTEGER whole p q)
point s p whole q f None = spanning INTEGER whole p q

-- behind the first digits of a number, which end at q
unfoldable pub number_at : List ℕ → Place → ℕ → Place → Option (ℕ × Place) → Result Lexeme ℕ
number_at s p value q (Some (c, next)) =
    pick (eqb c 0x3A) (time p value q next (digits 0 next (chars s next.at)))
    (pick (eqb c 0x2E) (point s p value q next (look s next))
    (pick (is_alpha c) (duration s p value 0 0 q) (spanning INTEGER value p q)))
number_at s p value q None = spanning INTEGER value p q

unfoldable pub number : List ℕ → Place → Option (ℕ × Place) → Result Lexeme ℕ
number s p (Some (value, q)) = number_at s p value q (look s q)
number s p None = Err 12

-- a word
unfoldable pub word : List ℕ → Place → Result Lexeme ℕ
word s p = spanning WORD 0 p (passed is_word_part p (chars s p.at))

-- the token that begins at p with the character c; next is the place behind that character
unfoldable pub token_at : List ℕ → Place → ℕ → Place → Result Lexeme ℕ
token_at s p c next =
    pick (eqb c 0x22) (string next (quoted next (chars s next.at)))
    (pick (is_digit c) (number s p (digits 0 p (chars s p.at)))
    (pick (is_word_start c) (word s p)
    (punct c p next (look s next))))
