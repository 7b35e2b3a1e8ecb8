-- Document 01, "Twelve pairs from the bench": the pairs of the lexer, 1 to 7, evaluated from the definitions.
use mathlib.Core.Path.{◌≡◌, refl}
use mathlib.Core.List.{List, [], ◌∷◌}
use Prim.Native.Nat.{ℕ}
use Prim.Native.String.{String}
use Rattle.text.specs.Literal.{ascii}
use Rattle.text.specs.White.{is_white, white_space, among}
use Rattle.text.specs.Utf8.{chars, chars_from, front, sized, sequence_length}
use Rattle.text.specs.Part.{part_of, same_bytes}
use Rattle.text.specs.Place.{step_of, after, counted}
use Rattle.text.specs.Ascii.{is_digit, is_alpha, is_word_start, is_word_part}
use Rattle.tokens.specs.Scan.{passed, trivia_mode, trivia, with_digit, digits}
use Rattle.tokens.specs.Duration.{unit_of, bounded_ms, whole_ms, amount}
use Rattle.tokens.specs.Token.{single_kind, pair_kind, single, punct, time_by, time, decimal, amount_to, duration_by, duration, fraction_at, fraction, point, number_at, number, token_at}
use Rattle.tokens.specs.Lexing.{Lexing, ended, refused, token, record_of}
use Rattle.tokens.specs.Lex.{lex_from, lex_text}

-- what a text gives: kind and number of each token, or a refusal
data Given : Type 0 where
  end : Given
  refusal : ℕ → Given
  then : ℕ → ℕ → Given → Given

shown : Lexing → Given
shown (ended p) = end
shown (refused n p) = refusal n
shown (token r l) = then r.kind r.number (shown l)

-- a text, and what it gives by the table
record Row : Type 0 where
  text : String
  gives : Given

◌⇒◌ : String → Given → Row
t ⇒ g = record { text = t; gives = g }

infixr 10 ◌⇒◌
table : List Row
table =
    ("1000000000" ⇒ then 3 1000000000 end)
    ∷ ("1000000001" ⇒ refusal 12)
    ∷ ("7:05" ⇒ then 4 425 end)
    ∷ ("007:05" ⇒ refusal 13)
    ∷ ("0.001s" ⇒ then 5 1 end)
    ∷ ("0.0005s" ⇒ refusal 18)
    ∷ ("4294967.295s" ⇒ then 5 4294967295 end)
    ∷ ("4294967.296s" ⇒ refusal 17)
    ∷ ("429496.7295" ⇒ then 6 4294967295 end)
    ∷ ("429496.7296" ⇒ refusal 12)
    ∷ ("5m30s" ⇒ then 5 300000 (then 5 30000 end))
    ∷ ("5." ⇒ then 3 5 (then 12 0 end))
    ∷ ("1193h" ⇒ then 5 4294800000 end)
    ∷ ("1194h" ⇒ refusal 17)
    ∷ []

abbrev Holds : List Row → Type 0
Holds [] = Unit {0}
Holds (r ∷ rs) = (shown (lex_text (ascii r.text)) ≡ r.gives) × Holds rs

pairs : Holds table
unfolding table ◌⇒◌ shown lex_text lex_from record_of chars chars_from front sized sequence_length step_of after counted trivia trivia_mode is_white white_space among is_digit is_alpha is_word_start is_word_part passed with_digit digits part_of same_bytes unit_of bounded_ms whole_ms amount single_kind pair_kind single punct time_by time decimal amount_to duration_by duration fraction_at fraction point number_at number token_at
pairs = (refl, (refl, (refl, (refl, (refl, (refl, (refl, (refl, (refl, (refl, (refl, (refl, (refl, (refl, tt))))))))))))))
