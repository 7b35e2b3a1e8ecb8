-- How the tokens of a text lie in it, each token spelled by characters of the text: what follows from the rules of Rules.antt with the text at hand, in the
-- form in which places and bytes are shown of it. proofs/LayoutLaws.antt shows it of lex_text.
use Rattle.std.specs.Prelude.{ℕ, ◌+◌, ◌*◌, ◌^◌, ◌≤◌, ◌≡◌, true, List, [], ◌∷◌, ◌++◌, length}
use Rattle.text.specs.Utf8.{Character, codes, chars}
use Rattle.text.specs.Place.{start, walked}
use Rattle.text.specs.Ascii.{is_digit, is_word_start, is_word_part}
use Rattle.tokens.specs.Kind.{WORD, STRING, INTEGER, TIME, DURATION, DECIMAL}
use Rattle.tokens.specs.Rules.{All, Without, Trivia, Trailing, value, UnitOf, Symbol, first_byte, end_byte, most_run}
use Rattle.tokens.specs.Amount.{Amounts, most_ms}
use Rattle.tokens.specs.Lexing.{Lexing, ended, refused, token, record_of}

-- digits that write at most 1,000,000,000
pub record Digits (ds : List ℕ) : Type 0 where
  pub all : All is_digit ds
  pub some : 1 ≤ length ds
  pub small : value ds ≤ most_run

-- these characters write a duration of so many milliseconds, exactly: the number, which may have a fraction, times the unit
pub data Duration : List ℕ → ℕ → Type 0 where
  whole : {ws us : List ℕ} {unit ms : ℕ} → Digits ws → UnitOf us unit → Amounts (value ws) 0 0 unit ms → ms ≤ most_ms →
      Duration (ws ++ us) ms
  decimal : {ws fs us : List ℕ} {unit ms : ℕ} → Digits ws → Digits fs → UnitOf us unit →
      Amounts (value ws) (value fs) (length fs) unit ms → ms ≤ most_ms → Duration (ws ++ (0x2E ∷ (fs ++ us))) ms

-- these characters are a token of this kind with this number
pub data Spelled : List ℕ → ℕ → ℕ → Type 0 where
  word : {c : ℕ} {cs : List ℕ} → is_word_start c ≡ true → All is_word_part cs → Spelled (c ∷ cs) WORD 0
  string : {cs : List ℕ} → Without 0x22 cs → Without 0x0A cs → Spelled (0x22 ∷ (cs ++ (0x22 ∷ []))) STRING 0
  integer : {ds : List ℕ} → Digits ds → Spelled ds INTEGER (value ds)
  -- hour × 60 + minute
  time : {hs ms : List ℕ} → Digits hs → length hs ≤ 2 → value hs ≤ 23 → Digits ms → length ms ≡ 2 → value ms ≤ 59 →
      Spelled (hs ++ (0x3A ∷ ms)) TIME (value hs * 60 + value ms)
  -- its milliseconds
  duration : {cs : List ℕ} {ms : ℕ} → Duration cs ms → Spelled cs DURATION ms
  -- times 10,000
  decimal : {ws fs : List ℕ} {n : ℕ} → Digits ws → Digits fs → length fs ≤ 4 →
      n * 10 ^ length fs ≡ (value ws * 10 ^ length fs + value fs) * 10000 → n ≤ 4294967295 →
      Spelled (ws ++ (0x2E ∷ fs)) DECIMAL n
  symbol : {cs : List ℕ} {kind : ℕ} → Symbol cs kind → Spelled cs kind 0

-- the refusals of the lexer: 10 to 13 and 15 to 19
pub data Lexical : ℕ → Type 0 where
  no_token_rule : Lexical 10
  unterminated : Lexical 11
  too_large : Lexical 12
  no_time : Lexical 13
  places : Lexical 15
  no_unit : Lexical 16
  long : Lexical 17
  fine : Lexical 18
  too_many : Lexical 19

-- the tokens of s behind the characters `before`, and how they end
pub data Laid (s : List ℕ) : List Character → Lexing → Type 0 where
  -- only white space and comments are left
  end : {before : List Character} (gap : List Character) → Trailing (codes gap) → chars s 0 ≡ before ++ gap →
      Laid s before (ended (walked start (before ++ gap)))
  -- a refusal stands at some character c behind white space and comments
  refusal : {before : List Character} {number : ℕ} (gap : List Character) (c : Character) (rest : List Character) → Trivia (codes gap) →
      chars s 0 ≡ before ++ (gap ++ (c ∷ rest)) → Lexical number →
      Laid s before (refused number (walked start (before ++ gap)))
  -- the next token, spelled by the characters u
  next : {before : List Character} {kind number : ℕ} {l : Lexing} (gap u rest : List Character) → Trivia (codes gap) →
      Spelled (codes u) kind number → chars s 0 ≡ before ++ (gap ++ (u ++ rest)) → Laid s (before ++ (gap ++ u)) l →
      Laid s before
      (token
      (record_of kind number
      (first_byte kind (walked start (before ++ gap)))
      (end_byte kind (walked start (before ++ (gap ++ u))))
      (walked start (before ++ gap)))
      l)
