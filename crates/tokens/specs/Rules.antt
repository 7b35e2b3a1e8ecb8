-- The tokens of a text, as rules on its characters, in document 01's words; nothing here is of the lexer. What stands at a place is said in two
-- steps: the shape that the longest match takes, and what that shape is worth. proofs/RulesLaws.antt shows that every text that passes question 4 has
-- exactly one lexing by these rules, and that it is the one that the lexer gives.
use Rattle.std.specs.Prelude.{ℕ, zero, suc, ◌+◌, ◌-◌, ◌*◌, ◌^◌, ◌<◌, ◌≤◌, ◌≡◌, Bool, true, false, List, [], ◌∷◌, ◌++◌, length, ltb, eqb}
use Rattle.text.specs.Choice.{pick}
use Rattle.text.specs.White.{is_white}
use Rattle.text.specs.Place.{line_after, column_after}
use Rattle.text.specs.declared.place.Place.{Place}
use Rattle.text.specs.Ascii.{is_digit, is_alpha, is_word_start, is_word_part}
use Rattle.tokens.specs.Kind.{WORD, STRING, INTEGER, TIME, DURATION, DECIMAL, OPEN, CLOSE, OPEN_BRACE, CLOSE_BRACE, COMMA, POINT, POINTS, ASSIGN, EQ, NE, GE, LE, GT, LT, PLUS, MINUS}
use Rattle.tokens.specs.Amount.{Amounts, most_ms}
use Rattle.tokens.specs.Lexing.{most_tokens, record_of, Lexing, ended, refused, token}

-- ---- rows of characters

-- every one of these characters is of the class
pub data All (class : ℕ → Bool) : List ℕ → Type 0 where
  none : All class []
  more : {c : ℕ} {cs : List ℕ} → class c ≡ true → All class cs → All class (c ∷ cs)

-- none of these characters is c
pub data Without (c : ℕ) : List ℕ → Type 0 where
  none : Without c []
  more : {d : ℕ} {ds : List ℕ} → (d ≡ c → ⊥) → Without c ds → Without c (d ∷ ds)

-- what follows does not go on with the class: nothing follows, or a character that is not of it
pub data Stops (class : ℕ → Bool) : List ℕ → Type 0 where
  at_end_rule : Stops class []
  other : {c : ℕ} {cs : List ℕ} → class c ≡ false → Stops class (c ∷ cs)

-- at least one character, all of the class
pub data Run (class : ℕ → Bool) : List ℕ → Type 0 where
  run : {c : ℕ} {cs : List ℕ} → class c ≡ true → All class cs → Run class (c ∷ cs)

-- ---- between two tokens

-- white space and comments: "`#` opens a comment up to LF."
pub data Trivia : List ℕ → Type 0 where
  none : Trivia []
  white : {c : ℕ} {cs : List ℕ} → is_white c ≡ true → Trivia cs → Trivia (c ∷ cs)
  comment : {ds cs : List ℕ} → Without 0x0A ds → Trivia cs → Trivia (0x23 ∷ (ds ++ (0x0A ∷ cs)))

-- the same at the end of the text, up to which the last comment may go
pub data Trailing : List ℕ → Type 0 where
  trivia : {cs : List ℕ} → Trivia cs → Trailing cs
  last_comment : {cs ds : List ℕ} → Trivia cs → Without 0x0A ds → Trailing (cs ++ (0x23 ∷ ds))

-- as many as there are: what follows begins with neither
pub data Begins : List ℕ → Type 0 where
  begins : {c : ℕ} {cs : List ℕ} → is_white c ≡ false → (c ≡ 0x23 → ⊥) → Begins (c ∷ cs)

-- ---- shapes

-- "7 to 22 for ( ) { } , . .. = == != >= <= > < + - in that order"
pub data Symbol : List ℕ → ℕ → Type 0 where
  open_paren : Symbol (0x28 ∷ []) OPEN
  close_paren : Symbol (0x29 ∷ []) CLOSE
  open_brace : Symbol (0x7B ∷ []) OPEN_BRACE
  close_brace : Symbol (0x7D ∷ []) CLOSE_BRACE
  comma : Symbol (0x2C ∷ []) COMMA
  dot : Symbol (0x2E ∷ []) POINT
  dot_dot : Symbol (0x2E ∷ 0x2E ∷ []) POINTS
  assign : Symbol (0x3D ∷ []) ASSIGN
  equal : Symbol (0x3D ∷ 0x3D ∷ []) EQ
  unequal : Symbol (0x21 ∷ 0x3D ∷ []) NE
  at_least : Symbol (0x3E ∷ 0x3D ∷ []) GE
  at_most : Symbol (0x3C ∷ 0x3D ∷ []) LE
  greater : Symbol (0x3E ∷ []) GT
  less : Symbol (0x3C ∷ []) LT
  plus : Symbol (0x2B ∷ []) PLUS
  minus : Symbol (0x2D ∷ []) MINUS

-- no sign that these characters begin with has more than n of them; with 0, they begin with no sign
pub record NoLonger (n : ℕ) (cs : List ℕ) : Type 0 where
  pub most : (u rest : List ℕ) (kind : ℕ) → Symbol u kind → cs ≡ u ++ rest → length u ≤ n

-- what follows an unclosed string: "String closed before LF or end?"
pub data LineEnd : List ℕ → Type 0 where
  at_end_rule : LineEnd []
  at_feed : {cs : List ℕ} → LineEnd (0x0A ∷ cs)

-- what follows an integer: with a digit, a letter, `:`, or a point and a digit it would be longer.
-- "A point joins a number only when a digit follows."
pub data EndsInteger : List ℕ → Type 0 where
  at_end_rule : EndsInteger []
  point : {cs : List ℕ} → Stops is_digit cs → EndsInteger (0x2E ∷ cs)
  other : {c : ℕ} {cs : List ℕ} → is_digit c ≡ false → is_alpha c ≡ false → (c ≡ 0x3A → ⊥) → (c ≡ 0x2E → ⊥) → EndsInteger (c ∷ cs)

-- what can stand at a place, with the digits and the letters of a number
pub data Shape : Type 0 where
  word : Shape
  string : Shape
  unclosed : Shape
  sign : (kind : ℕ) → Shape
  integer : (ds : List ℕ) → Shape
  time : (hs ms : List ℕ) → Shape
  decimal : (ws fs : List ℕ) → Shape
  amount : (ws fs us : List ℕ) → Shape
  nothing : Shape

-- the characters u, before the rest, are a shape, and no longer match begins there
pub data Shaped : List ℕ → List ℕ → Shape → Type 0 where
  -- "Words are ASCII letters, digits and `_`, not starting with a digit."
  word : {c : ℕ} {cs rest : List ℕ} → is_word_start c ≡ true → All is_word_part cs → Stops is_word_part rest → Shaped (c ∷ cs) rest Shape.word
  -- "A string reads on until the quote, LF or the end decides it; it has no escapes."
  string : {cs rest : List ℕ} → Without 0x22 cs → Without 0x0A cs → Shaped (0x22 ∷ (cs ++ (0x22 ∷ []))) rest Shape.string
  unclosed : {cs rest : List ℕ} → Without 0x22 cs → Without 0x0A cs → LineEnd rest → Shaped (0x22 ∷ cs) rest Shape.unclosed
  -- the longer of two signs
  sign : {u rest : List ℕ} {kind : ℕ} → Symbol u kind → NoLonger (length u) (u ++ rest) → Shaped u rest (Shape.sign kind)
  integer : {ds rest : List ℕ} → Run is_digit ds → EndsInteger rest → Shaped ds rest (Shape.integer ds)
  -- D+ : D*
  time : {hs ms rest : List ℕ} → Run is_digit hs → All is_digit ms → Stops is_digit rest → Shaped (hs ++ (0x3A ∷ ms)) rest (Shape.time hs ms)
  -- D+ . D+
  decimal : {ws fs rest : List ℕ} → Run is_digit ws → Run is_digit fs → Stops is_digit rest → Stops is_alpha rest →
      Shaped (ws ++ (0x2E ∷ fs)) rest (Shape.decimal ws fs)
  -- D+ L+, and D+ . D+ L+: "Unit (the run of letters)"
  whole_amount : {ws us rest : List ℕ} → Run is_digit ws → Run is_alpha us → Stops is_alpha rest →
      Shaped (ws ++ us) rest (Shape.amount ws [] us)
  decimal_amount : {ws fs us rest : List ℕ} → Run is_digit ws → Run is_digit fs → Run is_alpha us → Stops is_alpha rest →
      Shaped (ws ++ (0x2E ∷ (fs ++ us))) rest (Shape.amount ws fs us)
  -- a character with which no token begins
  nothing : {c : ℕ} {rest : List ℕ} → (c ≡ 0x22 → ⊥) → is_digit c ≡ false → is_word_start c ≡ false → NoLonger 0 (c ∷ rest) →
      Shaped (c ∷ []) rest Shape.nothing

-- ---- what a shape is worth

-- the number that digits write behind digits that write v
unfoldable pub value_from : ℕ → List ℕ → ℕ
value_from v [] = v
value_from v (c ∷ cs) = value_from (v * 10 + (c - 0x30)) cs

unfoldable pub value : List ℕ → ℕ
value ds = value_from 0 ds

-- the letters of a unit, and its milliseconds
pub data UnitOf : List ℕ → ℕ → Type 0 where
  ms : UnitOf (0x6D ∷ 0x73 ∷ []) 1
  s : UnitOf (0x73 ∷ []) 1000
  m : UnitOf (0x6D ∷ []) 60000
  h : UnitOf (0x68 ∷ []) 3600000

-- the runs of digits in a shape
pub data DigitRun : Shape → List ℕ → Type 0 where
  integer : {ds : List ℕ} → DigitRun (Shape.integer ds) ds
  hour : {hs ms : List ℕ} → DigitRun (Shape.time hs ms) hs
  minute : {hs ms : List ℕ} → DigitRun (Shape.time hs ms) ms
  decimal_whole : {ws fs : List ℕ} → DigitRun (Shape.decimal ws fs) ws
  decimal_fraction : {ws fs : List ℕ} → DigitRun (Shape.decimal ws fs) fs
  amount_whole : {ws fs us : List ℕ} → DigitRun (Shape.amount ws fs us) ws
  amount_fraction : {ws fs us : List ℕ} → DigitRun (Shape.amount ws fs us) fs

-- "Each digit run at most 1,000,000,000"
abbrev pub most_run : ℕ
most_run = 1000000000

pub record Small (shape : Shape) : Type 0 where
  pub runs : (ds : List ℕ) → DigitRun shape ds → value ds ≤ most_run

-- "Time of one or two hour digits, two minute digits, at most 23:59"
pub record IsTime (hs ms : List ℕ) : Type 0 where
  pub hours : length hs ≤ 2
  pub minutes : length ms ≡ 2
  pub hour : value hs ≤ 23
  pub minute : value ms ≤ 59

-- a decimal of at most four places is exactly n ten-thousandths
pub record TenThousandths (ws fs : List ℕ) (n : ℕ) : Type 0 where
  pub places : length fs ≤ 4
  pub proportion : n * 10 ^ length fs ≡ (value ws * 10 ^ length fs + value fs) * 10000

-- "a unitless decimal at most 429496.7295"
abbrev pub most_decimal : ℕ
most_decimal = 4294967295

-- a token's kind and number, or the number of a refusal
pub data Verdict : Type 0 where
  worth : (kind number : ℕ) → Verdict
  refuse : (number : ℕ) → Verdict

-- the verdict on a shape
pub data Judged : Shape → Verdict → Type 0 where
  -- "The number is 0 for other kinds."
  word : Judged Shape.word (worth WORD 0)
  string : Judged Shape.string (worth STRING 0)
  sign : {kind : ℕ} → Judged (Shape.sign kind) (worth kind 0)
  -- "Can a token begin here (`!` only as `!=`)? 10."
  nothing : Judged Shape.nothing (refuse 10)
  -- "String closed before LF or end? 11."
  unclosed : Judged Shape.unclosed (refuse 11)
  -- "Each digit run at most 1,000,000,000, and a unitless decimal at most 429496.7295? 12.": its first half
  large : {shape : Shape} {ds : List ℕ} → DigitRun shape ds → most_run < value ds → Judged shape (refuse 12)
  integer : {ds : List ℕ} → Small (Shape.integer ds) → Judged (Shape.integer ds) (worth INTEGER (value ds))
  -- "time (hour × 60 + minute)", else 13
  time : {hs ms : List ℕ} → IsTime hs ms → Judged (Shape.time hs ms) (worth TIME (value hs * 60 + value ms))
  no_time : {hs ms : List ℕ} → Small (Shape.time hs ms) → (IsTime hs ms → ⊥) → Judged (Shape.time hs ms) (refuse 13)
  -- "Unitless decimal of at most four places? 15, before the decimal half of 12."
  places : {ws fs : List ℕ} → Small (Shape.decimal ws fs) → 4 < length fs → Judged (Shape.decimal ws fs) (refuse 15)
  high : {ws fs : List ℕ} {n : ℕ} → Small (Shape.decimal ws fs) → TenThousandths ws fs n → most_decimal < n →
      Judged (Shape.decimal ws fs) (refuse 12)
  decimal : {ws fs : List ℕ} {n : ℕ} → Small (Shape.decimal ws fs) → TenThousandths ws fs n → n ≤ most_decimal →
      Judged (Shape.decimal ws fs) (worth DECIMAL n)
  -- "Unit (the run of letters) one of ms, s, m, h? 16."
  no_unit : {ws fs us : List ℕ} → Small (Shape.amount ws fs us) → ((unit : ℕ) → UnitOf us unit → ⊥) →
      Judged (Shape.amount ws fs us) (refuse 16)
  -- "A whole number of milliseconds? 18."; document 02, §2: "Number 18 is asked first, then 17, which now means only more than 4,294,967,295 ms."
  fine : {ws fs us : List ℕ} {unit : ℕ} → Small (Shape.amount ws fs us) → UnitOf us unit →
      ((ms : ℕ) → Amounts (value ws) (value fs) (length fs) unit ms → ⊥) → Judged (Shape.amount ws fs us) (refuse 18)
  long : {ws fs us : List ℕ} {unit ms : ℕ} → Small (Shape.amount ws fs us) → UnitOf us unit →
      Amounts (value ws) (value fs) (length fs) unit ms → most_ms < ms → Judged (Shape.amount ws fs us) (refuse 17)
  duration : {ws fs us : List ℕ} {unit ms : ℕ} → Small (Shape.amount ws fs us) → UnitOf us unit →
      Amounts (value ws) (value fs) (length fs) unit ms → ms ≤ most_ms → Judged (Shape.amount ws fs us) (worth DURATION ms)

-- ---- places and bytes

-- how many bytes a character has in UTF-8: RFC 3629, section 3, by the ranges 0000-007F, 0080-07FF, 0800-FFFF and 10000-10FFFF
unfoldable pub octets_of : ℕ → ℕ
octets_of c = pick (ltb c 0x80) 1 (pick (ltb c 0x800) 2 (pick (ltb c 0x10000) 3 4))

unfoldable pub octets_in : List ℕ → ℕ
octets_in [] = 0
octets_in (c ∷ cs) = octets_of c + octets_in cs

-- the place behind these characters: "Line and column start at 1 and count characters; only LF starts a line."
unfoldable pub place_after : List ℕ → Place
place_after cs = record { at = octets_in cs; line = line_after cs; column = column_after cs }

-- the offsets between which the bytes of a token stand that goes from p to q: "inside the quotes for a string"
unfoldable pub first_byte : ℕ → Place → ℕ
first_byte kind p = pick (eqb kind STRING) (p.at + 1) p.at

unfoldable pub end_byte : ℕ → Place → ℕ
end_byte kind q = pick (eqb kind STRING) (q.at - 1) q.at

-- ---- a text

-- the lexing from a place on, with the characters before it and those from there on: n tokens may still come
pub data Lexes : ℕ → List ℕ → List ℕ → Lexing → Type 0 where
  -- only white space and comments are left
  end : {n : ℕ} {before gap : List ℕ} → Trailing gap → Lexes n before gap (ended (place_after (before ++ gap)))
  -- "A 1,025th token absent? 19, asked before that token is read."
  too_many : {before gap rest : List ℕ} → Trivia gap → Begins rest →
      Lexes zero before (gap ++ rest) (refused 19 (place_after (before ++ gap)))
  -- "the place is the token's first character"
  refusal : {n number : ℕ} {before gap u rest : List ℕ} {shape : Shape} → Trivia gap → Begins (u ++ rest) → Shaped u rest shape →
      Judged shape (refuse number) → Lexes (suc n) before (gap ++ (u ++ rest)) (refused number (place_after (before ++ gap)))
  next : {n kind number : ℕ} {before gap u rest : List ℕ} {shape : Shape} {l : Lexing} → Trivia gap → Begins (u ++ rest) →
      Shaped u rest shape → Judged shape (worth kind number) → Lexes n (before ++ (gap ++ u)) rest l →
      Lexes (suc n) before (gap ++ (u ++ rest))
      (token
      (record_of kind number
      (first_byte kind (place_after (before ++ gap)))
      (end_byte kind (place_after (before ++ (gap ++ u))))
      (place_after (before ++ gap)))
      l)

-- the lexing of a text with these characters
abbrev pub TextLexes : List ℕ → Lexing → Type 0
TextLexes characters l = Lexes most_tokens [] characters l
