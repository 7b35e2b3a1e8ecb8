-- Where the tokens of a text stand, and its refusal or its end: within the text, and in a text that passes question 1 with nothing cut, to
-- 32 bits or to half a word. proofs/PlacedLaws.antt shows it of lex_text.
use Rattle.std.specs.Prelude.{ℕ, zero, suc, ◌+◌, ◌-◌, ◌<◌, ◌≤◌, ◌≡◌, List, ◌∷◌, ◌++◌, length}
use Rattle.text.specs.Utf8.{Character, codes, chars}
use Rattle.text.specs.Place.{Counts, Within, start, walked}
use Rattle.text.specs.declared.place.Place.{Place}
use Rattle.tokens.specs.Record.{place_unit, kind_at, number_at, start_at, length_at, line_at, column_at}
use Rattle.tokens.specs.Lexing.{Lexing, ended, refused, token}
use Rattle.tokens.specs.Rules.{first_byte, end_byte}
use Rattle.tokens.specs.Layout.{Spelled}
use Rattle.tokens.specs.declared.record.Record.{Record}

-- E holds of the line and column of the end, F of those of the refusal, and T of each token's record
pub data Each (E F : ℕ → ℕ → Type 0) (T : Record → Type 0) : Lexing → Type 0 where
  at_end_rule : {p : Place} → E p.line p.column → Each E F T (ended p)
  at_refusal : {number : ℕ} {p : Place} → F p.line p.column → Each E F T (refused number p)
  at_token : {r : Record} {l : Lexing} → T r → Each E F T l → Each E F T (token r l)

-- the record at an index of the words; zeros where there is none
unfoldable pub record_at : List ℕ → ℕ → Record
record_at words i =
    record {
      kind = kind_at words i;
      number = number_at words i;
      start = start_at words i;
      length = length_at words i;
      line = line_at words i;
      column = column_at words i;
    }

-- the record of the token with an index, as it was lexed; zeros where there is none
unfoldable pub zeros : Record
zeros = record { kind = 0; number = 0; start = 0; length = 0; line = 0; column = 0 }

unfoldable pub token_record : Lexing → ℕ → Record
token_record (ended p) i = zeros
token_record (refused number p) i = zeros
token_record (token r l) zero = r
token_record (token r l) (suc i) = token_record l i

-- a line and a column of which the word of a place loses nothing: both are below the unit
pub record InWord (line column : ℕ) : Type 0 where
  pub line_below : line < place_unit
  pub column_below : column < place_unit

-- every place of a lexing is so, "the end's included"
abbrev pub AllInWord : Lexing → Type 0
AllInWord l = Each InWord InWord (λ (r : Record). InWord r.line r.column) l

-- a token's place and its bytes lie within s
pub record RecordWithin (s : List ℕ) (r : Record) : Type 0 where
  pub place : Within s r.line r.column
  pub bytes : r.start + r.length ≤ length s

-- "Line and column start at 1 and count characters; only LF starts a line.": the end of s stands behind all of its characters
abbrev pub EndExact : List ℕ → ℕ → ℕ → Type 0
EndExact s line column = Counts (codes (chars s 0)) line column

-- a refusal stands at a character of s
pub record RefusalExact (s : List ℕ) (line column : ℕ) : Type 0 where
  pub before : List Character
  pub first : Character
  pub rest : List Character
  pub text : chars s 0 ≡ before ++ (first ∷ rest)
  pub counts : Counts (codes before) line column

-- the record of a token that some characters of s spell: "start and length are in bytes, inside the quotes for a string"
pub record RecordExact (s : List ℕ) (r : Record) : Type 0 where
  pub before : List Character
  pub spelling : List Character
  pub rest : List Character
  pub text : chars s 0 ≡ before ++ (spelling ++ rest)
  pub spelled : Spelled (codes spelling) r.kind r.number
  pub counts : Counts (codes before) r.line r.column
  pub start_is : r.start ≡ first_byte r.kind (walked start before)
  pub length_is : r.length ≡ end_byte r.kind (walked start (before ++ spelling)) - first_byte r.kind (walked start before)
