-- Pieces that are written as tokens, and where they stand among the tokens of a text.
use Prim.Native.Nat.{ℕ, ◌+◌, ◌≤◌, ◌<◌}
use mathlib.Core.Path.{◌≡◌}
use mathlib.Core.Bool.{true}
use mathlib.Core.List.{List, [], ◌∷◌}
use Rattle.text.specs.Ascii.{is_word_start, is_word_part}
use Rattle.text.specs.Rfc3629.{Utf8Octets}
use Rattle.tokens.specs.Amount.{most_ms}
use Rattle.tokens.specs.Cursor.{Tok}
use Rattle.tokens.specs.Kind.{WORD, STRING, INTEGER, TIME, DURATION}
use Rattle.tokens.specs.Numbers.{day_minutes}
use Rattle.tokens.specs.Rules.{All, Without, Symbol, most_run}
use Rattle.writing.specs.Pieces.{Piece, spelled_sign}

-- a piece that is one token when it is spelled
pub data Good : Piece → Type 0 where
  word : {c : ℕ} {cs : List ℕ} → is_word_start c ≡ true → All is_word_part cs → Good (Piece.word (c ∷ cs))
  string : {bytes characters : List ℕ} → Utf8Octets bytes characters → Without 0x22 bytes → Without 0x0A bytes → Good (Piece.string bytes)
  integer : {n : ℕ} → n ≤ most_run → Good (Piece.integer n)
  time : {m : ℕ} → m < day_minutes → Good (Piece.time m)
  duration : {ms : ℕ} → ms ≤ most_ms → Good (Piece.duration ms)
  sign : {kind : ℕ} → Symbol (spelled_sign kind) kind → Good (Piece.sign kind)

-- the token that it is read as
unfoldable pub token_of : Piece → Tok
token_of (Piece.word bytes) = record { kind = WORD; number = 0; bytes = bytes }
token_of (Piece.string bytes) = record { kind = STRING; number = 0; bytes = bytes }
token_of (Piece.integer n) = record { kind = INTEGER; number = n; bytes = [] }
token_of (Piece.time m) = record { kind = TIME; number = m; bytes = [] }
token_of (Piece.duration ms) = record { kind = DURATION; number = ms; bytes = [] }
token_of (Piece.sign kind) = record { kind = kind; number = 0; bytes = [] }

-- the tokens from i up to j are these pieces
pub data Stands (t : ℕ → Tok) : ℕ → List Piece → ℕ → Type 0 where
  none : {i : ℕ} → Stands t i [] i
  more : {i j : ℕ} {p : Piece} {ps : List Piece} → t i ≡ token_of p → Stands t (i + 1) ps j → Stands t i (p ∷ ps) j
