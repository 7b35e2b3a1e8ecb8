-- A number behind a sign.
use Rattle.std.specs.Prelude.{ℕ, ℤ, pos, neg_ℤ}
use Rattle.tokens.specs.Kind.{PLUS, MINUS}
use Rattle.tokens.specs.Cursor.{Tok}
use Rattle.tokens.specs.Grammar.{Token}

-- + or - and a number of a kind
pub data Signed (t : ℕ → Tok) (kind : ℕ) : ℕ → ℤ → ℕ → Type 0 where
  plus : {i a j n k : ℕ} → Token t PLUS i a j → Token t kind j n k → Signed t kind i (pos n) k
  minus : {i a j n k : ℕ} → Token t MINUS i a j → Token t kind j n k → Signed t kind i (neg_ℤ (pos n)) k
