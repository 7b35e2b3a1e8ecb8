-- What is seen of tokens, and the steps over them (document 01: "expect takes the equal token, else 20").
use Rattle.std.specs.Prelude.{ℕ, ◌+◌, List, [], Bool, true, false, Option, Some, None, Result, Ok, Err, ltb, eqb}
use Rattle.text.specs.Choice.{pick, within}
use Rattle.text.specs.Part.{same_bytes}
use Rattle.tokens.specs.Kind.{WORD, STRING, INTEGER}
use Rattle.tokens.specs.Record.{capacity, kind_at, number_at, bytes_at}
use Rattle.tokens.specs.Result.{Res, ok, no, bind, refuse}
use Rattle.tokens.specs.declared.cursor.Cursor.{Cursor}
use Rattle.tokens.specs.declared.cursor.Refusal.{Refusal}

-- a token as the definitions above this layer see it: no place, no offset, no layout
pub record Tok : Type 0 where
  pub kind : ℕ
  pub number : ℕ
  pub bytes : List ℕ

-- "A name is shown as the part of the text between its quotes", and a word as its part; of no other token are bytes seen
unfoldable pub bytes_of : ℕ → List ℕ → List ℕ
bytes_of kind bytes = pick (eqb kind WORD) bytes (pick (eqb kind STRING) bytes [])

-- the tokens that the records hold; past the last the kind is 0
unfoldable pub tokens : List ℕ → List ℕ → ℕ → Tok
tokens text words i =
    record { kind = kind_at words i; number = number_at words i; bytes = bytes_of (kind_at words i) (bytes_at text words i) }

-- "the one fixed word": a word with these bytes
unfoldable pub is_word : (ℕ → Tok) → List ℕ → ℕ → Bool
is_word t word i = pick (eqb (t i).kind WORD) (same_bytes (t i).bytes word) false

-- a token of a kind, whichever there is
unfoldable pub is_kind : (ℕ → Tok) → ℕ → ℕ → Bool
is_kind t kind i = pick (eqb (t i).kind 0) false (eqb (t i).kind kind)

-- is this the kind of token that the form has here? 20
unfoldable pub take_kind : (ℕ → Tok) → ℕ → ℕ → Res ℕ
take_kind t kind i = pick (is_kind t kind i) (ok (t i).number (i + 1)) (refuse 20 i)

-- is this the one fixed word? 20
unfoldable pub take_word : (ℕ → Tok) → List ℕ → ℕ → Res ℕ
take_word t word i = pick (is_word t word i) (ok 0 (i + 1)) (refuse 20 i)

-- number in range? 22, at the number
unfoldable pub take_in : (ℕ → Tok) → ℕ → ℕ → ℕ → Res ℕ
take_in t low high i = bind (take_kind t INTEGER i) (λ n j. pick (within low high n) (ok n j) (refuse 22 i))

-- the cursor at an index
abbrev pub at : ℕ → Cursor
at i = record { index = i }

-- "peek and advance": the index behind the token at an index; past the last token it stays
unfoldable pub advanced : List ℕ → ℕ → ℕ
advanced words i = pick (ltb i (capacity words)) (i + 1) i

-- the answers of the code
abbrev pub Taken : Type 0 → Type 0
Taken A = Result (A × Cursor) Refusal

unfoldable pub to_taken : {A : Type 0} → Res A → Taken A
to_taken (ok a i) = Ok (a, at i)
to_taken (no r) = Err r

unfoldable pub accepted : Bool → ℕ → Option Cursor
accepted true i = Some (at (i + 1))
accepted false i = None
