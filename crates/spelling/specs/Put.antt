-- How the code writes: bytes from an offset on, each token behind a space. Nothing here need be believed.
use Rattle.std.specs.Prelude.{ℕ, ◌+◌, ◌≤◌, ◌≡◌, Bool, true, false, List, [], ◌∷◌, ◌++◌, eqb, length}
use Rattle.std.proofs.lemmas.List.Edits.{sets}
use Rattle.text.specs.Choice.{pick}
use Rattle.text.specs.Literal.{ascii}
use Rattle.model.specs.declared.Name.{Name}
use Rattle.writing.specs.Pieces.{Piece, further}

-- the bytes written from an offset on, and the offset behind them; all else stays
pub record Put (before : List ℕ) (from : ℕ) (bytes after : List ℕ) (to : ℕ) : Type 0 where
  pub stored : after ≡ sets before from bytes
  pub place : to ≡ from + length bytes

-- there is room for them
pub record Fits (buffer : List ℕ) (from : ℕ) (bytes : List ℕ) : Type 0 where
  pub room : from + length bytes ≤ length buffer

-- a day of the week by its number, from Monday on
unfoldable pub day_name : ℕ → List ℕ
day_name d =
    pick (eqb d 0) (ascii "mon")
    (pick (eqb d 1) (ascii "tue")
    (pick (eqb d 2) (ascii "wed")
    (pick (eqb d 3) (ascii "thu") (pick (eqb d 4) (ascii "fri") (pick (eqb d 5) (ascii "sat") (ascii "sun"))))))

-- behind other days of a set it has a comma before it
unfoldable pub next_day : Bool → ℕ → List ℕ
next_day true d = ascii " ," ++ further (Piece.word (day_name d) ∷ [])
next_day false d = further (Piece.word (day_name d) ∷ [])

-- the bytes of names, for an entry that has none
unfoldable pub no_bytes : Name → List ℕ
no_bytes n = []
