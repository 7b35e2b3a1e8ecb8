-- Names and other strings as they are written are read as strings with their bytes.
use Prim.Native.Nat.{ℕ, ◌+◌, ◌≤◌}
use native.Mathlib.Omega.{arith}
use mathlib.Core.Path.{◌≡◌, ◌∙◌}
use mathlib.Core.Bool.{true}
use mathlib.Core.List.{List, [], ◌∷◌}
use lib.ListN.{length, length-take, length-drop}
use lib.Dec.{leb}
use borrow.Author.Tests.{leb-true}
use Rattle.text.specs.Choice.{within}
use Rattle.text.specs.Part.{part_of}
use Rattle.text.proofs.Tests.{both}
use Rattle.tokens.specs.Cursor.{Tok}
use Rattle.tokens.specs.Kind.{STRING}
use Rattle.tokens.proofs.Okay.{token-kind}
use Rattle.references.specs.Grammar.{quoted, Q, q}
use Rattle.topics.specs.Ranges.{name_in}
use Rattle.model.specs.declared.Name.{Name}
use Rattle.writing.specs.Pieces.{Piece}
use Rattle.writing.specs.Write.{name_pieces}
use Rattle.writing.specs.Possible.{is_inside, possible_string, possible_name}
use Rattle.rereading.proofs.Stands.{token_of, Stands}
use Rattle.rereading.proofs.StandsLaws.{head, rest, token-read, bytes_read}

-- a name that stands inside its text has its length
inside-long : (text : List ℕ) (n : Name) → is_inside text n ≡ true → length (name_in text n) ≡ n.length
unfolding is_inside name_in part_of
inside-long text n e =
    let inside = leb-true (n.start + n.length) (length text) e in simp (length-take, length-drop) (omega arith)

-- a string of least to most bytes
pub string-sized : (text : List ℕ) (least most : ℕ) (n : Name) → possible_string text least most n ≡ true →
    (least ≤ length (name_in text n)) × (length (name_in text n) ≤ most)
unfolding possible_string
string-sized text least most n e =
    let (inside, e) = both (is_inside text n) e in
    let (sized, string) = both (within least most n.length) e in
    let (low, high) = both (leb least n.length) sized in
    rw (inside-long text n inside) (leb-true _ _ low, leb-true _ _ high)

-- a quoted name in parentheses, by the token of its string
pub record NameRead (t : ℕ → Tok) (range : ℕ → Name) (written : List ℕ) (i : ℕ) (bytes : List ℕ) (j : ℕ) : Type 0 where
  pub place : ℕ
  pub reads : Q t i place j
  pub same : name_in written (range place) ≡ bytes

module _ (t : ℕ → Tok) (range : ℕ → Name) (written : List ℕ) (names : (i : ℕ) → (t i).kind ≡ STRING → name_in written (range i) ≡ (t i).bytes) where
  -- a string has the bytes that were written
  pub string-same : {i j : ℕ} {bytes : List ℕ} → Stands t i (Piece.string bytes ∷ []) j → name_in written (range i) ≡ bytes
  unfolding token_of
  string-same {i} s = names i (token-kind (token-read s)) ∙ bytes_read s

  pub name-read : (text : List ℕ) (n : Name) {i j : ℕ} → possible_name text n ≡ true → Stands t i (name_pieces (name_in text) n) j →
      NameRead t range written i (name_in text n) j
  unfolding name_pieces token_of
  name-read text n possible s =
      let (some, few) = string-sized text 1 _ n possible in
      let name = head (rest s) in
      let bytes = bytes_read name in
      record {
        place = _;
        reads = q (token-read (head s)) (quoted (token-read name) (rw bytes some) (rw bytes few)) (token-read (rest (rest s)));
        same = string-same name;
      }
