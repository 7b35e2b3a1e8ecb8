-- Pieces among the tokens: rows of them taken apart, and each piece read as a token of the grammar.
use Prim.Native.Nat.{ℕ, ◌+◌}
use mathlib.Core.Path.{◌≡◌, ap, subst}
use mathlib.Core.List.{List, [], ◌∷◌, ◌++◌, map, append_assoc}
use Rattle.text.specs.Split.{split}
use Rattle.tokens.specs.Cursor.{Tok}
use Rattle.tokens.specs.Grammar.{Token, token, Word, a_word, Words, next, Phrase, phrase}
use Rattle.tokens.specs.Phrase.{words_in}
use Rattle.writing.specs.Pieces.{Piece, words}
use Rattle.rereading.proofs.Stands.{token_of, Stands, none, more}

module _ {t : ℕ → Tok} where
  -- the first piece, and those behind it
  pub head : {i j : ℕ} {p : Piece} {ps : List Piece} → Stands t i (p ∷ ps) j → Stands t i (p ∷ []) (i + 1)
  head (more e s) = more e none

  pub rest : {i j : ℕ} {p : Piece} {ps : List Piece} → Stands t i (p ∷ ps) j → Stands t (i + 1) ps j
  rest (more e s) = s

  -- two rows, one behind the other: the first ends where the second begins
  pub parted : (ps qs : List Piece) {i j : ℕ} → Stands t i (ps ++ qs) j → (k : ℕ) × Stands t i ps k × Stands t k qs j
  parted [] qs {i} s = (i, none, s)
  parted (p ∷ ps) qs (more e s) = let (k, front, back) = parted ps qs s in (k, more e front, back)

  -- the first of three rows, and the other two
  pub parted-first : (ps qs rs : List Piece) {i j : ℕ} → Stands t i ((ps ++ qs) ++ rs) j → (k : ℕ) × Stands t i ps k × Stands t k (qs ++ rs) j
  parted-first ps qs rs s = parted ps (qs ++ rs) (rw (append_assoc ps qs rs) at s)

  -- one piece as the token that it is
  pub token-read : {i j : ℕ} {p : Piece} → Stands t i (p ∷ []) j → Token t (token_of p).kind i (token_of p).number j
  token-read {i} {p = p} (more e none) =
      subst (λ (n : ℕ). Token t (token_of p).kind i n (i + 1)) (ap (λ (x : Tok). x.number) e) (token (ap (λ (x : Tok). x.kind) e))

  pub word_read : {i j : ℕ} {w : List ℕ} → Stands t i (Piece.word w ∷ []) j → Word t w i j
  unfolding token_of
  word_read (more e none) = a_word (ap (λ (x : Tok). x.kind) e) (ap (λ (x : Tok). x.bytes) e)

  pub bytes_read : {i j : ℕ} {bytes : List ℕ} → Stands t i (Piece.string bytes ∷ []) j → (t i).bytes ≡ bytes
  unfolding token_of
  bytes_read (more e none) = ap (λ (x : Tok). x.bytes) e

  -- words, one after the other
  words-read : (ws : List (List ℕ)) {i j : ℕ} → Stands t i (map Piece.word ws) j → Words t ws i j
  words-read [] none = Words.none
  words-read (w ∷ ws) (more e s) = next (word_read (more e none)) (words-read ws s)

  pub phrase-read : (list : List ℕ) {i j : ℕ} → Stands t i (words list) j → Phrase t list i j
  unfolding words_in
  phrase-read list s = phrase (words-read (split 0x20 list) s)
