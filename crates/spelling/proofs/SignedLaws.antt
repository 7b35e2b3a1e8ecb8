-- Signed numbers: how far they are from 0, and the parts that are written for them.
use Rattle.std.specs.Prelude.{Option, Some, None}
use Prim.Native.Nat.{ℕ, zero, suc, ◌+◌}
use mathlib.Core.Path.{◌≡◌, refl, sym, ap, ◌∙◌, subst}
use mathlib.Core.Bool.{true, false}
use mathlib.Core.List.{List, [], ◌∷◌, append-nil}
use native.Mathlib.Omega.{arith}
use lib.Dec.{T}
use lib.IntN.{ℤ, pos, negsuc, nat_abs}
use lib.Signed.{lt_z}
use borrow.Author.Tests.{ltb-true}
use Rattle.text.specs.Literal.{ascii}
use Rattle.tokens.specs.Kind.{PLUS, MINUS}
use Rattle.writing.specs.Pieces.{Piece, spelled, spelled_sign, further}
use Rattle.writing.specs.Write.{literal_pieces, delta_pieces, offset_pieces}
use Rattle.spelling.proofs.PutLaws.{Made, joined}

-- n below 0
pub record Minus (z : ℤ) (n : ℕ) : Type 0 where
  pub less : ℕ
  pub is : z ≡ negsuc less
  pub far : n ≡ less + 1

-- z by the test on which side of 0 it is, and by its distance, both asked of z as the machine held it
pub is-minus : {x y z : ℤ} {n : ℕ} → x ≡ z → y ≡ z → lt_z x (pos 0) ≡ true → n ≡ nat_abs y → Minus z n
is-minus {z = pos m} f e t d = let none = ltb-true m 0 (rw f at t) in absurd (omega arith)
is-minus {z = negsuc m} {n} f e t d = record { less = m; is = refl; far = let f : n ≡ suc m = d ∙ ap nat_abs e in omega arith }

pub is-plus : {x y z : ℤ} {n : ℕ} → x ≡ z → y ≡ z → lt_z x (pos 0) ≡ false → n ≡ nat_abs y → z ≡ pos n
is-plus {z = pos m} f e t d = ap pos (sym (d ∙ ap nat_abs e))
is-plus {z = negsuc m} f e t d = absurd (subst T (rw f at t) tt)

-- a sign and what it is the sign of
module _ {ps : List Piece} {p : Piece} where
  minus-made : ps ≡ Piece.sign MINUS ∷ p ∷ [] → Made (further ps) (ascii " -" ∷ further (p ∷ []) ∷ [])
  unfolding further spelled spelled_sign joined
  minus-made e = record { parts_of = rw e (simp append-nil) }

  plus-made : ps ≡ Piece.sign PLUS ∷ p ∷ [] → Made (further ps) (ascii " +" ∷ further (p ∷ []) ∷ [])
  unfolding further spelled spelled_sign joined
  plus-made e = record { parts_of = rw e (simp append-nil) }

module _ {z : ℤ} {n : ℕ} where
  pub literal_minus : Minus z n → Made (further (literal_pieces z)) (ascii " -" ∷ further (Piece.integer n ∷ []) ∷ [])
  unfolding literal_pieces
  literal_minus m = minus-made (rw (m.is, m.far))

  pub literal_plus : z ≡ pos n → Made (further (literal_pieces z)) (further (Piece.integer n ∷ []) ∷ [])
  unfolding literal_pieces joined
  literal_plus e = record { parts_of = rw (e, append-nil) }

  pub added-minus : Minus z n → Made (further (delta_pieces (Some z))) (ascii " -" ∷ further (Piece.integer n ∷ []) ∷ [])
  unfolding delta_pieces
  added-minus m = minus-made (rw (m.is, m.far))

  pub added-plus : z ≡ pos n → Made (further (delta_pieces (Some z))) (ascii " +" ∷ further (Piece.integer n ∷ []) ∷ [])
  unfolding delta_pieces
  added-plus e = plus-made (rw e)

  pub offset-minus : Minus z n → Made (further (offset_pieces z)) (ascii " -" ∷ further (Piece.duration n ∷ []) ∷ [])
  unfolding offset_pieces
  offset-minus m = minus-made (rw (m.is, m.far))

pub offset-plus : {z : ℤ} {n : ℕ} → z ≡ pos n → (n ≡ 0 → ⊥) → Made (further (offset_pieces z)) (ascii " +" ∷ further (Piece.duration n ∷ []) ∷ [])
unfolding offset_pieces
offset-plus {n = zero} e h = absurd (h refl)
offset-plus {n = suc n} e h = plus-made (rw e)

-- nothing where nothing is added, and for an offset of 0
pub no-delta : {d : Option ℤ} → d ≡ None → further (delta_pieces d) ≡ []
unfolding further delta_pieces
no-delta e = rw e

pub no-offset : {y z : ℤ} {n : ℕ} → y ≡ z → n ≡ nat_abs y → n ≡ 0 → further (offset_pieces z) ≡ []
unfolding further offset_pieces
no-offset {y = pos m} e d h = let none : m ≡ 0 = sym d ∙ h in rw (← e, none)
no-offset {y = negsuc m} e d h = absurd (omega arith)

pub delta-made : {d : Option ℤ} {y z : ℤ} → d ≡ Some y → z ≡ y → Made (further (delta_pieces d)) (further (delta_pieces (Some z)) ∷ [])
unfolding joined
delta-made d e = record { parts_of = rw (d, e, append-nil) }
