-- Time bounds as they are written are read as themselves.
use Prim.Native.Nat.{ℕ, zero, suc, ◌+◌, ◌<◌}
use native.Mathlib.Omega.{arith}
use native.Mathlib.Numerals.{add-one}
use mathlib.Core.Path.{◌≡◌, subst}
use mathlib.Core.Bool.{true}
use mathlib.Core.List.{[], ◌∷◌}
use lib.IntN.{ℤ, pos, negsuc, neg_ℤ}
use borrow.Author.Tests.{leb-true, ltb-true}
use Rattle.tokens.specs.Cursor.{Tok}
use Rattle.tokens.specs.Grammar.{the_first, the_second}
use Rattle.model.specs.declared.SolarEvent.{SolarEvent}
use Rattle.model.specs.declared.TimeBound.{TimeBound}
use Rattle.language.specs.Limits.{most_earlier}
use Rattle.language.specs.grammar.Timeval.{SolarEventOf, Bound, clock, solar, later, earlier}
use Rattle.writing.specs.Pieces.{Piece}
use Rattle.writing.specs.Write.{solar_word, offset_pieces, bound_pieces}
use Rattle.writing.specs.Possible.{is_signed_up_to, possible_bound}
use Rattle.rereading.proofs.Stands.{token_of, Stands}
use Rattle.rereading.proofs.StandsLaws.{head, rest, token-read, word_read}

-- a number below 0 is written as what it is below 0
pub below-zero : (n : ℕ) → neg_ℤ (pos (n + 1)) ≡ negsuc n
below-zero n = rw add-one

module _ {t : ℕ → Tok} where
  solar-read : (event : SolarEvent) {i j : ℕ} → Stands t i (Piece.word (solar_word event) ∷ []) j → SolarEventOf t i event j
  solar-read SolarEvent.Sunrise s = the_first (word_read s)
  solar-read SolarEvent.Sunset s = the_second (word_read s)

  pub bound-read : (bound : TimeBound) {i j : ℕ} → possible_bound bound ≡ true → Stands t i (bound_pieces bound) j → Bound t i bound j
  unfolding possible_bound is_signed_up_to bound_pieces offset_pieces token_of
  bound-read (TimeBound.Clock m) p s = clock (token-read s)
  bound-read (TimeBound.Solar event (pos zero)) p s = solar (solar-read event s)
  bound-read (TimeBound.Solar event (pos (suc n))) p s =
      later (solar-read event (head s)) (token-read (head (rest s))) (token-read (rest (rest s))) (leb-true _ _ p)
  bound-read (TimeBound.Solar event (negsuc n)) {i} {j} p s =
      let few : n < most_earlier = ltb-true _ _ p in
      subst (λ (z : ℤ). Bound t i (TimeBound.Solar event z) j) (below-zero n)
      (earlier (solar-read event (head s)) (token-read (head (rest s))) (token-read (rest (rest s))) (omega arith))
