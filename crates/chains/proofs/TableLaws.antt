-- What holds of every place: its row of lengths is right, computed over the whole table.
use Prim.Native.Nat.{ℕ, suc, ◌<◌, ◌≤◌}
use native.Mathlib.Nat.{zero-div}
use mathlib.Core.Path.{◌≡◌, refl}
use mathlib.Core.Bool.{Bool, true, false, false≢true, not}
use mathlib.Core.List.{List, [], ◌∷◌}
use mathlib.Core.Logic.{◌⊎◌, inl, inr}
use lib.Dec.{T, ltb, leb, eqb}
use borrow.Author.Tests.{ltb-true, leb-true, eqb-true}
use Rattle.text.specs.Choice.{pick}
use Rattle.text.proofs.Tests.{pick_same, both}
use Rattle.text.proofs.Computed.{under, below}
use Rattle.chains.specs.Vocabulary.{piece_count}
use Rattle.chains.specs.Listed.{most_pieces}
use Rattle.chains.specs.Places.{Move, moves, moved, step, may_end}
use Rattle.chains.specs.Way.{least_from, least}
use Rattle.chains.specs.declared.place.Place.{Place}
use Rattle.chains.specs.declared.place.Place.TheVariants.{Start, Sun, SunIs, Time, TimeIn, TimeFrom, TimePoints, Lamp, LampOpen, LampId, LampClosed, LampIs, LampPoint, LampLevel, Compared, Sign, Read, ReadOpen, ReadId, ReadClosed, ReadPoint, ReadLevel, End, Nowhere}

abbrev pub same : Bool → Bool → Bool
same a b = pick a b (not b)

pub same_true : (a b : Bool) → T (same a b) → a ≡ b
same_true true true t = refl
same_true true false t = absurd t
same_true false true t = absurd t
same_true false false t = refl

-- one piece more may follow exactly if some piece may stand next; and every move is by a piece
abbrev one_more : Place → ℕ → Bool
one_more s n = same (may_end s (suc n)) (ltb (least s 0 n) piece_count)

abbrev by-pieces : List Move → Bool
by-pieces [] = true
by-pieces (m ∷ ms) = pick (ltb m.piece piece_count) (by-pieces ms) false

computed : (s : Place) → T (under (one_more s) most_pieces) × (by-pieces (moves s) ≡ true)
unfolding may_end least least_from moved
computed Start = (tt, refl)
computed Sun = (tt, refl)
computed SunIs = (tt, refl)
computed Time = (tt, refl)
computed TimeIn = (tt, refl)
computed TimeFrom = (tt, refl)
computed TimePoints = (tt, refl)
computed Lamp = (tt, refl)
computed LampOpen = (tt, refl)
computed LampId = (tt, refl)
computed LampClosed = (tt, refl)
computed LampIs = (tt, refl)
computed LampPoint = (tt, refl)
computed LampLevel = (tt, refl)
computed Compared = (tt, refl)
computed Sign = (tt, refl)
computed Read = (tt, refl)
computed ReadOpen = (tt, refl)
computed ReadId = (tt, refl)
computed ReadClosed = (tt, refl)
computed ReadPoint = (tt, refl)
computed ReadLevel = (tt, refl)
computed End = (tt, refl)
computed Nowhere = (tt, refl)

pub may_more : (s : Place) (n : ℕ) → n < most_pieces → may_end s (suc n) ≡ ltb (least s 0 n) piece_count
may_more s n h = same_true _ _ (below (one_more s) most_pieces (computed s).0 n h)

pub may_short : (s : Place) (n : ℕ) → may_end s n ≡ true → n ≤ most_pieces
unfolding may_end
may_short s n e = leb-true n most_pieces (both (leb n most_pieces) e).0

pub nowhere-ends : (n : ℕ) → may_end Nowhere n ≡ true → ⊥
unfolding may_end
nowhere-ends n e = false≢true (rw (zero-div, pick_same) at e)

-- a piece that leads somewhere is that of a move
module _ (P : Place → Type 0) (nowhere : P Nowhere → ⊥) where
  abbrev pub Among : List Move → ℕ → Type 0
  Among [] q = ⊥
  Among (m ∷ ms) q = ((q ≡ m.piece) × P m.to) ⊎ Among ms q

  among-by : (m : Move) (ms : List Move) (q : ℕ) (b : Bool) → eqb q m.piece ≡ b → (P (moved ms q) → Among ms q) →
      P (pick b m.to (moved ms q)) → Among (m ∷ ms) q
  among-by m ms q true e r h = inl (eqb-true q m.piece e, h)
  among-by m ms q false e r h = inr (r h)

  pub among : (ms : List Move) (q : ℕ) → P (moved ms q) → Among ms q
  unfolding moved
  among [] q h = nowhere h
  among (m ∷ ms) q h = among-by m ms q (eqb q m.piece) refl (among ms q) h

  by-piece : (ms : List Move) (q : ℕ) → by-pieces ms ≡ true → Among ms q → q < piece_count
  by-piece [] q e h = elim h [ ]
  by-piece (m ∷ ms) q e (inl h) = rw h.0 (ltb-true m.piece piece_count (both (ltb m.piece piece_count) e).0)
  by-piece (m ∷ ms) q e (inr h) = by-piece ms q (both (ltb m.piece piece_count) e).1 h

-- so it is a piece
pub a_piece : (s : Place) (q n : ℕ) → may_end (step s q) n ≡ true → q < piece_count
a_piece s q n h =
    let P : Place → Type 0 = λ p. may_end p n ≡ true in
    by-piece P (nowhere-ends n) (moves s) q (computed s).1 (among P (nowhere-ends n) (moves s) q h)
