-- The tables of places: rules for the code, and what holds of every place.
use Prim.Native.Nat.{ℕ, ◌/◌, ◌%◌, ◌^◌, ◌≤◌, ◌<◌}
use mathlib.Core.Path.{◌≡◌, refl, sym, ap, ◌∙◌}
use mathlib.Core.Bool.{false}
use mathlib.Core.List.{List, [], ◌∷◌}
use lib.Dec.{eqb}
use borrow.Author.Rules.{rules}
use borrow.Author.Tests.{le-leb, lt-leb}
use Rattle.text.specs.Choice.{pick}
use Rattle.chains.specs.Listed.{most_pieces}
use Rattle.chains.specs.Places.{Move, moves, moved, lengths, may_end}
use Rattle.chains.specs.declared.place.Place.{Place}
use Rattle.chains.specs.declared.place.Place.TheVariants.{Nowhere}

-- an arm of a `match` knows the place
pub at-lengths : {s p : Place} {n : ℕ} → s ≡ p → n ≡ lengths p → n ≡ lengths s
at-lengths e h = h ∙ ap lengths (sym e)

pub at-moves : {s p r : Place} (q : ℕ) → s ≡ p → r ≡ moved (moves p) q → r ≡ moved (moves s) q
at-moves q e h = h ∙ ap (λ (x : Place). moved (moves x) q) (sym e)

-- the moves of a place are tested one after the other
pub no_move : (q : ℕ) → Nowhere ≡ moved [] q
unfolding moved
no_move q = refl

pub then-move : {r other : Place} (m : Move) (ms : List Move) (q : ℕ) → r ≡ pick (eqb q m.piece) m.to other → other ≡ moved ms q →
    r ≡ moved (m ∷ ms) q
unfolding moved
then-move m ms q e h = e ∙ ap (λ (x : Place). pick (eqb q m.piece) m.to x) h

pub then-two : {r other : Place} (m n : Move) (ms : List Move) (q : ℕ) →
    r ≡ pick (eqb q m.piece) m.to (pick (eqb q n.piece) n.to other) → other ≡ moved ms q → r ≡ moved (m ∷ n ∷ ms) q
unfolding moved
then-two m n ms q e h = e ∙ ap (λ (x : Place). pick (eqb q m.piece) m.to (pick (eqb q n.piece) n.to x)) h

-- the bit of a number of pieces
pub may_yes : {n : ℕ} (s : Place) (k : ℕ) → k ≤ most_pieces → n ≡ lengths s → eqb ((n / 2 ^ k) % 2) 1 ≡ may_end s k
unfolding may_end
may_yes s k h e = rw (le-leb k most_pieces h, e)

pub may_no : (s : Place) (k : ℕ) → most_pieces < k → false ≡ may_end s k
unfolding may_end
may_no s k h = rw (lt-leb k most_pieces h)

pub ruleset arms = (rules, at-lengths, at-moves, no_move, then-move, then-two)
