-- Tokens behind other tokens.
use Prim.Native.Nat.{ℕ}
use mathlib.Core.Path.{◌≡◌, refl, sym, ap}
use mathlib.Core.List.{List, [], ◌∷◌, ◌++◌, append_assoc, append-nil}
use Rattle.writing.specs.Pieces.{Piece, spelled, spaced, further}

pub further-append : (ps qs : List Piece) → further (ps ++ qs) ≡ further ps ++ further qs
unfolding further
further-append [] qs = refl
further-append (p ∷ ps) qs = rw (further-append ps qs, append_assoc (spelled p) (further ps) (further qs))

pub spaced-further : (p : Piece) (ps : List Piece) → spaced (p ∷ ps) ≡ spelled p ++ further ps
unfolding spaced further
spaced-further p [] = sym (append-nil (spelled p))
spaced-further p (q ∷ ps) = ap (λ (l : List ℕ). spelled p ++ 0x20 ∷ l) (spaced-further q ps)
