-- Bytes parted at a byte: lines at LF, the words of a list at a space.
use Rattle.std.specs.Prelude.{ℕ, List, [], ◌∷◌, Bool, true, false, eqb}

-- a byte put before the first part
abbrev pub onto : ℕ → List (List ℕ) → List (List ℕ)
onto c [] = (c ∷ []) ∷ []
onto c (l ∷ ls) = (c ∷ l) ∷ ls

-- a byte and the parts of what follows it: it ends a part, or it belongs to the first
abbrev pub parted : Bool → ℕ → List (List ℕ) → List (List ℕ)
parted true c ls = [] ∷ ls
parted false c ls = onto c ls

-- the parts, each of which ends with the byte b; the last may lack it
unfoldable pub split : ℕ → List ℕ → List (List ℕ)
split b [] = []
split b (c ∷ s) = parted (eqb c b) c (split b s)
