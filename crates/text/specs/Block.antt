-- Bytes that all pass a test, and eight of them at a time.
use Rattle.std.specs.Prelude.{ℕ, ◌+◌, ◌-◌, ◌<◌, ◌≤◌, ◌≡◌, List, [], ◌∷◌, Bool, true, false, length, leb}
use Rattle.text.specs.Choice.{pick}
use Rattle.text.specs.Part.{part_of}

-- a test on bytes that answers as p does
abbrev pub Tells : (ℕ → Bool → Type 0) → (ℕ → Bool) → Type 0
Tells answers p = (b : ℕ) (r : Bool) → b < 256 → answers b r → r ≡ p b

-- whether every byte passes a test
unfoldable pub every : (ℕ → Bool) → List ℕ → Bool
every p [] = true
every p (c ∷ l) = pick (p c) (every p l) false

-- whether there are eight bytes at an offset, and every one passes
unfoldable pub block : (ℕ → Bool) → List ℕ → ℕ → Bool
block p s at = pick (leb (at + 8) (length s)) (every p (part_of s at (at + 8))) false

-- the bytes of s from an offset up to another all pass; the second is within s, or the first, where that lies past its end
abbrev pub Row : (ℕ → Bool) → List ℕ → ℕ → ℕ → Type 0
Row p s from at = (every p (part_of s from at) ≡ true) × (from ≤ at) × (at - from ≤ length s - from)
