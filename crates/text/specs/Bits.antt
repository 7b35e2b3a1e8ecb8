-- A set of small numbers held in the bits of one number.
use Rattle.std.specs.Prelude.{ℕ, zero, suc, ◌+◌, ◌*◌, ◌/◌, ◌%◌, ◌^◌, Bool}
use Rattle.text.specs.Choice.{pick}

-- so many bits, the lowest that of n
unfoldable pub bits_from : (ℕ → Bool) → ℕ → ℕ → ℕ
bits_from in-set n zero = 0
bits_from in-set n (suc count) = pick (in-set n) 1 0 + 2 * bits_from in-set (suc n) count

-- the bit of a number at a place
abbrev pub digit : ℕ → ℕ → ℕ
digit w k = w / 2 ^ k % 2
