-- A choice by a test, and tests on ranges of numbers.
use Rattle.std.specs.Prelude.{ℕ, Bool, true, false, leb}

-- the first value where the test holds, else the second
abbrev pub pick : {A : Type 0} → Bool → A → A → A
pick true a b = a
pick false a b = b

-- low ≤ n ≤ high
abbrev pub within : ℕ → ℕ → ℕ → Bool
within low high n = pick (leb low n) (leb n high) false
