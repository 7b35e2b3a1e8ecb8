-- The digits with which numbers are spelled (writing/specs/Pieces.antt) write these numbers (tokens/specs/Rules.antt).
use Prim.Native.Nat.{ℕ, zero, suc, ◌+◌, ◌-◌, ◌*◌, ◌/◌, ◌%◌, ◌^◌, ◌<◌}
use native.Mathlib.Nat.{pow-suc}
use native.Mathlib.Omega.{arith}
use mathlib.Core.Path.{◌≡◌}
use mathlib.Core.Bool.{true}
use mathlib.Core.List.{List, [], ◌∷◌, ◌++◌}
use lib.Dec.{ltb}
use borrow.Author.Tests.{ltb-true, lt-ltb, le-leb}
use Rattle.text.specs.Ascii.{is_digit}
use Rattle.text.proofs.Tests.{picked}
use Rattle.tokens.specs.Rules.{All, Run, run, value_from, value}
use Rattle.tokens.proofs.SpelledLaws.{all-on}
use Rattle.writing.specs.Pieces.{digit, decimal_from, decimal, two_digits, three_digits}

-- these are digits, and the number that they write is n
pub record Writes (ds : List ℕ) (n : ℕ) : Type 0 where
  pub digits : Run is_digit ds
  pub is : value ds ≡ n

digit-is : (n : ℕ) → is_digit (digit n) ≡ true
unfolding is_digit
digit-is n = rw (le-leb 0x30 (n % 10 + 0x30) (omega arith), le-leb (n % 10 + 0x30) 0x39 (omega arith))

value-more : (v : ℕ) (ds : List ℕ) (n : ℕ) → value_from v (ds ++ digit n ∷ []) ≡ value_from v ds * 10 + n % 10
unfolding value_from
value-more v [] n = omega arith
value-more v (c ∷ ds) n = value-more (v * 10 + (c - 0x30)) ds n

run_more : {ds : List ℕ} (n : ℕ) → Run is_digit ds → Run is_digit (ds ++ digit n ∷ [])
run_more n (run h a) = run h (all-on a (All.more (digit-is n) All.none))

one-digit : (n : ℕ) → n < 10 → Writes (digit n ∷ []) n
unfolding value value_from
one-digit n h = record { digits = run (digit-is n) All.none; is = omega arith }

-- the last digit, behind the others
last-digit : {ds : List ℕ} (n : ℕ) → Writes ds (n / 10) → Writes (ds ++ digit n ∷ []) n
unfolding value
last-digit {ds} n w = record { digits = run_more n w.digits; is = omega (arith, value-more 0 ds n, w.is) }

decimal_from_lem : (most n : ℕ) → n < 10 ^ suc most → Writes (decimal_from (suc most) n) n
unfolding decimal_from
decimal_from_lem zero n h = rw (lt-ltb n 10 h) (one-digit n h)
decimal_from_lem (suc most) n h =
    picked (λ (ds : List ℕ). Writes ds n) (ltb n 10) (λ k. one-digit n (ltb-true n 10 k))
    (λ k. last-digit n (decimal_from_lem most (n / 10) (omega (arith, pow-suc 10 (suc most)))))

-- ten digits are enough for every number that is written
pub decimal-writes : (n : ℕ) → n < 10 ^ 10 → Writes (decimal n) n
unfolding decimal
decimal-writes n h = decimal_from_lem 9 n h

pub two-write : (n : ℕ) → n < 100 → Writes (two_digits n) n
unfolding two_digits
two-write n h = last-digit n (one-digit (n / 10) (omega arith))

pub three-write : (n : ℕ) → n < 1000 → Writes (three_digits n) n
unfolding three_digits two_digits value value_from
three-write n h =
    record {
      digits = run (digit-is (n / 100)) (All.more (digit-is (n / 10)) (All.more (digit-is n) All.none));
      is = omega arith;
    }
