-- The bits of a number that is made of them, and a number told by its bits.
use mathlib.Core.Path.{◌≡◌, ◌∙◌, refl, sym, ap}
use mathlib.Core.Bool.{Bool, true, false}
use Prim.Native.Nat.{ℕ, zero, suc, ◌+◌, ◌*◌, ◌/◌, ◌%◌, ◌^◌, ◌<◌}
use native.Mathlib.Omega.{arith}
use lib.Dec.{eqb}
use lib.Pow.{shr-shr}
use borrow.Author.Tests.{eqb-true, eqb-false}
use Rattle.text.specs.Choice.{pick}
use Rattle.text.specs.Bits.{bits_from, digit}

-- a test as a bit
abbrev pub bit : Bool → ℕ
bit t = pick t 1 0

pub bit-small : (t : Bool) → bit t < 2
bit-small true = omega arith
bit-small false = omega arith

pub bit-eqb : (t : Bool) → eqb (bit t) 1 ≡ t
bit-eqb true = refl
bit-eqb false = refl

pub digit-bit : (n : ℕ) (t : Bool) → n < 2 → eqb n 1 ≡ t → n ≡ bit t
digit-bit n true h e = eqb-true n 1 e
digit-bit n false h e = let k = eqb-false n 1 e in omega arith

pub digit-suc : (w k : ℕ) → digit w (suc k) ≡ digit (w / 2) k
digit-suc w k = let e : 1 + k ≡ suc k = omega arith in ap (λ (n : ℕ). n % 2) (sym (rw e at (shr-shr w 1 k)))

-- the digits of a number that is made of them, and a number that has these digits
pub bits_small : (f : ℕ → Bool) (n count : ℕ) → bits_from f n count < 2 ^ count
unfolding bits_from
bits_small f n zero = omega arith
bits_small f n (suc count) = let b = bit-small (f n) in let r = bits_small f (suc n) count in omega arith

pub bits_at : (f : ℕ → Bool) (n count k : ℕ) → k < count → digit (bits_from f n count) k ≡ bit (f (n + k))
unfolding bits_from
bits_at f n zero k h = absurd (omega arith)
bits_at f n (suc count) zero h =
    let e : n + 0 ≡ n = omega arith in
    let b = bit-small (f n) in
    rw e (omega arith)
bits_at f n (suc count) (suc k) h =
    let e : n + suc k ≡ suc n + k = omega arith in
    let b = bit-small (f n) in
    let half : (bit (f n) + 2 * bits_from f (suc n) count) / 2 ≡ bits_from f (suc n) count = omega arith in
    rw (digit-suc, half, e) (bits_at f (suc n) count k (omega arith))

pub bits_of : (f : ℕ → Bool) (n count w : ℕ) → w < 2 ^ count → ((k : ℕ) → k < count → digit w k ≡ bit (f (n + k))) → w ≡ bits_from f n count
unfolding bits_from
bits_of f n zero w h d = omega arith
bits_of f n (suc count) w h d =
    let e : n + 0 ≡ n = omega arith in
    let low : w / 1 % 2 ≡ bit (f n) = rw e at (d 0 (omega arith)) in
    let high : w / 2 ≡ bits_from f (suc n) count =
    bits_of f (suc n) count (w / 2) (omega arith)
    (λ k i. let e : n + suc k ≡ suc n + k = omega arith in sym (digit-suc w k) ∙ rw e at (d (suc k) (omega arith))) in
    omega arith
