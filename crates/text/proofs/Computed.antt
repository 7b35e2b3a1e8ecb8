-- A rule about every number below a bound, shown by one test that is computed.
use mathlib.Core.Path.{◌≡◌, subst}
use mathlib.Core.Bool.{Bool, true, false}
use Prim.Native.Nat.{ℕ, zero, suc, ◌<◌}
use native.Mathlib.Omega.{arith}
use native.Mathlib.Decide.{dec_lt}
use native.Mathlib.Nat.{not-suc-le-zero}
use lib.Dec.{T}
use Rattle.text.specs.Choice.{pick}

-- the test holds at each number below n
abbrev pub under : (ℕ → Bool) → ℕ → Bool
under f zero = true
under f (suc n) = pick (f n) (under f n) false

both_left : (a b : Bool) → T (pick a b false) → T a
both_left true b t = tt
both_left false b t = t

both_right : (a b : Bool) → T (pick a b false) → T b
both_right true b t = t
both_right false b t = absurd t

below_by : (f : ℕ → Bool) (n k : ℕ) → k < suc n → T (f n) → (k < n → T (f k)) → Dec (k < n) → T (f k)
below_by f n k h t r (yes p) = r p
below_by f n k h t r (no p) =
    let e : n ≡ k = omega arith in
    subst (λ (m : ℕ). T (f m)) e t

pub below : (f : ℕ → Bool) (n : ℕ) → T (under f n) → (k : ℕ) → k < n → T (f k)
below f zero t k h = absurd (not-suc-le-zero h)
below f (suc n) t k h =
    below_by f n k h (both_left (f n) (under f n) t) (λ p. below f n (both_right (f n) (under f n) t) k p) (dec_lt k n)
