-- Laws on powers of ten, and on numbers of 64 bits.
use Prim.Native.Nat.{ℕ, zero, suc, ◌+◌, ◌-◌, ◌*◌, ◌^◌, ◌<◌, ◌≤◌}
use mathlib.Core.Path.{◌≡◌, ◌∙◌, refl, ap, subst, sym}
use native.Mathlib.Omega.{arith}
use native.Mathlib.Decide.{dec_lt}
use native.Mathlib.Numerals.{add-one}
use native.Mathlib.Nat.{pow-suc, pow-succ', mul-one, mul_assoc, mul-le-mul_left, mul-le-mul, pow-le-pow_right}

pub ten-le : {i j : ℕ} → i ≤ j → 10 ^ i ≤ 10 ^ j
ten-le h = pow-le-pow_right {n = 10} (omega arith) h

pub ten-pos : (n : ℕ) → 0 < 10 ^ n
ten-pos n = ten-le {i = 0} {j = n} (omega arith)

pub ten-suc : (n : ℕ) → 10 ^ n * 10 ≡ 10 ^ (n + 1)
ten-suc n = sym (pow-suc 10 n) ∙ ap (λ (j : ℕ). 10 ^ j) (sym (add-one n))

-- one factor fewer, and none left
pub ten-down : (w n : ℕ) → (n ≡ 0 → ⊥) → w * 10 ^ n ≡ w * 10 * 10 ^ (n - 1)
ten-down w zero h = absurd (h refl)
ten-down w (suc m) h =
    let k : m ≡ suc m - 1 = omega arith in
    ap (λ (x : ℕ). w * x) (pow-succ' 10 m) ∙ sym (mul_assoc w 10 (10 ^ m)) ∙ ap (λ (j : ℕ). w * 10 * 10 ^ j) k

pub ten-none : (w n : ℕ) → n ≡ 0 → w * 10 ^ n ≡ w
ten-none w n h = ap (λ (j : ℕ). w * 10 ^ j) h ∙ mul-one w

-- a product with a power of ten is at least the number
pub ten-grows : (w n : ℕ) → w ≤ w * 10 ^ n
ten-grows w n = subst (λ (x : ℕ). x ≤ w * 10 ^ n) (mul-one w) (mul-le-mul_left w (ten-pos n))

-- two words of 32 bits, multiplied
pub word-product : (a b : ℕ) → a < 4294967296 → b < 4294967296 → a * b ≤ 4294967295 * 4294967295
word-product a b h k =
    let p : a ≤ 4294967295 = omega arith in
    let q : b ≤ 4294967295 = omega arith in
    mul-le-mul p q

-- 64 bits hold no power of ten above 10^19
held-by : (d : ℕ) → 10 ^ d < 2 ^ 64 → Dec (d < 20) → d < 20
held-by d h (yes p) = p
held-by d h (no p) = absurd (omega (arith, ten-le {i = 20} {j = d} (omega (arith, p))))

pub ten-held : (d : ℕ) → 10 ^ d < 2 ^ 64 → d < 20
ten-held d h = held-by d h (dec_lt d 20)
