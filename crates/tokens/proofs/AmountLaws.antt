-- The amount of a duration is the one that specs/Amount.antt allows, and no other: 18 exactly if it is no whole number of milliseconds, 17
-- exactly if it is too large.
use Rattle.std.specs.Prelude.{Result, Ok, Err}
use Prim.Native.Nat.{ℕ, ◌+◌, ◌*◌, ◌/◌, ◌%◌, ◌^◌, ◌<◌, ◌≤◌}
use mathlib.Core.Path.{◌≡◌, ◌∙◌, refl, ap, sym}
use native.Mathlib.Omega.{arith}
use native.Mathlib.Nat.{div-add-mod', mul-div_cancel, mul-add-div_right, mul-add-mod_self_right, mod-eq_of_lt, zero-mod, zero-div}
use lib.Dec.{ltb, eqb}
use borrow.Author.Tests.{ltb-true, ltb-false, eqb-true, eqb-false, ne_eqb, lt-ltb, le-ltb}
use Rattle.text.proofs.Tests.{picked}
use Rattle.tokens.specs.Amount.{Amounts, most_ms, JudgedAmount, fine, long, exact}
use Rattle.tokens.specs.Duration.{bounded_ms, whole_ms, amount}
use Rattle.tokens.proofs.PowerLaws.{ten-pos}

-- a product has no remainder, and its quotient is the other factor
no-rest : (ms n t : ℕ) → 0 < t → ms * t ≡ n → n % t ≡ 0
no-rest ms n t h e =
    let q : n / t ≡ ms = ap (λ (k : ℕ). k / t) (sym e) ∙ mul-div_cancel ms h in
    let r = div-add-mod' n t in
    let s : n / t * t ≡ n = ap (λ (k : ℕ). k * t) q ∙ e in
    omega arith

-- there is one such number of milliseconds
pub amounts-one : {w f d u m n : ℕ} → Amounts w f d u m → Amounts w f d u n → m ≡ n
amounts-one {d} {m} {n} a b =
    sym (mul-div_cancel m (ten-pos d)) ∙ ap (λ (k : ℕ). k / 10 ^ d) (a.proportion ∙ sym b.proportion) ∙ mul-div_cancel n (ten-pos d)

module _ (w f d u : ℕ) where
  abbrev total : ℕ
  total = (w * 10 ^ d + f) * u

  abbrev Judged : Result ℕ ℕ → Type 0
  Judged = JudgedAmount w f d u

  -- without a rest the quotient is that number, and with one there is none
  whole-amounts : total % 10 ^ d ≡ 0 → Amounts w f d u (total / 10 ^ d)
  whole-amounts e =
      let n = total in
      record { proportion = omega (arith, div-add-mod' n (10 ^ d)) }

  none-amounts : (total % 10 ^ d ≡ 0 → ⊥) → (ms : ℕ) → Amounts w f d u ms → ⊥
  none-amounts h ms a = h (no-rest ms total (10 ^ d) (ten-pos d) a.proportion)

  bounded-judged : (ms : ℕ) → Amounts w f d u ms → Judged (bounded_ms ms)
  unfolding bounded_ms
  bounded-judged ms a =
      picked Judged (ltb most_ms ms) (λ h. long a (ltb-true most_ms ms h)) (λ h. exact a (ltb-false most_ms ms h))

  -- the definition answers as the rules say
  pub amount-judged : Judged (amount w f d u)
  unfolding amount whole_ms
  amount-judged =
      let n = total in
      let t = 10 ^ d in
      picked Judged (eqb (n % t) 0)
      (λ h. bounded-judged (n / t) (whole-amounts (eqb-true (n % t) 0 h)))
      (λ h. fine (none-amounts (eqb-false (n % t) 0 h)))

-- and the rules allow one answer
pub amount-one : {w f d u : ℕ} {x y : Result ℕ ℕ} → JudgedAmount w f d u x → JudgedAmount w f d u y → x ≡ y
amount-one (fine n) (fine m) = refl
amount-one (fine n) (long {ms} a l) = absurd (n ms a)
amount-one (fine n) (exact {ms} a l) = absurd (n ms a)
amount-one (long {ms} a l) (fine m) = absurd (m ms a)
amount-one (long a l) (long b m) = refl
amount-one (long a l) (exact b m) = absurd (let e = amounts-one a b in omega arith)
amount-one (exact {ms} a l) (fine m) = absurd (m ms a)
amount-one (exact a l) (long b m) = absurd (let e = amounts-one a b in omega arith)
amount-one (exact a l) (exact b m) = ap Ok (amounts-one a b)

-- so the definition is the only answer that they allow
pub amount-only : (w f d u : ℕ) {x : Result ℕ ℕ} → JudgedAmount w f d u x → amount w f d u ≡ x
amount-only w f d u h = amount-one (amount-judged w f d u) h

-- The code's way to it: whole milliseconds apart from the parts of one.

pub parts_whole : (ms n scale : ℕ) {x : Result ℕ ℕ} → 0 < scale → n % scale ≡ 0 → x ≡ bounded_ms (ms + n / scale) → x ≡ whole_ms (ms * scale + n) scale
unfolding whole_ms
parts_whole ms n scale p e h = rw (mul-add-mod_self_right ms scale n, e, mul-add-div_right p ms n) h

pub parts-rest : (ms n scale : ℕ) → 0 < scale → (n % scale ≡ 0 → ⊥) → Err 18 ≡ whole_ms (ms * scale + n) scale
unfolding whole_ms
parts-rest ms n scale p e = rw (mul-add-mod_self_right ms scale n, ne_eqb (n % scale) 0 e)

-- the amount by whole milliseconds and parts
pub by_parts : (w f d u : ℕ) {x : Result ℕ ℕ} → x ≡ whole_ms (w * u * 10 ^ d + f * u) (10 ^ d) → x ≡ amount w f d u
unfolding amount
by_parts w f d u {x} h =
    let t = 10 ^ d in
    let e : w * u * t + f * u ≡ (w * t + f) * u = omega arith in
    h ∙ ap (λ (n : ℕ). whole_ms n t) e

-- more than 32 bits hold, and what they hold
pub too_long : (ms : ℕ) → most_ms < ms → Err 17 ≡ bounded_ms ms
unfolding bounded_ms
too_long ms h = rw (lt-ltb most_ms ms h)

pub not-long : (ms : ℕ) {n : ℕ} → n ≡ ms → ms ≤ most_ms → Ok n ≡ bounded_ms ms
unfolding bounded_ms
not-long ms e h = rw (e, le-ltb most_ms ms h)

-- whole milliseconds alone: no parts of one
pub no-parts : (w f d u : ℕ) {x : Result ℕ ℕ} → f * u ≡ 0 → x ≡ bounded_ms (w * u + 0) → x ≡ amount w f d u
no-parts w f d u z h =
    let t = 10 ^ d in
    by_parts w f d u (rw z (parts_whole (w * u) 0 t (ten-pos d) (zero-mod t) (rw (zero-div t) h)))

-- a fraction of so many digits that a millisecond has more parts than it
pub fine-parts : (w f d u : ℕ) → (f * u ≡ 0 → ⊥) → f * u < 10 ^ d → Err 18 ≡ amount w f d u
fine-parts w f d u z few =
    let t = 10 ^ d in
    by_parts w f d u (parts-rest (w * u) (f * u) t (ten-pos d) (λ e. z (sym (mod-eq_of_lt few) ∙ e)))

-- both promises of an amount
pub judged-by : (w f d u : ℕ) {x : Result ℕ ℕ} → x ≡ amount w f d u → (x ≡ amount w f d u) × JudgedAmount w f d u x
judged-by w f d u h = (h, rw h (amount-judged w f d u))
