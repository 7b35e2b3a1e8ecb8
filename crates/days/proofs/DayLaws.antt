-- Sets of days: what their bits come to, and ranges.
use Prim.Native.Nat.{ℕ, zero, suc, ◌+◌, ◌-◌, ◌*◌, ◌^◌, ◌<◌, ◌≤◌}
use native.Mathlib.Omega.{arith}
use mathlib.Core.Path.{◌≡◌, refl, ap, ◌∙◌}
use mathlib.Core.Bool.{Bool, true, false}
use mathlib.Core.List.{List}
use lib.Dec.{leb}
use borrow.Author.Tests.{le-leb, lt-leb, le-ltb, lt-ltb, leb-true, leb-false}
use Rattle.text.specs.Choice.{pick}
use Rattle.text.specs.Bits.{bits_from}
use Rattle.text.proofs.BitLaws.{bit-eqb, bits_at, bits_small}
use Rattle.model.specs.Limits.{week_days}
use Rattle.model.specs.declared.Days.{Days}
use Rattle.days.specs.Days.{forward, is_between, Range, is_in_any, days_of, has_day, every_day}
use Rattle.days.specs.Read.{covers, gets_day, with_range}

-- what follows from one number being at most another, and from its being more
by_order : {A : Type 0} (m n : ℕ) → (m ≤ n → A) → (n < m → A) → A
by_order {A} m n f g = go (leb m n) refl
  where
    go : (t : Bool) → leb m n ≡ t → A
    go true e = f (leb-true m n e)
    go false e = g (leb-false m n e)

-- a set has the days that it was made of
pub has-days : (f : ℕ → Bool) (d : ℕ) → d < week_days → has_day (days_of f) d ≡ f d
unfolding has_day days_of
has-days f d h = let e : 0 + d ≡ d = omega arith in rw (bits_at f 0 week_days d h, e) (bit-eqb (f d))

bits_same : (f g : ℕ → Bool) (n count : ℕ) → ((d : ℕ) → n ≤ d → d < n + count → f d ≡ g d) → bits_from f n count ≡ bits_from g n count
unfolding bits_from
bits_same f g n zero e = refl
bits_same f g n (suc count) e =
    rw (e n (omega arith) (omega arith), bits_same f g (suc n) count (λ d l h. e d (omega arith) (omega arith)))

-- and is told by them
pub same_set : (f g : ℕ → Bool) → ((d : ℕ) → d < week_days → f d ≡ g d) → days_of f ≡ days_of g
unfolding days_of
same_set f g e = ap (λ (n : ℕ). record { sum = n }) (bits_same f g 0 week_days (λ d l h. e d h))

-- "Without `on`, all seven count": seven days, however they are written, are the same set
pub all-seven : (rs : List Range) → ((d : ℕ) → d < week_days → is_in_any rs d ≡ true) → days_of (is_in_any rs) ≡ every_day
unfolding every_day
all-seven rs h = same_set (is_in_any rs) (λ d. true) h

-- the code's test of a range is the definition's, for days of the week
pub covers-between : (from to d : ℕ) → from < week_days → to < week_days → d < week_days → covers from to d ≡ is_between from to d
unfolding covers is_between forward
covers-between from to d hf ht hd =
    by_order from to
    (λ a.
    by_order from d
    (λ b.
    by_order d to
    (λ c. rw (le-leb from to a, le-leb from d b, le-leb d to c, le-leb (d - from) (to - from) (omega arith)))
    (λ c. rw (le-leb from to a, le-leb from d b, lt-leb d to c, lt-leb (d - from) (to - from) (omega arith))))
    (λ b. rw (le-leb from to a, lt-leb from d b, lt-leb (d + week_days - from) (to - from) (omega arith))))
    (λ a.
    by_order d to
    (λ c.
    let b : d < from = omega arith in
    rw (lt-leb from to a, le-ltb to d c, lt-leb from d b, le-leb (d + week_days - from) (to + week_days - from) (omega arith)))
    (λ c.
    by_order from d
    (λ b. rw (lt-leb from to a, lt-ltb to d c, le-leb from d b, le-leb (d - from) (to + week_days - from) (omega arith)))
    (λ b. rw (lt-leb from to a, lt-ltb to d c, lt-leb from d b, lt-leb (d + week_days - from) (to + week_days - from) (omega arith)))))

-- The loop that makes a set, from the last day down: left days are to be seen yet.
pub record Summed (f : ℕ → Bool) (left sum : ℕ) : Type 0 where
  pub few : left ≤ week_days
  pub same : sum ≡ bits_from f left (week_days - left)

pub nothing-summed : (f : ℕ → Bool) → Summed f week_days 0
unfolding bits_from
nothing-summed f = record { few = omega arith; same = refl }

-- one day more: its bit, and twice the sum
pub day-summed : {f : ℕ → Bool} {left sum : ℕ} → Summed f left sum → 0 < left → {more : ℕ} → more ≡ pick (f (left - 1)) 1 0 + 2 * sum →
    Summed f (left - 1) more
unfolding bits_from
day-summed {f} {left} {sum} h l {more} e =
    let few = h.few in
    let next : suc (left - 1) ≡ left = omega arith in
    let rest : week_days - (left - 1) ≡ suc (week_days - left) = omega arith in
    record { few = omega arith; same = e ∙ rw (rest, next, ← h.same) }

pub all-summed : {f : ℕ → Bool} {sum : ℕ} → Summed f 0 sum → record { sum = sum } ≡ days_of f
unfolding days_of
all-summed h = ap (λ (n : ℕ). record { sum = n }) h.same

-- a sum is less than 128
power-least : (n : ℕ) → n ≤ 7 → 2 ^ n ≤ 128
power-least zero h = omega arith
power-least (suc zero) h = omega arith
power-least (suc (suc zero)) h = omega arith
power-least (suc (suc (suc zero))) h = omega arith
power-least (suc (suc (suc (suc zero)))) h = omega arith
power-least (suc (suc (suc (suc (suc zero))))) h = omega arith
power-least (suc (suc (suc (suc (suc (suc zero)))))) h = omega arith
power-least (suc (suc (suc (suc (suc (suc (suc zero))))))) h = omega arith
power-least (suc (suc (suc (suc (suc (suc (suc (suc n)))))))) h = absurd (omega arith)

pub summed-small : {f : ℕ → Bool} {left sum : ℕ} → Summed f left sum → sum < 128
summed-small {f} {left} {sum} h =
    let few = h.few in
    let same = h.same in
    let small = bits_small f left (week_days - left) in
    let most = power-least (week_days - left) (omega arith) in
    omega arith

-- the loop's turns, by what the day's test said
pub bit-more : {f : ℕ → Bool} {left sum : ℕ} {r : Bool} → Summed f left sum → 0 < left → r ≡ f (left - 1) → r ≡ true → Summed f (left - 1) (sum * 2 + 1)
bit-more {f} {left} {sum} h l e t = day-summed h l (rw (← e, t) (omega arith))

pub bit-less : {f : ℕ → Bool} {left sum : ℕ} {r : Bool} → Summed f left sum → 0 < left → r ≡ f (left - 1) → r ≡ false → Summed f (left - 1) (sum * 2)
bit-less {f} {left} {sum} h l e t = day-summed h l (rw (← e, t) (omega arith))

pub range-summed : (days : Days) (from to : ℕ) {left sum : ℕ} → Summed (gets_day days from to) left sum → left ≤ 0 → record { sum = sum } ≡ with_range days from to
unfolding with_range
range-summed days from to {left} {sum} h l =
    let e : left ≡ 0 = omega arith in
    all-summed (rw e at h)
