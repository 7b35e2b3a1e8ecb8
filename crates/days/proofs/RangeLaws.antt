-- A day set that a text can give has at least one day, and none but the seven.
use Prim.Native.Nat.{ℕ, zero, suc, ◌+◌, ◌-◌, ◌<◌, ◌≤◌}
use native.Mathlib.Omega.{arith}
use mathlib.Core.Path.{◌≡◌, refl}
use mathlib.Core.Bool.{Bool, true}
use mathlib.Core.List.{List, [], ◌∷◌}
use borrow.Author.Tests.{le-leb}
use Rattle.text.specs.Bits.{bits_from}
use Rattle.text.proofs.BitLaws.{bits_small}
use Rattle.tokens.specs.Cursor.{Tok}
use Rattle.model.specs.Limits.{week_days}
use Rattle.model.specs.Ranges.{DaysInRange}
use Rattle.model.specs.declared.Days.{Days}
use Rattle.days.specs.Days.{forward, is_between, Range, is_in_any, days_of, every_day}
use Rattle.days.specs.Grammar.{DayRange, day, range, Ranges, one, more, DaySet, day_set_rule, OnDays, without, on}
use Rattle.days.proofs.GrammarSound.{day-small}

bits_some : (f : ℕ → Bool) (n count k : ℕ) → k < count → f (n + k) ≡ true → 1 ≤ bits_from f n count
unfolding bits_from
bits_some f n zero k h e = absurd (omega arith)
bits_some f n (suc count) zero h e =
    let z : n + 0 ≡ n = omega arith in
    let t : f n ≡ true = rw z at e in
    rw t (omega arith)
bits_some f n (suc count) (suc k) h e =
    let z : n + suc k ≡ suc n + k = omega arith in
    let rest = bits_some f (suc n) count k (omega arith) (rw z at e) in
    omega arith

days_in : (f : ℕ → Bool) (d : ℕ) → d < week_days → f d ≡ true → DaysInRange (days_of f)
unfolding DaysInRange days_of
days_in f d h e =
    let z : 0 + d ≡ d = omega arith in
    (bits_some f 0 week_days d h (rw z e), bits_small f 0 week_days)

-- the first day of a range is in it
from_in : (from to : ℕ) → is_between from to from ≡ true
unfolding is_between forward
from_in from to =
    let z : from - from ≡ 0 = omega arith in
    rw (le-leb from from (omega arith), z) (le-leb 0 (forward from to) (omega arith))

range_small : {t : ℕ → Tok} {i j : ℕ} {r : Range} → DayRange t i r j → r.from < week_days
range_small (day h) = day-small h
range_small (range h p g) = day-small h

ranges_in : {t : ℕ → Tok} {i j : ℕ} {rs : List Range} → Ranges t i rs j → DaysInRange (days_of (is_in_any rs))
unfolding is_in_any
ranges_in (one {r = r} h) = days_in (is_in_any (r ∷ [])) r.from (range_small h) (rw (from_in r.from r.to))
ranges_in (more {r = r} {rs = rs} h c g) = days_in (is_in_any (r ∷ rs)) r.from (range_small h) (rw (from_in r.from r.to))

pub day_set_in : {t : ℕ → Tok} {i j : ℕ} {days : Days} → DaySet t i days j → DaysInRange days
day_set_in (day_set_rule h) = ranges_in h

pub on_days_in : {t : ℕ → Tok} {i j : ℕ} {days : Days} → OnDays t i days j → DaysInRange days
unfolding every_day
on_days_in without = days_in (λ d. true) 0 (omega arith) refl
on_days_in (on w h) = day_set_in h
