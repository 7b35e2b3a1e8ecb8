-- What a written duration amounts to, apart from how it is computed: a proportion of whole numbers, with no division and no rounding
-- (document 01, questions 17 and 18, as document 02 §2 has them).
use Rattle.std.specs.Prelude.{ℕ, ◌+◌, ◌*◌, ◌^◌, ◌<◌, ◌≤◌, ◌≡◌, Result, Ok, Err}

-- the whole part w and the fraction f of d digits, times a unit of u milliseconds, are exactly ms milliseconds
pub record Amounts (w f d u ms : ℕ) : Type 0 where
  pub proportion : ms * 10 ^ d ≡ (w * 10 ^ d + f) * u

-- "At most 4,294,967,295 ms? 17."
abbrev pub most_ms : ℕ
most_ms = 4294967295

-- "A duration shall be judged by its exact amount alone, with any number of fractional digits", and the answers by that amount
pub data JudgedAmount (w f d u : ℕ) : Result ℕ ℕ → Type 0 where
  -- "A whole number of milliseconds? 18." "Number 18 is asked first"
  fine : ((ms : ℕ) → Amounts w f d u ms → ⊥) → JudgedAmount w f d u (Err 18)
  -- "then 17, which now means only more than 4,294,967,295 ms"
  long : {ms : ℕ} → Amounts w f d u ms → most_ms < ms → JudgedAmount w f d u (Err 17)
  exact : {ms : ℕ} → Amounts w f d u ms → ms ≤ most_ms → JudgedAmount w f d u (Ok ms)
