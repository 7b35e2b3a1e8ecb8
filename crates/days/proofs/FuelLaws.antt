-- A day set never runs out of its count of ranges: if that is at least as much as there are tokens, more of it changes nothing.
use Prim.Native.Nat.{ℕ, zero, suc, ◌+◌, ◌≤◌}
use native.Mathlib.Omega.{arith}
use mathlib.Core.Path.{◌≡◌, refl, sym}
use Rattle.text.specs.Literal.{ascii}
use Rattle.tokens.specs.Kind.{WORD, COMMA}
use Rattle.tokens.specs.Result.{refuse}
use Rattle.tokens.specs.Cursor.{Tok, is_kind, is_word, take_kind}
use Rattle.tokens.specs.Phrase.{choice_at}
use Rattle.tokens.proofs.Okay.{bind-alike, perhaps-alike, kind-no}
use Rattle.model.specs.declared.Days.{Days}
use Rattle.days.specs.Read.{day_at, range_at, ranges_from, no_day, day_set, on_days}
use Rattle.days.proofs.GrammarSound.{range-goes_on}

-- where no token stands, no day does
no_day-here : (t : ℕ → Tok) (days : Days) (i : ℕ) → (t i).kind ≡ 0 → range_at t days i ≡ refuse 20 i
unfolding range_at day_at choice_at take_kind
no_day-here t days i e = rw (kind-no t WORD i (λ w. omega arith))

-- no token stands at n or behind it
module _ (t : ℕ → Tok) {n : ℕ} (end : (k : ℕ) → n ≤ k → (t k).kind ≡ 0) where
  none_left : (k : ℕ) (days : Days) (i : ℕ) → n ≤ i → ranges_from t k days i ≡ refuse 20 i
  unfolding ranges_from
  none_left zero days i h = refl
  none_left (suc k) days i h = rw (no_day-here t days i (end i h))

  -- a range takes a token, so that the tokens come to their end no later than the count does
  ranges_fuel : (m k : ℕ) (days : Days) (i : ℕ) → n ≤ i + m → n ≤ i + k → ranges_from t m days i ≡ ranges_from t k days i
  unfolding ranges_from
  ranges_fuel zero k days i p q = sym (none_left k days i (omega arith))
  ranges_fuel (suc m) zero days i p q = none_left (suc m) days i (omega arith)
  ranges_fuel (suc m) (suc k) days i p q =
      bind-alike (range_at t days i) _ _ (range-goes_on t days i)
      (λ more j next. perhaps-alike (is_kind t COMMA j) j _ _ _ (λ e. ranges_fuel m k more (j + 1) (omega arith) (omega arith)))

  -- a day set is answered alike with any count that is at least the number of tokens, and so are the days behind a time
  pub day_set_fuel : {m k : ℕ} → n ≤ m → n ≤ k → (i : ℕ) → day_set t m i ≡ day_set t k i
  unfolding day_set
  day_set_fuel {m} {k} p q i = ranges_fuel m k no_day i (omega arith) (omega arith)

  pub on_days_fuel : {m k : ℕ} → n ≤ m → n ≤ k → (i : ℕ) → on_days t m i ≡ on_days t k i
  unfolding on_days
  on_days_fuel p q i = perhaps-alike (is_word t (ascii "on") i) i _ _ _ (λ e. day_set_fuel p q (i + 1))
