-- A day set by the grammar is answered, where neither a comma nor `..` stands behind it and no token stands past the fuel. So there is only one.
use Prim.Native.Nat.{ℕ, zero, suc, ◌+◌, ◌<◌, ◌≤◌}
use native.Mathlib.Omega.{arith}
use mathlib.Core.Path.{◌≡◌, refl, ◌∙◌, ap}
use mathlib.Core.Bool.{Bool, false}
use mathlib.Core.List.{List}
use lib.ListN.{length}
use Rattle.text.specs.Literal.{ascii}
use Rattle.text.specs.Part.{same_bytes}
use Rattle.text.specs.Split.{split}
use Rattle.tokens.specs.Kind.{COMMA, POINTS}
use Rattle.tokens.specs.Result.{ok}
use Rattle.tokens.specs.Cursor.{Tok, is_word}
use Rattle.tokens.specs.Grammar.{token, Word, a_word}
use Rattle.tokens.specs.Phrase.{words_in, position}
use Rattle.tokens.proofs.Okay.{stands-before, not-kind, kind-yes, kind-no, word-yes}
use Rattle.tokens.proofs.PhraseLaws.{choice-complete}
use Rattle.model.specs.declared.Days.{Days}
use Rattle.days.specs.Days.{Range, is_in_any, days_of}
use Rattle.days.specs.Read.{day_words, day_at, last_day, range_at, ranges_from, no_day, day_set, on_days}
use Rattle.days.specs.Grammar.{Day, mon, tue, wed, thu, fri, sat, sun, DayRange, day, range, Ranges, one, more, DaySet, day_set_rule, OnDays, without, on}
use Rattle.days.proofs.DayLaws.{same_set}
use Rattle.days.proofs.GrammarSound.{day-small, with_range_lem, range-put, with_ranges, ranges_more, ranges-one, neither}

pub day-complete : {t : ℕ → Tok} {i d j : ℕ} → Day t i d j → day_at t i ≡ ok d j
unfolding day_at words_in split position same_bytes
day-complete {t} (mon w) = choice-complete t day_words 50 w refl refl
day-complete {t} (tue w) = choice-complete t day_words 50 w refl refl
day-complete {t} (wed w) = choice-complete t day_words 50 w refl refl
day-complete {t} (thu w) = choice-complete t day_words 50 w refl refl
day-complete {t} (fri w) = choice-complete t day_words 50 w refl refl
day-complete {t} (sat w) = choice-complete t day_words 50 w refl refl
day-complete {t} (sun w) = choice-complete t day_words 50 w refl refl

-- what may stand behind a day set: a comma and `..` go on with it
pub record StopsDays (t : ℕ → Tok) (i : ℕ) : Type 0 where
  pub no_comma : (t i).kind ≡ COMMA → ⊥
  pub no_points : (t i).kind ≡ POINTS → ⊥

module _ (t : ℕ → Tok) where
  range-complete : (f : ℕ → Bool) {i j : ℕ} {r : Range} → ((t j).kind ≡ POINTS → ⊥) → DayRange t i r j →
      range_at t (days_of f) i ≡ ok (days_of (with_range_lem r f)) j
  unfolding range_at last_day
  range-complete f {j = j} n (day {d = d} h) =
      rw (day-complete h, kind-no t POINTS j n) (ap (λ (x : Days). ok x j) (range-put f d d (day-small h) (day-small h)))
  range-complete f {j = j} n (range {d = d} {e = e} h (token p) g) =
      rw (day-complete h, kind-yes t refl p, day-complete g) (ap (λ (x : Days). ok x j) (range-put f d e (day-small h) (day-small g)))

  ranges-complete : (fuel : ℕ) (f : ℕ → Bool) {i j : ℕ} {rs : List Range} → StopsDays t j → length rs ≤ fuel → Ranges t i rs j →
      ranges_from t fuel (days_of f) i ≡ ok (days_of (with_ranges rs f)) j
  unfolding ranges_from
  ranges-complete zero f s l (one h) = absurd (omega arith)
  ranges-complete zero f s l (more h c g) = absurd (omega arith)
  ranges-complete (suc fuel) f {j = j} s l (one {r = r} h) =
      rw (range-complete f s.no_points h, kind-no t COMMA j s.no_comma) (ap (λ (x : Days). ok x j) (ranges-one r f))
  ranges-complete (suc fuel) f {j = j} s l (more {r = r} {rs = rs} h (token p) g) =
      rw (range-complete f (not-kind t POINTS refl p) h, kind-yes t refl p)
      (ranges-complete fuel (with_range_lem r f) s (omega arith) g ∙ ap (λ (x : Days). ok x j) (ranges_more r rs f))

  -- no token stands at fuel or behind it
  module _ {fuel : ℕ} (end : (k : ℕ) → fuel ≤ k → (t k).kind ≡ 0) where
    word-steps : {word : List ℕ} {i j : ℕ} → Word t word i j → (j ≡ i + 1) × (j ≤ fuel)
    word-steps (a_word p q) = let b = stands-before t end (λ e. omega arith) p in (refl, omega arith)

    day-steps : {i d j : ℕ} → Day t i d j → (j ≡ i + 1) × (j ≤ fuel)
    day-steps (mon w) = word-steps w
    day-steps (tue w) = word-steps w
    day-steps (wed w) = word-steps w
    day-steps (thu w) = word-steps w
    day-steps (fri w) = word-steps w
    day-steps (sat w) = word-steps w
    day-steps (sun w) = word-steps w

    range_steps : {i j : ℕ} {r : Range} → DayRange t i r j → (i < j) × (j ≤ fuel)
    range_steps (day h) = let s = day-steps h in (omega (arith, s.0), s.1)
    range_steps (range h (token p) g) = let s = day-steps h in let u = day-steps g in (omega (arith, s.0, u.0), u.1)

    ranges-steps : {i j : ℕ} {rs : List Range} → Ranges t i rs j → (i + length rs ≤ j) × (j ≤ fuel)
    ranges-steps (one h) = let s = range_steps h in (omega (arith, s.0), s.1)
    ranges-steps (more h (token p) g) = let s = range_steps h in let u = ranges-steps g in (omega (arith, s.0, u.0), u.1)

    -- a day set is answered
    pub day_set-complete : {i j : ℕ} {days : Days} → StopsDays t j → DaySet t i days j → day_set t fuel i ≡ ok days j
    unfolding day_set no_day
    day_set-complete {j = j} s (day_set_rule {rs = rs} h) =
        let u = ranges-steps h in
        ranges-complete fuel (λ d. false) s (omega (arith, u.0, u.1)) h ∙
        ap (λ (x : Days). ok x j) (same_set (with_ranges rs (λ d. false)) (is_in_any rs) (λ d l. neither (is_in_any rs d)))

    -- and so are the days behind a time, where no further `on` stands
    pub on_days-complete : {i j : ℕ} {days : Days} → StopsDays t j → is_word t (ascii "on") j ≡ false → OnDays t i days j → on_days t fuel i ≡ ok days j
    unfolding on_days
    on_days-complete s n without = rw n
    on_days-complete s n (on (a_word p q) h) = rw (word-yes t (a_word p q), day_set-complete s h)
