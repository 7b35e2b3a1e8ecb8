-- What is answered as a day set is one by the grammar, whatever the fuel.
use Prim.Native.Nat.{ℕ, zero, suc, ◌+◌, ◌<◌, ◌≤◌}
use native.Mathlib.Omega.{arith}
use mathlib.Core.Path.{◌≡◌, refl, sym, ◌∙◌, subst}
use mathlib.Core.Bool.{Bool, true, false}
use mathlib.Core.List.{List, [], ◌∷◌}
use Rattle.text.specs.Choice.{pick}
use Rattle.text.specs.Literal.{ascii}
use Rattle.text.specs.Split.{split}
use Rattle.tokens.specs.Kind.{COMMA, POINTS}
use Rattle.tokens.specs.Cursor.{Tok, is_kind, is_word}
use Rattle.tokens.specs.Grammar.{a_word}
use Rattle.tokens.specs.Phrase.{words_in}
use Rattle.tokens.proofs.Okay.{Okay, bind_ok, perhaps-ok, mapped, is_kind_lem, is_word_lem}
use Rattle.tokens.proofs.PhraseLaws.{choice-sound}
use Rattle.model.specs.Limits.{week_days}
use Rattle.model.specs.declared.Days.{Days}
use Rattle.days.specs.Days.{is_between, Range, is_in_any, days_of}
use Rattle.days.specs.Read.{day_words, day_at, last_day, gets_day, with_range, range_at, ranges_from, no_day, day_set, on_days}
use Rattle.days.specs.Grammar.{Day, mon, tue, wed, thu, fri, sat, sun, DayRange, day, range, Ranges, one, more, DaySet, day_set_rule, OnDays, without, on}
use Rattle.days.proofs.DayLaws.{has-days, same_set, covers-between}

-- a day of the week has a number below 7
pub day-small : {t : ℕ → Tok} {i d j : ℕ} → Day t i d j → d < week_days
day-small (mon w) = omega arith
day-small (tue w) = omega arith
day-small (wed w) = omega arith
day-small (thu w) = omega arith
day-small (fri w) = omega arith
day-small (sat w) = omega arith
day-small (sun w) = omega arith

-- a range put to a set, by the definition's test
abbrev pub with_range_lem : Range → (ℕ → Bool) → ℕ → Bool
with_range_lem r f d = pick (is_between r.from r.to d) true (f d)

pub range-put : (f : ℕ → Bool) (from to : ℕ) → from < week_days → to < week_days →
    with_range (days_of f) from to ≡ days_of (with_range_lem (record { from = from; to = to }) f)
unfolding with_range gets_day
range-put f from to a b =
    same_set (gets_day (days_of f) from to) (with_range_lem (record { from = from; to = to }) f)
    (λ d h. rw (covers-between from to d a b h, has-days f d h))

-- ranges put to a set
abbrev pub with_ranges : List Range → (ℕ → Bool) → ℕ → Bool
with_ranges rs f d = pick (is_in_any rs d) true (f d)

either : (a b c : Bool) → pick b true (pick a true c) ≡ pick (pick a true b) true c
either true true c = refl
either true false c = refl
either false b c = refl

pub ranges_more : (r : Range) (rs : List Range) (f : ℕ → Bool) → days_of (with_ranges rs (with_range_lem r f)) ≡ days_of (with_ranges (r ∷ rs) f)
unfolding is_in_any
ranges_more r rs f =
    same_set (with_ranges rs (with_range_lem r f)) (with_ranges (r ∷ rs) f) (λ d h. either (is_between r.from r.to d) (is_in_any rs d) (f d))

pub ranges-one : (r : Range) (f : ℕ → Bool) → days_of (with_range_lem r f) ≡ days_of (with_ranges (r ∷ []) f)
unfolding is_in_any
ranges-one r f = same_set (with_range_lem r f) (with_ranges (r ∷ []) f) (λ d h. either (is_between r.from r.to d) false (f d))

pub neither : (b : Bool) → pick b true false ≡ b
neither true = refl
neither false = refl

module _ (t : ℕ → Tok) where
  day-sound : (i : ℕ) → Okay (Day t i) (day_at t i)
  unfolding day_at words_in split
  day-sound i =
      choice-sound t (Day t i) day_words 50 i
      ((λ j w. mon w), ((λ j w. tue w), ((λ j w. wed w), ((λ j w. thu w), ((λ j w. fri w), ((λ j w. sat w), ((λ j w. sun w), tt)))))))

  -- a day is one token, and a range goes on behind its own
  day-is_one : {i d j : ℕ} → Day t i d j → j ≡ i + 1
  day-is_one (mon (a_word p q)) = refl
  day-is_one (tue (a_word p q)) = refl
  day-is_one (wed (a_word p q)) = refl
  day-is_one (thu (a_word p q)) = refl
  day-is_one (fri (a_word p q)) = refl
  day-is_one (sat (a_word p q)) = refl
  day-is_one (sun (a_word p q)) = refl

  last-goes_on : (from i : ℕ) → Okay (λ (to : ℕ) j. i ≤ j) (last_day t from i)
  unfolding last_day
  last-goes_on from i =
      perhaps-ok (λ (to : ℕ) j. i ≤ j) (is_kind t POINTS i) i _ _
      (λ e. mapped (λ (to : ℕ) j. i ≤ j) (day_at t (i + 1)) (day-sound (i + 1)) (λ to j h. let s = day-is_one h in omega arith)) (λ e. omega arith)

  pub range-goes_on : (days : Days) (i : ℕ) → Okay (λ (more : Days) j. i < j) (range_at t days i)
  unfolding range_at
  range-goes_on days i =
      bind_ok (λ (more : Days) j. i < j) (day_at t i) _ (day-sound i)
      (λ from j h.
      bind_ok (λ (more : Days) j. i < j) (last_day t from j) _ (last-goes_on from j) (λ to k l. let s = day-is_one h in omega arith))

  -- one range, and the set with it
  abbrev Put : (ℕ → Bool) → ℕ → Days → ℕ → Type 0
  Put f i days j = (r : Range) × DayRange t i r j × (days ≡ days_of (with_range_lem r f))

  range-sound : (f : ℕ → Bool) (i : ℕ) → Okay (Put f i) (range_at t (days_of f) i)
  unfolding range_at last_day
  range-sound f i =
      bind_ok (Put f i) (day_at t i) _ (day-sound i)
      (λ from j h.
      bind_ok (Put f i) (last_day t from j) _
      (perhaps-ok (λ to k. DayRange t i (record { from = from; to = to }) k × (to < week_days)) (is_kind t POINTS j) j _ _
      (λ e. mapped _ (day_at t (j + 1)) (day-sound (j + 1)) (λ to k g. (range h (is_kind_lem t POINTS j e) g, day-small g)))
      (λ e. (day h, day-small h)))
      (λ to k g. (record { from = from; to = to }, g.0, range-put f from to (day-small h) g.1)))

  abbrev PutAll : (ℕ → Bool) → ℕ → Days → ℕ → Type 0
  PutAll f i days j = (rs : List Range) × Ranges t i rs j × (days ≡ days_of (with_ranges rs f))

  ranges-sound : (fuel : ℕ) (f : ℕ → Bool) (i : ℕ) → Okay (PutAll f i) (ranges_from t fuel (days_of f) i)
  unfolding ranges_from
  ranges-sound zero f i = tt
  ranges-sound (suc fuel) f i =
      bind_ok (PutAll f i) (range_at t (days_of f) i) _ (range-sound f i)
      (λ days j h.
      perhaps-ok (PutAll f i) (is_kind t COMMA j) j _ _
      (λ e.
      mapped (PutAll f i) (ranges_from t fuel days (j + 1))
      (subst (λ (x : Days). Okay (PutAll (with_range_lem h.0 f) (j + 1)) (ranges_from t fuel x (j + 1))) (sym h.2) (ranges-sound fuel (with_range_lem h.0 f) (j + 1)))
      (λ all k g. (h.0 ∷ g.0, more h.1 (is_kind_lem t COMMA j e) g.1, g.2 ∙ ranges_more h.0 g.0 f)))
      (λ e. (h.0 ∷ [], one h.1, h.2 ∙ ranges-one h.0 f)))

  -- what is answered is a day set
  pub day_set-sound : (fuel i : ℕ) → Okay (DaySet t i) (day_set t fuel i)
  unfolding day_set no_day
  day_set-sound fuel i =
      mapped (DaySet t i) (ranges_from t fuel no_day i) (ranges-sound fuel (λ d. false) i)
      (λ days j h.
      subst (λ (x : Days). DaySet t i x j)
      (sym (h.2 ∙ same_set (with_ranges h.0 (λ d. false)) (is_in_any h.0) (λ d l. neither (is_in_any h.0 d)))) (day_set_rule h.1))

  -- and so is what is answered behind a time
  pub on_days-sound : (fuel i : ℕ) → Okay (OnDays t i) (on_days t fuel i)
  unfolding on_days
  on_days-sound fuel i =
      perhaps-ok (OnDays t i) (is_word t (ascii "on") i) i _ _
      (λ e. mapped (OnDays t i) (day_set t fuel (i + 1)) (day_set-sound fuel (i + 1)) (λ days j h. on (is_word_lem t (ascii "on") i e) h)) (λ e. without)
