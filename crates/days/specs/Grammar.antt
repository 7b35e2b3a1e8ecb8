-- The grammar of day sets (document 02, §1): "A day set is days or ranges parted by commas; days are mon, tue, wed, thu, fri, sat, sun, and `..` joins a
-- range." `Form t i v j`: the tokens from i up to j read as v. No rule says how a set is gathered: its value is the set of the days that are in a range of it.
use Rattle.std.specs.Prelude.{ℕ, List, [], ◌∷◌}
use Rattle.text.specs.Literal.{ascii}
use Rattle.tokens.specs.Kind.{COMMA, POINTS}
use Rattle.tokens.specs.Cursor.{Tok}
use Rattle.tokens.specs.Grammar.{Token, Word}
use Rattle.days.specs.Days.{Range, is_in_any, days_of, every_day}
use Rattle.model.specs.declared.Days.{Days}

pub data Day (t : ℕ → Tok) : ℕ → ℕ → ℕ → Type 0 where
  mon : {i j : ℕ} → Word t (ascii "mon") i j → Day t i 0 j
  tue : {i j : ℕ} → Word t (ascii "tue") i j → Day t i 1 j
  wed : {i j : ℕ} → Word t (ascii "wed") i j → Day t i 2 j
  thu : {i j : ℕ} → Word t (ascii "thu") i j → Day t i 3 j
  fri : {i j : ℕ} → Word t (ascii "fri") i j → Day t i 4 j
  sat : {i j : ℕ} → Word t (ascii "sat") i j → Day t i 5 j
  sun : {i j : ℕ} → Word t (ascii "sun") i j → Day t i 6 j

pub data DayRange (t : ℕ → Tok) : ℕ → Range → ℕ → Type 0 where
  day : {i d j : ℕ} → Day t i d j → DayRange t i (record { from = d; to = d }) j
  range : {i d j a k e l : ℕ} → Day t i d j → Token t POINTS j a k → Day t k e l → DayRange t i (record { from = d; to = e }) l

-- days or ranges parted by commas
pub data Ranges (t : ℕ → Tok) : ℕ → List Range → ℕ → Type 0 where
  one : {i j : ℕ} {r : Range} → DayRange t i r j → Ranges t i (r ∷ []) j
  more : {i j a k l : ℕ} {r : Range} {rs : List Range} → DayRange t i r j → Token t COMMA j a k → Ranges t k rs l → Ranges t i (r ∷ rs) l

pub data DaySet (t : ℕ → Tok) : ℕ → Days → ℕ → Type 0 where
  day_set_rule : {i j : ℕ} {rs : List Range} → Ranges t i rs j → DaySet t i (days_of (is_in_any rs)) j

-- "After `at` and its TIME or SOLAR, `on` takes a day set"; "Without `on`, all seven count."
pub data OnDays (t : ℕ → Tok) : ℕ → Days → ℕ → Type 0 where
  without : {i : ℕ} → OnDays t i every_day i
  on : {i j k : ℕ} {days : Days} → Word t (ascii "on") i j → DaySet t j days k → OnDays t i days k
