-- What is answered for a day set at a token (document 02, §1, and questions 20 and 50).
use Rattle.std.specs.Prelude.{ℕ, zero, suc, List, Bool, true, false, leb, ltb}
use Rattle.text.specs.Choice.{pick}
use Rattle.text.specs.Literal.{ascii}
use Rattle.tokens.specs.Kind.{COMMA, POINTS}
use Rattle.tokens.specs.Result.{Res, ok, bind, perhaps, refuse}
use Rattle.tokens.specs.Cursor.{Tok, is_kind, is_word}
use Rattle.tokens.specs.Phrase.{choice_at}
use Rattle.days.specs.Days.{days_of, has_day, every_day}
use Rattle.model.specs.declared.Days.{Days}

abbrev pub day_words : List ℕ
day_words = ascii "mon tue wed thu fri sat sun"

-- "It refuses a word that is no day with 50, at the word, when that word is read"; the value is the day's number
unfoldable pub day_at : (ℕ → Tok) → ℕ → Res ℕ
day_at t i = choice_at t day_words 50 i

-- the last day of a range whose first is read: behind `..`, or the same
unfoldable pub last_day : (ℕ → Tok) → ℕ → ℕ → Res ℕ
last_day t from i = perhaps (is_kind t POINTS i) i (λ j. day_at t j) (ok from i)

-- the code's way to tell whether a day is in a range: `covers-between` shows that it comes to the same
unfoldable pub covers : ℕ → ℕ → ℕ → Bool
covers from to d = pick (leb from to) (pick (leb from d) (leb d to) false) (pick (ltb to d) (leb from d) true)

-- whether a day is in a set once it gets a range, and that set
unfoldable pub gets_day : Days → ℕ → ℕ → ℕ → Bool
gets_day days from to d = pick (covers from to d) true (has_day days d)

unfoldable pub with_range : Days → ℕ → ℕ → Days
with_range days from to = days_of (gets_day days from to)

-- a day or a range, put to the days before it
unfoldable pub range_at : (ℕ → Tok) → Days → ℕ → Res Days
range_at t days i = bind (day_at t i) (λ from j. bind (last_day t from j) (λ to k. ok (with_range days from to) k))

-- the days or ranges from i on, put to those before; fuel bounds their number, and as much of it as there are tokens never runs out
unfoldable pub ranges_from : (ℕ → Tok) → ℕ → Days → ℕ → Res Days
ranges_from t zero days i = refuse 20 i
ranges_from t (suc fuel) days i =
    bind (range_at t days i) (λ more j. perhaps (is_kind t COMMA j) j (λ k. ranges_from t fuel more k) (ok more j))

unfoldable pub no_day : Days
no_day = days_of (λ d. false)

unfoldable pub day_set : (ℕ → Tok) → ℕ → ℕ → Res Days
day_set t fuel i = ranges_from t fuel no_day i

-- "`on` takes a day set"; "Without `on`, all seven count."
unfoldable pub on_days : (ℕ → Tok) → ℕ → ℕ → Res Days
on_days t fuel i = perhaps (is_word t (ascii "on") i) i (λ j. day_set t fuel j) (ok every_day i)
