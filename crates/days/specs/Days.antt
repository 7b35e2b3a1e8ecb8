-- Days of the week and sets of them (document 02, §1).
use Rattle.std.specs.Prelude.{ℕ, ◌+◌, ◌-◌, List, [], ◌∷◌, Bool, true, false, leb, eqb}
use Rattle.text.specs.Choice.{pick}
use Rattle.text.specs.Bits.{bits_from, digit}
use Rattle.model.specs.Limits.{week_days}
use Rattle.model.specs.declared.Days.{Days}

-- how many days it is forward from one day to another; 0 is Monday, 6 is Sunday
unfoldable pub forward : ℕ → ℕ → ℕ
forward from to = pick (leb from to) (to - from) (to + week_days - from)

-- "A range runs forward and may pass the end of the week: `fri..mon` is four days, `mon..mon` one": a day is in it if it is reached from the first no
-- later than the last
unfoldable pub is_between : ℕ → ℕ → ℕ → Bool
is_between from to d = leb (forward from d) (forward from to)

-- a range by its first and its last day; a day by itself is the range from it to it
pub record Range : Type 0 where
  pub from : ℕ
  pub to : ℕ

-- whether a day is in one of the ranges
unfoldable pub is_in_any : List Range → ℕ → Bool
is_in_any [] d = false
is_in_any (r ∷ rs) d = pick (is_between r.from r.to d) true (is_in_any rs d)

-- the set of the days that pass a test
unfoldable pub days_of : (ℕ → Bool) → Days
days_of in-set = record { sum = bits_from in-set 0 week_days }

-- whether a day is in a set
unfoldable pub has_day : Days → ℕ → Bool
has_day days d = eqb (digit days.sum d) 1

-- "Without `on`, all seven count."
unfoldable pub every_day : Days
every_day = days_of (λ d. true)
