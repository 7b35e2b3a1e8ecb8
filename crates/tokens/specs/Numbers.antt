-- How great a token's number can be, by its kind. proofs/NumberLaws.antt shows it of every lexing by the rules (Rules.antt).
use Rattle.std.specs.Prelude.{ℕ, ◌<◌, ◌≤◌, ◌≡◌}
use Rattle.tokens.specs.Kind.{INTEGER, TIME, DURATION}
use Rattle.tokens.specs.Amount.{most_ms}
use Rattle.tokens.specs.Rules.{most_run}
use Rattle.tokens.specs.Cursor.{Tok}

-- the minutes of a day, from 00:00 up to "at most 23:59"
abbrev pub day_minutes : ℕ
day_minutes = 1440

-- a token of this kind can have this number
pub record NumberOfKind (kind number : ℕ) : Type 0 where
  -- "Each digit run at most 1,000,000,000"
  pub integer : kind ≡ INTEGER → number ≤ most_run
  -- "time (hour × 60 + minute)"
  pub time : kind ≡ TIME → number < day_minutes
  -- "At most 4,294,967,295 ms? 17."
  pub duration : kind ≡ DURATION → number ≤ most_ms

-- each of these tokens has a number that its kind can have
abbrev pub TokenNumbers : (ℕ → Tok) → Type 0
TokenNumbers t = (i : ℕ) → NumberOfKind (t i).kind (t i).number
