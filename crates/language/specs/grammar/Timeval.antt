-- "SOLAR: sunrise or sunset, perhaps + or - DURATION. A time bound is a TIME or a SOLAR."
use Rattle.std.specs.Prelude.{ℕ, ◌≤◌, pos, neg_ℤ}
use Rattle.text.specs.Literal.{ascii}
use Rattle.tokens.specs.Kind.{TIME, DURATION, PLUS, MINUS}
use Rattle.tokens.specs.Cursor.{Tok}
use Rattle.tokens.specs.Grammar.{Token, EitherWord}
use Rattle.model.specs.declared.SolarEvent.{SolarEvent}
use Rattle.model.specs.declared.SolarEvent.TheVariants.{Sunrise, Sunset}
use Rattle.model.specs.declared.TimeBound.{TimeBound}
use Rattle.model.specs.declared.TimeBound.TheVariants.{Clock, Solar}
use Rattle.language.specs.Limits.{most_later, most_earlier}

abbrev pub SolarEventOf : (ℕ → Tok) → ℕ → SolarEvent → ℕ → Type 0
SolarEventOf t i event j = EitherWord t (ascii "sunrise") Sunrise (ascii "sunset") Sunset i event j

-- the offset is within 32 signed bits (36)
pub data Bound (t : ℕ → Tok) : ℕ → TimeBound → ℕ → Type 0 where
  clock : {i m j : ℕ} → Token t TIME i m j → Bound t i (Clock m) j
  solar : {i j : ℕ} {event : SolarEvent} → SolarEventOf t i event j → Bound t i (Solar event (pos 0)) j
  later : {i j a k ms l : ℕ} {event : SolarEvent} → SolarEventOf t i event j → Token t PLUS j a k → Token t DURATION k ms l → ms ≤ most_later →
      Bound t i (Solar event (pos ms)) l
  earlier : {i j a k ms l : ℕ} {event : SolarEvent} → SolarEventOf t i event j → Token t MINUS j a k → Token t DURATION k ms l → ms ≤ most_earlier →
      Bound t i (Solar event (neg_ℤ (pos ms))) l
