-- SOLAR and time bounds (document 01, "Grammar", and question 36).
use Rattle.std.specs.Prelude.{ℕ, Bool, true, false, leb, eqb, pos}
use Rattle.text.specs.Choice.{pick}
use Rattle.text.specs.Literal.{ascii}
use Rattle.tokens.specs.Result.{Res, ok, bind, perhaps, refuse}
use Rattle.tokens.specs.Kind.{TIME, DURATION, PLUS, MINUS}
use Rattle.tokens.specs.Cursor.{Tok, is_kind, take_kind}
use Rattle.tokens.specs.Phrase.{choice_at}
use Rattle.model.specs.declared.SolarEvent.{SolarEvent}
use Rattle.model.specs.declared.SolarEvent.TheVariants.{Sunrise, Sunset}
use Rattle.model.specs.declared.TimeBound.{TimeBound}
use Rattle.model.specs.declared.TimeBound.TheVariants.{Clock, Solar}
use Rattle.language.specs.Limits.{most_later, most_earlier}
use Rattle.language.specs.Words.{signed}

-- the longest offset on each side of 0 that 32 signed bits hold
unfoldable pub most_offset : Bool → ℕ
most_offset true = most_earlier
most_offset false = most_later

-- "Solar offset within 32 signed bits? 36", at the duration
unfoldable pub offset_bound : SolarEvent → Bool → ℕ → ℕ → ℕ → Res TimeBound
offset_bound event minus i ms j = pick (leb ms (most_offset minus)) (ok (Solar event (signed minus ms)) j) (refuse 36 i)

unfoldable pub offset_at : (ℕ → Tok) → SolarEvent → Bool → ℕ → Res TimeBound
offset_at t event minus i = bind (take_kind t DURATION i) (λ ms j. offset_bound event minus i ms j)

-- "perhaps + or - DURATION"
unfoldable pub with_offset : (ℕ → Tok) → SolarEvent → ℕ → Res TimeBound
with_offset t event i =
    perhaps (is_kind t PLUS i) i (λ j. offset_at t event false j)
    (perhaps (is_kind t MINUS i) i (λ j. offset_at t event true j) (ok (Solar event (pos 0)) i))

-- "SOLAR: sunrise or sunset, perhaps + or - DURATION"
unfoldable pub solar_event : ℕ → SolarEvent
solar_event n = pick (eqb n 0) Sunrise Sunset

unfoldable pub solar_at : (ℕ → Tok) → ℕ → Res TimeBound
solar_at t i = bind (choice_at t (ascii "sunrise sunset") 21 i) (λ n j. with_offset t (solar_event n) j)

-- "A time bound is a TIME or a SOLAR."
unfoldable pub time_bound : (ℕ → Tok) → ℕ → Res TimeBound
time_bound t i = pick (is_kind t TIME i) (bind (take_kind t TIME i) (λ m j. ok (Clock m) j)) (solar_at t i)
