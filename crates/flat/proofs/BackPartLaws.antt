-- The parts of an entry are read back from their words: choices, numbers, and what is made of them.
use Rattle.std.specs.Prelude.{Option, Some, None}
use Prim.Native.Nat.{ℕ, ◌+◌, ◌*◌, ◌-◌, ◌^◌}
use native.Mathlib.Omega.{arith}
use mathlib.Core.Path.{◌≡◌, refl, ◌∙◌, ap}
use mathlib.Core.List.{[], ◌∷◌, ◌++◌}
use mathlib.Core.Bool.{false}
use lib.Dec.{eqb}
use lib.IntN.{ℤ, pos, negsuc}
use borrow.Author.Tests.{lt-ltb, le-ltb, ne_eqb}
use Rattle.model.specs.declared.Aggregate.{Aggregate}
use Rattle.model.specs.declared.Comparison.{Comparison}
use Rattle.model.specs.declared.Crossing.{Crossing}
use Rattle.model.specs.declared.Event.{Event}
use Rattle.model.specs.declared.EventReading.{EventReading}
use Rattle.model.specs.declared.GroupReading.{GroupReading}
use Rattle.model.specs.declared.Hcl.{Hcl}
use Rattle.model.specs.declared.InputReading.{InputReading}
use Rattle.model.specs.declared.LampReading.{LampReading}
use Rattle.model.specs.declared.Name.{Name}
use Rattle.model.specs.declared.Occupancy.{Occupancy}
use Rattle.model.specs.declared.Online.{Online}
use Rattle.model.specs.declared.Operand.{Operand}
use Rattle.model.specs.declared.Override.{Override}
use Rattle.model.specs.declared.Power.{Power}
use Rattle.model.specs.declared.Reading.{Reading}
use Rattle.model.specs.declared.SolarEvent.{SolarEvent}
use Rattle.model.specs.declared.Sun.{Sun}
use Rattle.model.specs.declared.SunReading.{SunReading}
use Rattle.model.specs.declared.TimeBound.{TimeBound}
use Rattle.model.specs.declared.TimeReading.{TimeReading}
use Rattle.model.specs.declared.Value.{Value}
use Rattle.flat.specs.Back.{word, coded, headed, name_back, power_back, occupancy_back, crossing_back, aggregate_back, online_back, override_back, sun_back, hcl_back, solar_back, comparison_back, signed_back, offset_back, number_back, type_back, event_back, bound_back, reading_back, value_back, operand_back}
use Rattle.flat.specs.Codes.{power_code, occupancy_code, crossing_code, aggregate_code, online_code, override_code, sun_code, hcl_code, solar_code, comparison_code, low_word, high_word, twos_complement, type_or_none, no_type}
use Rattle.flat.specs.Flat.{event_words, bound_words, reading_words, value_words, operand_words}
use Rattle.flat.specs.Held.{SignedWithin, HeldNumber, HeldBound, HeldDelta, HeldValue, HeldOperand}

pub power_back_lem : (x : Power) → power_back (power_code x) ≡ x
unfolding power_back coded
power_back_lem = elim [ Power.On ↦ refl | Power.Off ↦ refl ]

pub occupancy_back_lem : (x : Occupancy) → occupancy_back (occupancy_code x) ≡ x
unfolding occupancy_back coded
occupancy_back_lem = elim [ Occupancy.Occupied ↦ refl | Occupancy.Vacant ↦ refl ]

pub crossing_back_lem : (x : Crossing) → crossing_back (crossing_code x) ≡ x
unfolding crossing_back coded
crossing_back_lem = elim [ Crossing.Above ↦ refl | Crossing.Below ↦ refl ]

pub aggregate_back_lem : (x : Aggregate) → aggregate_back (aggregate_code x) ≡ x
unfolding aggregate_back coded
aggregate_back_lem = elim [ Aggregate.AnyOn ↦ refl | Aggregate.AllOff ↦ refl ]

pub online_back_lem : (x : Online) → online_back (online_code x) ≡ x
unfolding online_back coded
online_back_lem = elim [ Online.GoesOffline ↦ refl | Online.ComesOnline ↦ refl ]

pub override_back_lem : (x : Override) → override_back (override_code x) ≡ x
unfolding override_back coded
override_back_lem = elim [ Override.Starts ↦ refl | Override.Clears ↦ refl ]

pub sun_back_lem : (x : Sun) → sun_back (sun_code x) ≡ x
unfolding sun_back coded
sun_back_lem = elim [ Sun.Up ↦ refl | Sun.Down ↦ refl ]

pub hcl_back_lem : (x : Hcl) → hcl_back (hcl_code x) ≡ x
unfolding hcl_back coded
hcl_back_lem = elim [ Hcl.Enabled ↦ refl | Hcl.Overridden ↦ refl ]

pub solar_back_lem : (x : SolarEvent) → solar_back (solar_code x) ≡ x
unfolding solar_back coded
solar_back_lem = elim [ SolarEvent.Sunrise ↦ refl | SolarEvent.Sunset ↦ refl ]

pub comparison_back_lem : (x : Comparison) → comparison_back (comparison_code x) ≡ x
unfolding comparison_back coded
comparison_back_lem Comparison.Eq = refl
comparison_back_lem Comparison.Ne = refl
comparison_back_lem Comparison.Ge = refl
comparison_back_lem Comparison.Le = refl
comparison_back_lem Comparison.Gt = refl
comparison_back_lem Comparison.Lt = refl

pub type_back_lem : (n : Option ℕ) → HeldNumber n → type_back (type_or_none n) ≡ n
unfolding type_back HeldNumber
type_back_lem None h = refl
type_back_lem (Some n) h = rw (ne_eqb n no_type (omega arith))

-- two's complement, in the bits that hold the numbers from -most to most - 1
complement : ℕ → ℤ → ℕ
complement most (pos n) = n
complement most (negsuc n) = 2 * most - 1 - n

signed_back_lem : (most : ℕ) (z : ℤ) → SignedWithin most z → signed_back most (complement most z) ≡ z
unfolding signed_back complement SignedWithin
signed_back_lem most (pos n) h = rw (lt-ltb n most h)
signed_back_lem most (negsuc n) h = rw (le-ltb (2 * most - 1 - n) most (omega arith)) (ap negsuc (omega arith))

-- the lower word of a number that 32 bits hold is all of it
low-is : (z : ℤ) → SignedWithin (2 ^ 31) z → low_word z ≡ complement (2 ^ 31) z
unfolding low_word twos_complement complement SignedWithin
low-is (pos n) h = omega arith
low-is (negsuc n) h = omega arith

-- both words are all of a number
both-are : (z : ℤ) → low_word z + 2 ^ 32 * high_word z ≡ complement (2 ^ 63) z
unfolding low_word high_word twos_complement complement
both-are (pos n) = omega arith
both-are (negsuc n) = omega arith

pub offset_back_lem : (z : ℤ) → SignedWithin (2 ^ 31) z → offset_back (low_word z) ≡ z
unfolding offset_back
offset_back_lem z h = rw (low-is z h) (signed_back_lem (2 ^ 31) z h)

pub number_back_lem : (z : ℤ) → SignedWithin (2 ^ 63) z → number_back (low_word z) (high_word z) ≡ z
unfolding number_back
number_back_lem z h = rw (both-are z) (signed_back_lem (2 ^ 63) z h)

pub event_back_lem : (e : Event) → event_back (word (event_words e) 0) (word (event_words e) 1) ≡ e
unfolding event_back headed coded event_words
event_back_lem Event.Press = refl
event_back_lem Event.Release = refl
event_back_lem Event.ShortPress = refl
event_back_lem Event.DoublePress = refl
event_back_lem Event.LongPressStart = refl
event_back_lem Event.LongPressRepeat = refl
event_back_lem Event.LongPressStop = refl
event_back_lem Event.ButtonFree = refl
event_back_lem Event.ButtonStuck = refl
event_back_lem Event.Movement = refl
event_back_lem Event.NoMovement = refl
event_back_lem Event.AnyEvent = refl
event_back_lem (Event.Raw n) = refl

pub bound_back_lem : (t : TimeBound) → HeldBound t →
    let w = word (bound_words t) in
    bound_back (w 0) (w 1) (w 2) ≡ t
unfolding bound_back headed coded bound_words HeldBound
bound_back_lem (TimeBound.Clock m) h = refl
bound_back_lem (TimeBound.Solar e offset) h = rw (solar_back_lem e, offset_back_lem offset h)

-- a reading and the two words behind it, whatever is made of them
pub reading_back_lem : {A : Type 0} (f : Reading → ℕ → ℕ → A) (r : Reading) (low high : ℕ) →
    let w = word (reading_words r ++ low ∷ high ∷ []) in
    f (reading_back (w 0) (w 1) (w 2) (w 3)) (w 4) (w 5) ≡ f r low high
unfolding reading_back headed coded reading_words
reading_back_lem f (Reading.Lamp r LampReading.Level) low high = refl
reading_back_lem f (Reading.Lamp r LampReading.Cct) low high = refl
reading_back_lem f (Reading.Lamp r LampReading.IsOn) low high = refl
reading_back_lem f (Reading.Lamp r LampReading.LastLevel) low high = refl
reading_back_lem f (Reading.Group r GroupReading.AnyOn) low high = refl
reading_back_lem f (Reading.Group r GroupReading.AllOff) low high = refl
reading_back_lem f (Reading.Group r GroupReading.MemberCount) low high = refl
reading_back_lem f (Reading.Input r InputReading.Occupied) low high = refl
reading_back_lem f (Reading.Input r InputReading.Light) low high = refl
reading_back_lem f (Reading.Input r InputReading.Position) low high = refl
reading_back_lem f (Reading.Input r InputReading.LastEventAge) low high = refl
reading_back_lem f (Reading.Time TimeReading.Now) low high = refl
reading_back_lem f (Reading.Time TimeReading.Hour) low high = refl
reading_back_lem f (Reading.Time TimeReading.Minute) low high = refl
reading_back_lem f (Reading.Time TimeReading.Weekday) low high = refl
reading_back_lem f (Reading.Sun SunReading.Rise) low high = refl
reading_back_lem f (Reading.Sun SunReading.Set) low high = refl
reading_back_lem f (Reading.Sun SunReading.IsUp) low high = refl
reading_back_lem f (Reading.Event EventReading.Value) low high = refl
reading_back_lem f (Reading.Event EventReading.Device) low high = refl
reading_back_lem f (Reading.Event EventReading.Instance) low high = refl
reading_back_lem f (Reading.Event EventReading.Option) low high = refl
reading_back_lem f (Reading.Var n) low high = refl

pub value_back_lem : (v : Value) → HeldValue v →
    let w = word (value_words v) in
    value_back (w 0) (w 1) (w 2) (w 3) (w 4) (w 5) (w 6) ≡ v
unfolding value_back headed coded value_words HeldValue HeldDelta
value_back_lem (Value.Literal z) h = ap Value.Literal (number_back_lem z h)
value_back_lem (Value.Reads r None) h = reading_back_lem (λ (x : Reading) low high. Value.Reads x None) r 0 0
value_back_lem (Value.Reads r (Some z)) h =
    reading_back_lem (λ (x : Reading) low high. Value.Reads x (Some (number_back low high))) r (low_word z) (high_word z)
    ∙ ap (λ (y : ℤ). Value.Reads r (Some y)) (number_back_lem z h)

-- no value begins as a string does
no-string : (t : Name) (v : Value) → eqb (word (value_words v) 0) (word (operand_words (Operand.Text t)) 0) ≡ false
unfolding value_words operand_words
no-string t (Value.Literal z) = refl
no-string t (Value.Reads r None) = refl
no-string t (Value.Reads r (Some z)) = refl

pub operand_back_lem : (v : Operand) → HeldOperand v →
    let w = word (operand_words v) in
    operand_back (w 0) (w 1) (w 2) (w 3) (w 4) (w 5) (w 6) ≡ v
unfolding operand_back headed coded operand_words HeldOperand
operand_back_lem (Operand.Text t) h = refl
operand_back_lem (Operand.Number v) h =
    let w = word (value_words v) in
    rw (no-string (name_back (w 1) (w 2)) v, value_back_lem v h)
