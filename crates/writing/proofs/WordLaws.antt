-- The words that are written for choices: letters a to z and `_`, and so many at most.
use Prim.Native.Nat.{ℕ, ◌≤◌}
use mathlib.Core.Path.{◌≡◌, refl}
use mathlib.Core.Bool.{Bool, true, false}
use mathlib.Core.List.{List, [], ◌∷◌}
use lib.ListN.{length}
use lib.Dec.{leb, eqb}
use borrow.Author.Tests.{leb-true}
use Rattle.text.specs.Choice.{pick, within}
use Rattle.text.proofs.Tests.{both}
use Rattle.model.specs.declared.Aggregate.{Aggregate}
use Rattle.model.specs.declared.Crossing.{Crossing}
use Rattle.model.specs.declared.EventReading.{EventReading}
use Rattle.model.specs.declared.GroupReading.{GroupReading}
use Rattle.model.specs.declared.Hcl.{Hcl}
use Rattle.model.specs.declared.InputReading.{InputReading}
use Rattle.model.specs.declared.LampProperty.{LampProperty}
use Rattle.model.specs.declared.LampReading.{LampReading}
use Rattle.model.specs.declared.Occupancy.{Occupancy}
use Rattle.model.specs.declared.Override.{Override}
use Rattle.model.specs.declared.Power.{Power}
use Rattle.model.specs.declared.SolarEvent.{SolarEvent}
use Rattle.model.specs.declared.Sun.{Sun}
use Rattle.model.specs.declared.SunReading.{SunReading}
use Rattle.model.specs.declared.TimeReading.{TimeReading}
use Rattle.writing.specs.Write.{power_word, occupancy_word, crossing_word, aggregate_word, override_word, sun_word, hcl_word, solar_word, property_word, lamp_reading_word, group_reading_word, input_reading_word, time_reading_word, sun_reading_word, event_reading_word}

abbrev pub is_letter : ℕ → Bool
is_letter c = pick (within 0x61 0x7A c) true (eqb c 0x5F)

abbrev pub all_letters : List ℕ → Bool
all_letters [] = true
all_letters (c ∷ cs) = pick (is_letter c) (all_letters cs) false

-- one letter at least
abbrev pub is_written : List ℕ → Bool
is_written [] = false
is_written (c ∷ cs) = all_letters (c ∷ cs)

pub record Word (most : ℕ) (bytes : List ℕ) : Type 0 where
  pub short : length bytes ≤ most
  pub written : is_written bytes ≡ true

word : {most : ℕ} {bytes : List ℕ} → pick (leb (length bytes) most) (is_written bytes) false ≡ true → Word most bytes
word {most} {bytes} h =
    let k = both (leb (length bytes) most) h in
    record { short = leb-true (length bytes) most k.0; written = k.1 }

pub power_word_lem : (x : Power) → Word 3 (power_word x)
power_word_lem Power.On = word refl
power_word_lem Power.Off = word refl

pub occupancy_word_lem : (x : Occupancy) → Word 8 (occupancy_word x)
occupancy_word_lem Occupancy.Occupied = word refl
occupancy_word_lem Occupancy.Vacant = word refl

pub crossing_word_lem : (x : Crossing) → Word 5 (crossing_word x)
crossing_word_lem Crossing.Above = word refl
crossing_word_lem Crossing.Below = word refl

pub aggregate_word_lem : (x : Aggregate) → Word 7 (aggregate_word x)
aggregate_word_lem Aggregate.AnyOn = word refl
aggregate_word_lem Aggregate.AllOff = word refl

pub override_word_lem : (x : Override) → Word 6 (override_word x)
override_word_lem Override.Starts = word refl
override_word_lem Override.Clears = word refl

pub sun_word_lem : (x : Sun) → Word 4 (sun_word x)
sun_word_lem Sun.Up = word refl
sun_word_lem Sun.Down = word refl

pub hcl_word_lem : (x : Hcl) → Word 10 (hcl_word x)
hcl_word_lem Hcl.Enabled = word refl
hcl_word_lem Hcl.Overridden = word refl

pub solar_word_lem : (x : SolarEvent) → Word 7 (solar_word x)
solar_word_lem SolarEvent.Sunrise = word refl
solar_word_lem SolarEvent.Sunset = word refl

pub property_word_lem : (x : LampProperty) → Word 5 (property_word x)
property_word_lem LampProperty.Level = word refl
property_word_lem LampProperty.Cct = word refl

pub lamp_reading_word_lem : (x : LampReading) → Word 10 (lamp_reading_word x)
lamp_reading_word_lem LampReading.Level = word refl
lamp_reading_word_lem LampReading.Cct = word refl
lamp_reading_word_lem LampReading.IsOn = word refl
lamp_reading_word_lem LampReading.LastLevel = word refl

pub group_reading_word_lem : (x : GroupReading) → Word 12 (group_reading_word x)
group_reading_word_lem GroupReading.AnyOn = word refl
group_reading_word_lem GroupReading.AllOff = word refl
group_reading_word_lem GroupReading.MemberCount = word refl

pub input_reading_word_lem : (x : InputReading) → Word 14 (input_reading_word x)
input_reading_word_lem InputReading.Occupied = word refl
input_reading_word_lem InputReading.Light = word refl
input_reading_word_lem InputReading.Position = word refl
input_reading_word_lem InputReading.LastEventAge = word refl

pub time_reading_word_lem : (x : TimeReading) → Word 7 (time_reading_word x)
time_reading_word_lem TimeReading.Now = word refl
time_reading_word_lem TimeReading.Hour = word refl
time_reading_word_lem TimeReading.Minute = word refl
time_reading_word_lem TimeReading.Weekday = word refl

pub sun_reading_word_lem : (x : SunReading) → Word 5 (sun_reading_word x)
sun_reading_word_lem SunReading.Rise = word refl
sun_reading_word_lem SunReading.Set = word refl
sun_reading_word_lem SunReading.IsUp = word refl

pub event_reading_word_lem : (x : EventReading) → Word 8 (event_reading_word x)
event_reading_word_lem EventReading.Value = word refl
event_reading_word_lem EventReading.Device = word refl
event_reading_word_lem EventReading.Instance = word refl
event_reading_word_lem EventReading.Option = word refl
