-- The numbers that stand for choices in the flat layout, as include/tergyosul.h lists them. Choices count from 1; readings count on from family to family.
use Rattle.std.specs.Prelude.{ℕ, ◌-◌, ◌%◌, ◌/◌, ◌^◌, ℤ, pos, negsuc, Option, Some, None}
use Rattle.model.specs.declared.Aggregate.{Aggregate}
use Rattle.model.specs.declared.Comparison.{Comparison}
use Rattle.model.specs.declared.Crossing.{Crossing}
use Rattle.model.specs.declared.EventReading.{EventReading}
use Rattle.model.specs.declared.GroupReading.{GroupReading}
use Rattle.model.specs.declared.Hcl.{Hcl}
use Rattle.model.specs.declared.InputReading.{InputReading}
use Rattle.model.specs.declared.LampReading.{LampReading}
use Rattle.model.specs.declared.Occupancy.{Occupancy}
use Rattle.model.specs.declared.Online.{Online}
use Rattle.model.specs.declared.Override.{Override}
use Rattle.model.specs.declared.Power.{Power}
use Rattle.model.specs.declared.SolarEvent.{SolarEvent}
use Rattle.model.specs.declared.Sun.{Sun}
use Rattle.model.specs.declared.SunReading.{SunReading}
use Rattle.model.specs.declared.TimeReading.{TimeReading}

abbrev pub power_code : Power → ℕ
power_code Power.On = 1
power_code Power.Off = 2

abbrev pub occupancy_code : Occupancy → ℕ
occupancy_code Occupancy.Occupied = 1
occupancy_code Occupancy.Vacant = 2

abbrev pub crossing_code : Crossing → ℕ
crossing_code Crossing.Above = 1
crossing_code Crossing.Below = 2

abbrev pub aggregate_code : Aggregate → ℕ
aggregate_code Aggregate.AnyOn = 1
aggregate_code Aggregate.AllOff = 2

abbrev pub online_code : Online → ℕ
online_code Online.GoesOffline = 1
online_code Online.ComesOnline = 2

abbrev pub override_code : Override → ℕ
override_code Override.Starts = 1
override_code Override.Clears = 2

abbrev pub sun_code : Sun → ℕ
sun_code Sun.Up = 1
sun_code Sun.Down = 2

abbrev pub hcl_code : Hcl → ℕ
hcl_code Hcl.Enabled = 1
hcl_code Hcl.Overridden = 2

abbrev pub solar_code : SolarEvent → ℕ
solar_code SolarEvent.Sunrise = 1
solar_code SolarEvent.Sunset = 2

abbrev pub comparison_code : Comparison → ℕ
comparison_code Comparison.Eq = 1
comparison_code Comparison.Ne = 2
comparison_code Comparison.Ge = 3
comparison_code Comparison.Le = 4
comparison_code Comparison.Gt = 5
comparison_code Comparison.Lt = 6

abbrev pub lamp_reading_code : LampReading → ℕ
lamp_reading_code LampReading.Level = 1
lamp_reading_code LampReading.Cct = 2
lamp_reading_code LampReading.IsOn = 3
lamp_reading_code LampReading.LastLevel = 4

abbrev pub group_reading_code : GroupReading → ℕ
group_reading_code GroupReading.AnyOn = 5
group_reading_code GroupReading.AllOff = 6
group_reading_code GroupReading.MemberCount = 7

abbrev pub input_reading_code : InputReading → ℕ
input_reading_code InputReading.Occupied = 8
input_reading_code InputReading.Light = 9
input_reading_code InputReading.Position = 10
input_reading_code InputReading.LastEventAge = 11

abbrev pub time_reading_code : TimeReading → ℕ
time_reading_code TimeReading.Now = 12
time_reading_code TimeReading.Hour = 13
time_reading_code TimeReading.Minute = 14
time_reading_code TimeReading.Weekday = 15

abbrev pub sun_reading_code : SunReading → ℕ
sun_reading_code SunReading.Rise = 16
sun_reading_code SunReading.Set = 17
sun_reading_code SunReading.IsUp = 18

abbrev pub event_reading_code : EventReading → ℕ
event_reading_code EventReading.Value = 19
event_reading_code EventReading.Device = 20
event_reading_code EventReading.Instance = 21
event_reading_code EventReading.Option = 22

abbrev pub var_code : ℕ
var_code = 23

-- a number of 64 signed bits as it lies in them; negsuc n is -1 - n
unfoldable pub twos_complement : ℤ → ℕ
twos_complement (pos n) = n
twos_complement (negsuc n) = 2 ^ 64 - 1 - n

-- its lower 32 bits, and its higher
unfoldable pub low_word : ℤ → ℕ
low_word z = twos_complement z % 2 ^ 32

unfoldable pub high_word : ℤ → ℕ
high_word z = twos_complement z / 2 ^ 32

-- "the type is TERGYOSUL_NO_TYPE where none is given"
abbrev pub no_type : ℕ
no_type = 2 ^ 32 - 1

abbrev pub type_or_none : Option ℕ → ℕ
type_or_none None = no_type
type_or_none (Some n) = n
