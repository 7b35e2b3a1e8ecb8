-- Readings and VALUE (document 01, "Grammar").
use Rattle.std.specs.Prelude.{ℕ, Bool, true, false, eqb, Some, None}
use Rattle.text.specs.Choice.{pick}
use Rattle.text.specs.Literal.{ascii}
use Rattle.tokens.specs.Result.{Res, ok, bind, perhaps, refuse}
use Rattle.tokens.specs.Kind.{INTEGER, PLUS, MINUS}
use Rattle.tokens.specs.Cursor.{Tok, is_kind, take_kind}
use Rattle.tokens.specs.Phrase.{choice_at, point_choice}
use Rattle.sheet.specs.View.{View}
use Rattle.references.specs.Refs.{lamp_ref, group_ref, quoted_name}
use Rattle.references.specs.Args.{input_ref}
use Rattle.model.specs.declared.Name.{Name}
use Rattle.model.specs.declared.LampReading.{LampReading}
use Rattle.model.specs.declared.LampReading.TheVariants.{Level, Cct, IsOn, LastLevel}
use Rattle.model.specs.declared.GroupReading.{GroupReading}
use Rattle.model.specs.declared.GroupReading.TheVariants.{AnyOn, AllOff, MemberCount}
use Rattle.model.specs.declared.InputReading.{InputReading}
use Rattle.model.specs.declared.InputReading.TheVariants.{Occupied, Light, Position, LastEventAge}
use Rattle.model.specs.declared.TimeReading.{TimeReading}
use Rattle.model.specs.declared.TimeReading.TheVariants.{Now, Hour, Minute, Weekday}
use Rattle.model.specs.declared.SunReading.{SunReading}
use Rattle.model.specs.declared.SunReading.TheVariants.{Rise, Set, IsUp}
use Rattle.model.specs.declared.EventReading.{EventReading}
use Rattle.model.specs.declared.Reading.{Reading}
use Rattle.model.specs.declared.Value.{Value}
use Rattle.model.specs.declared.Value.TheVariants.{Literal, Reads}
use Rattle.language.specs.Words.{signed}

-- The properties of what is read, by their place in the list of their words.
-- "lamp R level, cct, is_on, last_level"
unfoldable pub lamp_property : ℕ → LampReading
lamp_property n = pick (eqb n 0) Level (pick (eqb n 1) Cct (pick (eqb n 2) IsOn LastLevel))

unfoldable pub lamp_reading : (ℕ → Tok) → View → ℕ → Res Reading
lamp_reading t view i =
    bind (lamp_ref t view i)
    (λ r j. bind (point_choice t (ascii "level cct is_on last_level") j) (λ n k. ok (Reading.Lamp r (lamp_property n)) k))

-- "group R any_on, all_off, member_count"
unfoldable pub group_property : ℕ → GroupReading
group_property n = pick (eqb n 0) AnyOn (pick (eqb n 1) AllOff MemberCount)

unfoldable pub group_reading : (ℕ → Tok) → View → ℕ → Res Reading
group_reading t view i =
    bind (group_ref t view i)
    (λ r j. bind (point_choice t (ascii "any_on all_off member_count") j) (λ n k. ok (Reading.Group r (group_property n)) k))

-- "input ARGS (one instance) occupied, light, position, last_event_age"
unfoldable pub input_property : ℕ → InputReading
input_property n = pick (eqb n 0) Occupied (pick (eqb n 1) Light (pick (eqb n 2) Position LastEventAge))

unfoldable pub input_reading : (ℕ → Tok) → View → ℕ → ℕ → Res Reading
input_reading t view fuel i =
    bind (input_ref t view fuel i)
    (λ r j.
    bind (point_choice t (ascii "occupied light position last_event_age") j) (λ n k. ok (Reading.Input r (input_property n)) k))

-- "time now, hour, minute, weekday"
unfoldable pub time_property : ℕ → TimeReading
time_property n = pick (eqb n 0) Now (pick (eqb n 1) Hour (pick (eqb n 2) Minute Weekday))

unfoldable pub time_reading : (ℕ → Tok) → ℕ → Res Reading
time_reading t i = bind (point_choice t (ascii "now hour minute weekday") i) (λ n j. ok (Reading.Time (time_property n)) j)

-- "sun rise, set, is_up"
unfoldable pub sun_property : ℕ → SunReading
sun_property n = pick (eqb n 0) Rise (pick (eqb n 1) Set IsUp)

unfoldable pub sun_reading : (ℕ → Tok) → ℕ → Res Reading
sun_reading t i = bind (point_choice t (ascii "rise set is_up") i) (λ n j. ok (Reading.Sun (sun_property n)) j)

-- "event value, device, instance, option"
unfoldable pub event_property : ℕ → EventReading
event_property n =
    pick (eqb n 0) EventReading.Value
    (pick (eqb n 1) EventReading.Device (pick (eqb n 2) EventReading.Instance EventReading.Option))

-- behind the word `event` at an index; document 02, §9: "an `event` reading with 59", at "the word"
unfoldable pub event_reading : (ℕ → Tok) → View → ℕ → ℕ → Res Reading
event_reading t view word i =
    pick (view.allows word)
    (bind (point_choice t (ascii "value device instance option") i) (λ n j. ok (Reading.Event (event_property n)) j))
    (refuse 59 word)

-- "var Q": its name as a range of the text
unfoldable pub var_reading : (ℕ → Tok) → (ℕ → Name) → ℕ → Res Reading
var_reading t range i = bind (quoted_name t i) (λ n j. ok (Reading.Var (range n)) j)

-- the reading with the n-th first word, which stands at an index; i is behind it
unfoldable pub reading_by : (ℕ → Tok) → View → (ℕ → Name) → ℕ → ℕ → ℕ → ℕ → Res Reading
reading_by t view range fuel word n i =
    pick (eqb n 0) (lamp_reading t view i)
    (pick (eqb n 1) (group_reading t view i)
    (pick (eqb n 2) (input_reading t view fuel i)
    (pick (eqb n 3) (time_reading t i)
    (pick (eqb n 4) (sun_reading t i)
    (pick (eqb n 5) (event_reading t view word i) (var_reading t range i))))))

-- another word is refused with 20, "also where TARGET or VALUE begins"
unfoldable pub reading_at : (ℕ → Tok) → View → (ℕ → Name) → ℕ → ℕ → Res Reading
reading_at t view range fuel i =
    bind (choice_at t (ascii "lamp group input time sun event var") 20 i) (λ n j. reading_by t view range fuel i n j)

-- "an integer with perhaps one sign"
unfoldable pub literal_at : (ℕ → Tok) → Bool → ℕ → Res Value
literal_at t minus i = bind (take_kind t INTEGER i) (λ n j. ok (Literal (signed minus n)) j)

-- "a reading with perhaps + or - an integer"
unfoldable pub delta_at : (ℕ → Tok) → Reading → Bool → ℕ → Res Value
delta_at t r minus i = bind (take_kind t INTEGER i) (λ n j. ok (Reads r (Some (signed minus n))) j)

unfoldable pub with_delta : (ℕ → Tok) → Reading → ℕ → Res Value
with_delta t r i =
    perhaps (is_kind t PLUS i) i (λ j. delta_at t r false j)
    (perhaps (is_kind t MINUS i) i (λ j. delta_at t r true j) (ok (Reads r None) i))

unfoldable pub read_value : (ℕ → Tok) → View → (ℕ → Name) → ℕ → ℕ → Res Value
read_value t view range fuel i = bind (reading_at t view range fuel i) (λ r j. with_delta t r j)

unfoldable pub value_at : (ℕ → Tok) → View → (ℕ → Name) → ℕ → ℕ → Res Value
value_at t view range fuel i =
    perhaps (is_kind t PLUS i) i (λ j. literal_at t false j)
    (perhaps (is_kind t MINUS i) i (λ j. literal_at t true j)
    (pick (is_kind t INTEGER i) (literal_at t false i) (read_value t view range fuel i)))
