-- Readings and VALUE. `range` gives the bytes of a name's token.
use Rattle.std.specs.Prelude.{ℕ, ◌≡◌, true, ℤ, pos, Some, None}
use Rattle.text.specs.Literal.{ascii}
use Rattle.tokens.specs.Kind.{INTEGER, POINT}
use Rattle.tokens.specs.Cursor.{Tok}
use Rattle.tokens.specs.Grammar.{Token, Word}
use Rattle.sheet.specs.View.{View}
use Rattle.references.specs.Grammar.{Q, Lamp, Group, OneInstance}
use Rattle.model.specs.declared.Name.{Name}
use Rattle.model.specs.declared.Ref.{Ref}
use Rattle.model.specs.declared.InputRef.{InputRef}
use Rattle.model.specs.declared.LampReading.{LampReading}
use Rattle.model.specs.declared.LampReading.TheVariants.{Level, Cct, IsOn, LastLevel}
use Rattle.model.specs.declared.GroupReading.{GroupReading}
use Rattle.model.specs.declared.GroupReading.TheVariants.{AnyOn, AllOff, MemberCount}
use Rattle.model.specs.declared.InputReading.{InputReading}
use Rattle.model.specs.declared.InputReading.TheVariants.{Occupied, Light, Position, LastEventAge}
use Rattle.model.specs.declared.TimeReading.{TimeReading}
use Rattle.model.specs.declared.TimeReading.TheVariants.{Now, Hour, Minute, Weekday}
use Rattle.model.specs.declared.SunReading.{SunReading}
use Rattle.model.specs.declared.SunReading.TheVariants.{Rise, Set, IsUp}
use Rattle.model.specs.declared.EventReading.{EventReading}
use Rattle.model.specs.declared.Reading.{Reading}
use Rattle.model.specs.declared.Value.{Value}
use Rattle.model.specs.declared.Value.TheVariants.{Literal, Reads}
use Rattle.language.specs.grammar.Words.{Signed}

-- The properties, each by its word. "lamp R level, cct, is_on, last_level"
pub data LampPropertyOf (t : ℕ → Tok) : ℕ → LampReading → ℕ → Type 0 where
  level : {i j : ℕ} → Word t (ascii "level") i j → LampPropertyOf t i Level j
  cct : {i j : ℕ} → Word t (ascii "cct") i j → LampPropertyOf t i Cct j
  is_on_rule : {i j : ℕ} → Word t (ascii "is_on") i j → LampPropertyOf t i IsOn j
  last_level_rule : {i j : ℕ} → Word t (ascii "last_level") i j → LampPropertyOf t i LastLevel j

-- "group R any_on, all_off, member_count"
pub data GroupProperty (t : ℕ → Tok) : ℕ → GroupReading → ℕ → Type 0 where
  any_on : {i j : ℕ} → Word t (ascii "any_on") i j → GroupProperty t i AnyOn j
  all_off : {i j : ℕ} → Word t (ascii "all_off") i j → GroupProperty t i AllOff j
  member_count : {i j : ℕ} → Word t (ascii "member_count") i j → GroupProperty t i MemberCount j

-- "input ARGS (one instance) occupied, light, position, last_event_age"
pub data InputProperty (t : ℕ → Tok) : ℕ → InputReading → ℕ → Type 0 where
  occupied : {i j : ℕ} → Word t (ascii "occupied") i j → InputProperty t i Occupied j
  light : {i j : ℕ} → Word t (ascii "light") i j → InputProperty t i Light j
  position : {i j : ℕ} → Word t (ascii "position") i j → InputProperty t i Position j
  last_event_age : {i j : ℕ} → Word t (ascii "last_event_age") i j → InputProperty t i LastEventAge j

-- "time now, hour, minute, weekday"
pub data TimeProperty (t : ℕ → Tok) : ℕ → TimeReading → ℕ → Type 0 where
  now : {i j : ℕ} → Word t (ascii "now") i j → TimeProperty t i Now j
  hour : {i j : ℕ} → Word t (ascii "hour") i j → TimeProperty t i Hour j
  minute : {i j : ℕ} → Word t (ascii "minute") i j → TimeProperty t i Minute j
  weekday : {i j : ℕ} → Word t (ascii "weekday") i j → TimeProperty t i Weekday j

-- "sun rise, set, is_up"
pub data SunProperty (t : ℕ → Tok) : ℕ → SunReading → ℕ → Type 0 where
  rise : {i j : ℕ} → Word t (ascii "rise") i j → SunProperty t i Rise j
  set : {i j : ℕ} → Word t (ascii "set") i j → SunProperty t i Set j
  is_up : {i j : ℕ} → Word t (ascii "is_up") i j → SunProperty t i IsUp j

-- "event value, device, instance, option"
pub data EventProperty (t : ℕ → Tok) : ℕ → EventReading → ℕ → Type 0 where
  event_value : {i j : ℕ} → Word t (ascii "value") i j → EventProperty t i EventReading.Value j
  event_device : {i j : ℕ} → Word t (ascii "device") i j → EventProperty t i EventReading.Device j
  event_instance : {i j : ℕ} → Word t (ascii "instance") i j → EventProperty t i EventReading.Instance j
  event_option : {i j : ℕ} → Word t (ascii "option") i j → EventProperty t i EventReading.Option j

-- "Readings, after a point: …; and var Q." One of `event` only where that may stand.
pub data ReadingOf (t : ℕ → Tok) (view : View) (range : ℕ → Name) : ℕ → Reading → ℕ → Type 0 where
  of_lamp : {i j k a l m : ℕ} {r : Ref} {p : LampReading} → Word t (ascii "lamp") i j → Lamp t view j r k → Token t POINT k a l →
      LampPropertyOf t l p m → ReadingOf t view range i (Reading.Lamp r p) m
  of_group : {i j k a l m : ℕ} {r : Ref} {p : GroupReading} → Word t (ascii "group") i j → Group t view j r k → Token t POINT k a l →
      GroupProperty t l p m → ReadingOf t view range i (Reading.Group r p) m
  of_input : {i j k a l m : ℕ} {r : InputRef} {p : InputReading} → Word t (ascii "input") i j → OneInstance t view j r k →
      Token t POINT k a l → InputProperty t l p m → ReadingOf t view range i (Reading.Input r p) m
  of_time : {i j a k l : ℕ} {p : TimeReading} → Word t (ascii "time") i j → Token t POINT j a k → TimeProperty t k p l →
      ReadingOf t view range i (Reading.Time p) l
  of_sun : {i j a k l : ℕ} {p : SunReading} → Word t (ascii "sun") i j → Token t POINT j a k → SunProperty t k p l →
      ReadingOf t view range i (Reading.Sun p) l
  of_event : {i j a k l : ℕ} {p : EventReading} → Word t (ascii "event") i j → view.allows i ≡ true → Token t POINT j a k → EventProperty t k p l →
      ReadingOf t view range i (Reading.Event p) l
  of_var : {i j n k : ℕ} → Word t (ascii "var") i j → Q t j n k → ReadingOf t view range i (Reading.Var (range n)) k

-- "VALUE: an integer with perhaps one sign, or a reading with perhaps + or - an integer."
pub data ValueOf (t : ℕ → Tok) (view : View) (range : ℕ → Name) : ℕ → Value → ℕ → Type 0 where
  number : {i n j : ℕ} → Token t INTEGER i n j → ValueOf t view range i (Literal (pos n)) j
  signed_number : {i j : ℕ} {z : ℤ} → Signed t INTEGER i z j → ValueOf t view range i (Literal z) j
  reading : {i j : ℕ} {v : Reading} → ReadingOf t view range i v j → ValueOf t view range i (Reads v None) j
  reading_with : {i j k : ℕ} {v : Reading} {z : ℤ} → ReadingOf t view range i v j → Signed t INTEGER j z k →
      ValueOf t view range i (Reads v (Some z)) k
