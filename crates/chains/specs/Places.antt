-- Where in a chain of conditions a sequence of pieces has come to, which pieces may stand next, and how many may follow up to an end: no part of
-- the promise (Listed.antt), which is proved of what is found with these tables. Conditions are not counted: five have nineteen pieces at least.
use Rattle.std.specs.Prelude.{ℕ, ◌/◌, ◌%◌, ◌^◌, Bool, false, List, [], ◌∷◌, leb, eqb}
use Rattle.text.specs.Choice.{pick}
use Rattle.chains.specs.Listed.{most_pieces}
use Rattle.chains.specs.Pieces.{LAMP, SUN, TIME, IS, IN, ON, OFF, UP, DOWN, SUNRISE, SUNSET, LEVEL, AND, ZERO, SIXTY_THREE, SIXTY_FOUR, OPEN, CLOSE, POINT, POINTS, EQUAL, PLUS, MINUS}
use Rattle.chains.specs.declared.place.Place.{Place}
use Rattle.chains.specs.declared.place.Place.TheVariants.{Start, Sun, SunIs, Time, TimeIn, TimeFrom, TimePoints, Lamp, LampOpen, LampId, LampClosed, LampIs, LampPoint, LampLevel, Compared, Sign, Read, ReadOpen, ReadId, ReadClosed, ReadPoint, ReadLevel, End, Nowhere}

-- a piece that may stand next, and the place behind it
pub record Move : Type 0 where
  pub piece : ℕ
  pub to : Place

abbrev one : ℕ → Place → List Move → List Move
one q place others = record { piece = q; to = place } ∷ others

abbrev two : ℕ → ℕ → Place → List Move → List Move
two q r place others = one q place (one r place others)

abbrev pub moves : Place → List Move
moves Start = one LAMP Lamp (one SUN Sun (one TIME Time []))
moves Sun = one IS SunIs []
moves SunIs = two UP DOWN End []
moves Time = one IN TimeIn []
moves TimeIn = two SUNRISE SUNSET TimeFrom []
moves TimeFrom = one POINTS TimePoints []
moves TimePoints = two SUNRISE SUNSET End []
moves Lamp = one OPEN LampOpen []
moves LampOpen = two ZERO SIXTY_THREE LampId []
moves LampId = one CLOSE LampClosed []
moves LampClosed = one IS LampIs (one POINT LampPoint [])
moves LampIs = two ON OFF End []
moves LampPoint = one LEVEL LampLevel []
moves LampLevel = one EQUAL Compared []
moves Compared = one LAMP Read (two ZERO SIXTY_THREE End (one SIXTY_FOUR End (two PLUS MINUS Sign [])))
moves Sign = two ZERO SIXTY_THREE End (one SIXTY_FOUR End [])
moves Read = one OPEN ReadOpen []
moves ReadOpen = two ZERO SIXTY_THREE ReadId []
moves ReadId = one CLOSE ReadClosed []
moves ReadClosed = one POINT ReadPoint []
moves ReadPoint = one LEVEL ReadLevel []
moves ReadLevel = one AND Start (two PLUS MINUS Sign [])
moves End = one AND Start []
moves Nowhere = []

-- the place behind a piece
unfoldable pub moved : List Move → ℕ → Place
moved [] q = Nowhere
moved (m ∷ ms) q = pick (eqb q m.piece) m.to (moved ms q)

abbrev pub step : Place → ℕ → Place
step place q = moved (moves place) q

-- how many pieces may follow up to the end of a chain: bit n is set if n may, up to fifteen
abbrev pub lengths : Place → ℕ
lengths Start = 0b1111_1111_1110_1000
lengths Sun = 0b1111_1111_0100_0100
lengths SunIs = 0b1111_1111_1010_0010
lengths Time = 0b1111_1101_0001_0000
lengths TimeIn = 0b1111_1110_1000_1000
lengths TimeFrom = 0b1111_1111_0100_0100
lengths TimePoints = 0b1111_1111_1010_0010
lengths Lamp = 0b1111_1011_1010_0000
lengths LampOpen = 0b1111_1101_1101_0000
lengths LampId = 0b1111_1110_1110_1000
lengths LampClosed = 0b1111_1111_0111_0100
lengths LampIs = 0b1111_1111_1010_0010
lengths LampPoint = 0b1111_1111_1001_1000
lengths LampLevel = 0b1111_1111_1100_1100
lengths Compared = 0b1111_1111_1110_0110
lengths Sign = 0b1111_1111_1010_0010
lengths Read = 0b1111_1010_1010_0000
lengths ReadOpen = 0b1111_1101_0101_0000
lengths ReadId = 0b1111_1110_1010_1000
lengths ReadClosed = 0b1111_1111_0101_0100
lengths ReadPoint = 0b1111_1111_1010_1010
lengths ReadLevel = 0b1111_1111_1101_0101
lengths End = 0b1111_1111_1101_0001
lengths Nowhere = 0

unfoldable pub may_end : Place → ℕ → Bool
may_end place n = pick (leb n most_pieces) (eqb ((lengths place / 2 ^ n) % 2) 1) false
