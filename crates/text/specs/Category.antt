-- Control characters and noncharacters, as Unicode gives them.
use Rattle.std.specs.Prelude.{ℕ, ◌%◌, List, [], ◌∷◌, Bool, true, false, leb}
use Rattle.text.specs.Choice.{pick, within}
use Rattle.text.specs.White.{Range, span, among}

-- the general category Cc, as the file DerivedGeneralCategory.txt lists it
-- # Total code points: 65
unfoldable pub controls : List Range
controls =
    -- 0000..001F    ; Cc  [32] <control-0000>..<control-001F>
    span 0x0000 0x001F
    -- 007F..009F    ; Cc  [33] <control-007F>..<control-009F>
    ∷ span 0x007F 0x009F
    ∷ []

-- is this a control character?
unfoldable pub is_control : ℕ → Bool
is_control c = among controls c

-- the last code point, and how many there are in each of the 17 planes
abbrev pub last_code_point : ℕ
last_code_point = 0x10FFFF

abbrev pub plane_size : ℕ
plane_size = 0x10000

-- is this a noncharacter? "Noncharacters consist of the values U+nFFFE and U+nFFFF (where n is from 0 to 10₁₆) and the values
-- U+FDD0..U+FDEF." (The Unicode Standard, definition D14)
unfoldable pub is_noncharacter : ℕ → Bool
is_noncharacter c = pick (within 0xFDD0 0xFDEF c) true (pick (leb c last_code_point) (leb 0xFFFE (c % plane_size)) false)
