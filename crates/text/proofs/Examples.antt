-- Examples, evaluated from the definitions: those of RFC 3629, section 7, and what section 10 warns of.
use mathlib.Core.Path.{◌≡◌, refl}
use mathlib.Core.List.{List, [], ◌∷◌}
use Prim.Native.Nat.{ℕ, ◌+◌, ◌-◌}
use Rattle.text.specs.Utf8.{codes, chars, chars_from, front, sized, sequence_length, two, three, four, is_tail, is_second}
use Rattle.text.specs.White.{Range, white_space}
use Rattle.text.specs.Place.{check_of, judge, walked, after, counted}
use Rattle.std.specs.Prelude.{Err}

-- A, not identical to, Alpha, full stop
section_7_first : codes (chars (0x41 ∷ 0xE2 ∷ 0x89 ∷ 0xA2 ∷ 0xCE ∷ 0x91 ∷ 0x2E ∷ []) 0) ≡ 0x0041 ∷ 0x2262 ∷ 0x0391 ∷ 0x002E ∷ []
unfolding chars chars_from front sized sequence_length two three is_tail is_second
section_7_first = refl

-- the Korean word hangugeo
section_7_second : codes (chars (0xED ∷ 0x95 ∷ 0x9C ∷ 0xEA ∷ 0xB5 ∷ 0xAD ∷ 0xEC ∷ 0x96 ∷ 0xB4 ∷ []) 0) ≡ 0xD55C ∷ 0xAD6D ∷ 0xC5B4 ∷ []
unfolding chars chars_from front sized sequence_length three is_tail is_second
section_7_second = refl

-- the Japanese word nihongo
section_7_third : codes (chars (0xE6 ∷ 0x97 ∷ 0xA5 ∷ 0xE6 ∷ 0x9C ∷ 0xAC ∷ 0xE8 ∷ 0xAA ∷ 0x9E ∷ []) 0) ≡ 0x65E5 ∷ 0x672C ∷ 0x8A9E ∷ []
unfolding chars chars_from front sized sequence_length three is_tail is_second
section_7_third = refl

-- U+233B4, with the byte order mark before it
section_7_fourth : codes (chars (0xEF ∷ 0xBB ∷ 0xBF ∷ 0xF0 ∷ 0xA3 ∷ 0x8E ∷ 0xB4 ∷ []) 0) ≡ 0xFEFF ∷ 0x233B4 ∷ []
unfolding chars chars_from front sized sequence_length three four is_tail is_second
section_7_fourth = refl

-- the overlong form of U+0000, behind é and LF: the place is counted in characters
overlong_null : check_of (0xC3 ∷ 0xA9 ∷ 0x0A ∷ 0xC3 ∷ 0xA9 ∷ 0xC0 ∷ 0x80 ∷ []) ≡ Err (record { line = 2; column = 2 })
unfolding check_of judge walked after counted chars chars_from front sized sequence_length two is_tail
overlong_null = refl

-- "# Total code points: 25"
size : List Range → ℕ
size [] = 0
size (r ∷ rs) = r.last - r.first + 1 + size rs

white_space-is_25 : size white_space ≡ 25
unfolding size white_space
white_space-is_25 = refl
