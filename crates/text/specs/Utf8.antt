-- Decoding UTF-8, as a function: the length from the lead byte (RFC 3629, section 3), then the limits of its ABNF (section 4).
-- proofs/Utf8Rules.antt shows that it answers exactly as the rules of Rfc3629.antt say.
use Rattle.std.specs.Prelude.{ℕ, zero, suc, ◌+◌, ◌-◌, ◌*◌, ◌%◌, List, [], ◌∷◌, map, Bool, get_or, drop, ltb, eqb}
use Rattle.text.specs.Choice.{pick, within}
use Rattle.text.specs.declared.utf8.Decoded.{Decoded}
use Rattle.text.specs.declared.utf8.Decoded.TheVariants.{Char, Bad, End}

-- a byte that is a character by itself (0xxxxxxx)
unfoldable pub is_ascii : ℕ → Bool
is_ascii b = ltb b 0x80

-- how many bytes a sequence has, by its first: 0xxxxxxx, 110xxxxx, 1110xxxx, 11110xxx; 0 of any other byte, which starts none
unfoldable pub sequence_length : ℕ → ℕ
sequence_length a =
    pick (ltb a 0x80) 1 (pick (ltb a 0xC0) 0 (pick (ltb a 0xE0) 2 (pick (ltb a 0xF0) 3 (pick (ltb a 0xF8) 4 0))))

-- UTF8-tail
unfoldable pub is_tail : ℕ → Bool
is_tail b = within 0x80 0xBF b

-- the second byte after the lead byte a: a tail, and for four lead bytes only a part of the tails, since the rest would make an
-- overlong form (E0, F0), a surrogate (ED) or a code point above U+10FFFF (F4)
unfoldable pub is_second : ℕ → ℕ → Bool
is_second a b =
    pick (eqb a 0xE0) (within 0xA0 0xBF b)
    (pick (eqb a 0xED) (within 0x80 0x9F b)
    (pick (eqb a 0xF0) (within 0x90 0xBF b)
    (pick (eqb a 0xF4) (within 0x80 0x8F b) (is_tail b))))

-- the sequences of two, three and four bytes, which end at the offset next
unfoldable pub two : ℕ → ℕ → ℕ → Decoded
two a b next = pick (ltb a 0xC2) Bad (pick (is_tail b) (Char (a % 32 * 64 + b % 64) next) Bad)

unfoldable pub three : ℕ → ℕ → ℕ → ℕ → Decoded
three a b c next =
    pick (is_second a b) (pick (is_tail c) (Char ((a % 16 * 64 + b % 64) * 64 + c % 64) next) Bad) Bad

unfoldable pub four : ℕ → ℕ → ℕ → ℕ → ℕ → Decoded
four a b c d next =
    pick (ltb 0xF4 a) Bad
    (pick (is_second a b)
    (pick (is_tail c) (pick (is_tail d) (Char (((a % 8 * 64 + b % 64) * 64 + c % 64) * 64 + d % 64) next) Bad) Bad)
    Bad)

-- the character that starts with a at the offset at, by its length n
unfoldable pub sized : ℕ → ℕ → ℕ → ℕ → ℕ → ℕ → Decoded
sized n at a b c d =
    pick (eqb n 1) (Char a (at + 1))
    (pick (eqb n 2) (two a b (at + 2))
    (pick (eqb n 3) (three a b c (at + 3))
    (pick (eqb n 4) (four a b c d (at + 4)) Bad)))

-- what stands at the front of l, which begins at the offset at; 0, which is no tail, is read past its end
unfoldable pub front : ℕ → List ℕ → Decoded
front at [] = End
front at (a ∷ l) = sized (sequence_length a) at a (get_or l 0 0) (get_or l 1 0) (get_or l 2 0)

-- what stands at an offset of s
unfoldable pub decode_at : List ℕ → ℕ → Decoded
decode_at s at = front at (drop at s)

-- a character, with the offset past it
pub record Character : Type 0 where
  pub code : ℕ
  pub next : ℕ

-- the code points of characters
abbrev pub codes : List Character → List ℕ
codes cs = map (λ (ch : Character). ch.code) cs

abbrev pub character : Decoded → (ℕ → List Character) → List Character
character (Char code next) rest = record { code = code; next = next } ∷ rest next
character Bad rest = []
character End rest = []

-- the characters of l, which begins at the offset at, after skip more bytes, up to the first place where none begins
unfoldable pub chars_from : ℕ → ℕ → List ℕ → List Character
chars_from at skip [] = []
chars_from at zero (a ∷ l) = character (front at (a ∷ l)) (λ next. chars_from (suc at) (next - suc at) l)
chars_from at (suc skip) (a ∷ l) = chars_from (suc at) skip l

-- the characters of s from an offset, up to the end or to the first place where none begins
unfoldable pub chars : List ℕ → ℕ → List Character
chars s at = chars_from at 0 (drop at s)

-- the offset behind these characters, which stand in a row from the offset at
unfoldable pub row_end : ℕ → List Character → ℕ
row_end at [] = at
row_end at (ch ∷ cs) = row_end ch.next cs
