-- White space: the property White_Space of Unicode, as its file PropList.txt lists it.
use Rattle.std.specs.Prelude.{ℕ, List, [], ◌∷◌, Bool, true, false}
use Rattle.text.specs.Choice.{pick, within}

-- a range of code points
pub record Range : Type 0 where
  pub first : ℕ
  pub last : ℕ

abbrev pub span : ℕ → ℕ → Range
span a b = record { first = a; last = b }

abbrev one : ℕ → Range
one a = span a a

-- # Total code points: 25
unfoldable pub white_space : List Range
white_space =
    -- 0009..000D    ; White_Space # Cc   [5] <control-0009>..<control-000D>
    span 0x0009 0x000D
    -- 0020          ; White_Space # Zs       SPACE
    ∷ one 0x0020
    -- 0085          ; White_Space # Cc       <control-0085>
    ∷ one 0x0085
    -- 00A0          ; White_Space # Zs       NO-BREAK SPACE
    ∷ one 0x00A0
    -- 1680          ; White_Space # Zs       OGHAM SPACE MARK
    ∷ one 0x1680
    -- 2000..200A    ; White_Space # Zs  [11] EN QUAD..HAIR SPACE
    ∷ span 0x2000 0x200A
    -- 2028          ; White_Space # Zl       LINE SEPARATOR
    ∷ one 0x2028
    -- 2029          ; White_Space # Zp       PARAGRAPH SEPARATOR
    ∷ one 0x2029
    -- 202F          ; White_Space # Zs       NARROW NO-BREAK SPACE
    ∷ one 0x202F
    -- 205F          ; White_Space # Zs       MEDIUM MATHEMATICAL SPACE
    ∷ one 0x205F
    -- 3000          ; White_Space # Zs       IDEOGRAPHIC SPACE
    ∷ one 0x3000
    ∷ []

-- whether a code point is in one of the ranges
unfoldable pub among : List Range → ℕ → Bool
among [] c = false
among (r ∷ rs) c = pick (within r.first r.last c) true (among rs c)

-- is this character white space?
unfoldable pub is_white : ℕ → Bool
is_white c = among white_space c
