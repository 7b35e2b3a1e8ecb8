-- Classes of ASCII characters (document 01, "Tokens and places").
use Rattle.std.specs.Prelude.{ℕ, Bool, true, eqb}
use Rattle.text.specs.Choice.{pick, within}

-- 0 to 9
unfoldable pub is_digit : ℕ → Bool
is_digit c = within 0x30 0x39 c

-- A to Z, a to z
unfoldable pub is_alpha : ℕ → Bool
is_alpha c = pick (within 0x41 0x5A c) true (within 0x61 0x7A c)

-- "Words are ASCII letters, digits and `_`, not starting with a digit."
unfoldable pub is_word_start : ℕ → Bool
is_word_start c = pick (is_alpha c) true (eqb c 0x5F)

unfoldable pub is_word_part : ℕ → Bool
is_word_part c = pick (is_word_start c) true (is_digit c)
