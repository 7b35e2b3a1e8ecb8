-- A set of adapters as the code keeps it, one bit for each. Nothing here need be believed: `has-packed` shows what it comes to.
use Rattle.std.specs.Prelude.{ℕ, zero, suc, ◌+◌, ◌/◌, ◌%◌, List, [], ◌∷◌, Bool, false, eqb, leb, get_or}
use Rattle.text.specs.Choice.{pick}
use Rattle.text.specs.Bits.{bits_from, digit}
use Rattle.model.specs.Limits.{last_adapter}
use Rattle.sheet.specs.declared.adapters.Adapters.{Adapters}

-- the bits of one word, and the words of a set
abbrev pub word_bits : ℕ
word_bits = 32

abbrev pub set_words : ℕ
set_words = 8

unfoldable pub has : Adapters → ℕ → Bool
has set a = pick (leb a last_adapter) (eqb (digit (get_or set.words (a / word_bits) 0) (a % word_bits)) 1) false

-- the words of a set from the adapter n on
unfoldable pub words_from : (ℕ → Bool) → ℕ → ℕ → List ℕ
words_from in-set n zero = []
words_from in-set n (suc count) = bits_from in-set n word_bits ∷ words_from in-set (n + word_bits) count

unfoldable pub packed : (ℕ → Bool) → Adapters
packed in-set = record { words = words_from in-set 0 set_words }

-- the set in which a is as said, and every other as before
unfoldable pub including : (ℕ → Bool) → ℕ → Bool → ℕ → Bool
including in-set a inside b = pick (eqb b a) inside (in-set b)

unfoldable pub put : Adapters → ℕ → Bool → Adapters
put set a inside = packed (including (has set) a inside)
