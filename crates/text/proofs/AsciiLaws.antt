-- The classes of ASCII characters by ranges, from the small letters down, as the code asks for them.
use Prim.Native.Nat.{ℕ, ◌<◌, ◌≤◌}
use mathlib.Core.Path.{◌≡◌, refl}
use mathlib.Core.Bool.{Bool, true, false}
use native.Mathlib.Omega.{arith}
use lib.Dec.{leb, eqb}
use borrow.Author.Tests.{le-leb, lt-leb, ne_eqb}
use Rattle.text.specs.Choice.{pick}
use Rattle.text.specs.Ascii.{is_digit, is_alpha, is_word_start, is_word_part}

itself : (t : Bool) → t ≡ pick t true false
itself true = refl
itself false = refl

itself-twice : (t : Bool) → t ≡ pick (pick t true false) true false
itself-twice true = refl
itself-twice false = refl

module _ (c : ℕ) where
  pub small_alpha : 0x61 ≤ c → leb c 0x7A ≡ is_alpha c
  unfolding is_alpha
  small_alpha h = rw (le-leb 0x41 c (omega arith), lt-leb c 0x5A (omega arith), le-leb 0x61 c h)

  pub capital_alpha : 0x41 ≤ c → c < 0x61 → leb c 0x5A ≡ is_alpha c
  unfolding is_alpha
  capital_alpha h k = rw (le-leb 0x41 c h, lt-leb 0x61 c k) (itself (leb c 0x5A))

  pub low_alpha : c < 0x41 → false ≡ is_alpha c
  unfolding is_alpha
  low_alpha h = rw (lt-leb 0x41 c h, lt-leb 0x61 c (omega arith))

  pub small-part : 0x61 ≤ c → leb c 0x7A ≡ is_word_part c
  unfolding is_word_part is_word_start is_digit
  small-part h =
      rw (← small_alpha h, ne_eqb c 0x5F (λ e. omega arith), le-leb 0x30 c (omega arith), lt-leb c 0x39 (omega arith)) (itself-twice (leb c 0x7A))

  pub capital_part : 0x41 ≤ c → c ≤ 0x5A → true ≡ is_word_part c
  unfolding is_word_part is_word_start is_alpha
  capital_part h k = rw (le-leb 0x41 c h, le-leb c 0x5A k)

  pub line-part : 0x5A < c → c < 0x61 → eqb c 0x5F ≡ is_word_part c
  unfolding is_word_part is_word_start is_alpha is_digit
  line-part h k =
      rw (le-leb 0x41 c (omega arith), lt-leb c 0x5A h, lt-leb 0x61 c k, le-leb 0x30 c (omega arith), lt-leb c 0x39 (omega arith))
      (itself (eqb c 0x5F))

  pub low_part : {r : Bool} → c < 0x41 → r ≡ is_digit c → r ≡ is_word_part c
  unfolding is_word_part is_word_start
  low_part h e = rw (← low_alpha h, ne_eqb c 0x5F (λ e. omega arith)) e
