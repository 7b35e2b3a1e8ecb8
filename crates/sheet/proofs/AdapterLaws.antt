-- What the bits of a set of adapters come to: an adapter is in the set exactly if it was put there.
use mathlib.Core.Path.{◌≡◌, ◌∙◌, refl, sym, ap}
use mathlib.Core.Bool.{Bool, true, false}
use mathlib.Core.List.{List}
use Prim.Native.Nat.{ℕ, zero, suc, ◌+◌, ◌*◌, ◌/◌, ◌%◌, ◌^◌, ◌<◌, ◌≤◌}
use native.Mathlib.Omega.{arith}
use native.Mathlib.Nat.{mod-lt, zero-div}
use lib.ListN.{length, get_or, set, length-set}
use lib.Seq.{ext_get_or, get_or-set_same, get_or-set_other}
use lib.Dec.{eqb, eqb-zero-suc, eqb-suc-zero, eqb-suc-suc}
use lib.Bits.{bit_or, bit_xor, or_shr, or_mod, or_lt, or_zero_r, xor_shr, xor_mod, xor_lt, xor_zero_r}
use lib.Pow.{shl_exact}
use borrow.Author.Tests.{eq-eqb, ne_eqb, eqb-true, eqb-false, le-leb, lt-leb}
use Rattle.text.specs.Choice.{pick}
use Rattle.text.proofs.Tests.{picked}
use Rattle.model.specs.Limits.{last_adapter}
use Rattle.text.specs.Bits.{bits_from, digit}
use Rattle.text.proofs.BitLaws.{bit, bit-eqb, digit-bit, digit-suc, bits_small, bits_at, bits_of}
use Rattle.sheet.specs.Adapters.{word_bits, set_words, has, put, packed, including, words_from}
use Rattle.sheet.specs.declared.adapters.Adapters.{Adapters}

-- the words of a set
words_long : (f : ℕ → Bool) (n count : ℕ) → length (words_from f n count) ≡ count
unfolding words_from
words_long f n zero = refl
words_long f n (suc count) = ap suc (words_long f (n + word_bits) count)

words-at : (f : ℕ → Bool) (n count i : ℕ) → i < count → get_or (words_from f n count) i 0 ≡ bits_from f (n + i * word_bits) word_bits
unfolding words_from
words-at f n zero i h = absurd (omega arith)
words-at f n (suc count) zero h = let e : n + 0 ≡ n = omega arith in rw e
words-at f n (suc count) (suc i) h =
    let e : n + suc i * word_bits ≡ n + word_bits + i * word_bits = omega arith in
    rw e (words-at f (n + word_bits) count i (omega arith))

-- which adapters a set has
has-at : (s : Adapters) (a i k : ℕ) → a ≤ last_adapter → a ≡ i * word_bits + k → k < word_bits →
    has s a ≡ eqb (digit (get_or s.words i 0) k) 1
unfolding has
has-at s a i k h e l =
    let word : a / word_bits ≡ i = omega arith in
    let place : a % word_bits ≡ k = omega arith in
    rw (le-leb a last_adapter h, word, place)

pub has_beyond : (s : Adapters) (a : ℕ) → last_adapter < a → has s a ≡ false
unfolding has
has_beyond s a h = rw (lt-leb a last_adapter h)

pub has-packed : (f : ℕ → Bool) (a : ℕ) → a ≤ last_adapter → has (packed f) a ≡ f a
unfolding packed
has-packed f a h =
    let i = a / word_bits in
    let k = a % word_bits in
    let e : 0 + i * word_bits + k ≡ a = omega arith in
    rw
    (has-at (packed f) a i k h (omega arith) (omega arith), words-at f 0 set_words i (omega arith), bits_at f (0 + i * word_bits) word_bits k (omega arith), e)
    (bit-eqb (f a))

-- A set as the code has it is told by which adapters it has.
module _ (s : Adapters) (long : length s.words ≡ set_words) (small : (i : ℕ) → i < set_words → get_or s.words i 0 < 2 ^ word_bits) where
  pub packed-by : (f : ℕ → Bool) → ((a : ℕ) → a ≤ last_adapter → has s a ≡ f a) → s ≡ packed f
  unfolding packed
  packed-by f same =
      ap (λ (ws : List ℕ). record { words = ws })
      (ext_get_or 0 s.words (words_from f 0 set_words) (long ∙ sym (words_long f 0 set_words))
      (λ i h.
      rw (words-at f 0 set_words i (omega arith))
      (bits_of f (0 + i * word_bits) word_bits (get_or s.words i 0) (small i (omega arith))
      (λ k l.
      let a = 0 + i * word_bits + k in
      digit-bit (digit (get_or s.words i 0) k) (f a) (mod-lt _ (omega arith))
      (sym (has-at s a i k (omega arith) (omega arith) l) ∙ same a (omega arith))))))

  -- no set has an adapter beyond the last, and none gets it
  pub put_beyond : (a : ℕ) (inside : Bool) → last_adapter < a → s ≡ put s a inside
  unfolding put including
  put_beyond a inside h = packed-by (including (has s) a inside) (λ b l. rw (ne_eqb b a (λ e. omega arith)))

pub packed-same : (f g : ℕ → Bool) → ((a : ℕ) → a ≤ last_adapter → f a ≡ g a) → packed f ≡ packed g
unfolding packed
packed-same f g e =
    packed-by (packed f) (words_long f 0 set_words)
    (λ i h. rw (words-at f 0 set_words i h) (bits_small f (0 + i * word_bits) word_bits))
    g
    (λ a h. has-packed f a h ∙ e a h)

-- what follows from two numbers being the same, and from their being different
by-same : {A : Type 0} (m n : ℕ) → (m ≡ n → A) → ((m ≡ n → ⊥) → A) → A
by-same {A} m n f g = picked (λ (_ : ℕ). A) (eqb m n) {a = 0} {b = 0} (λ e. f (eqb-true m n e)) (λ e. g (eqb-false m n e))

pub eqb-turned : (m n : ℕ) → eqb m n ≡ eqb n m
eqb-turned m n = by-same m n (λ e. eq-eqb m n e ∙ sym (eq-eqb n m (sym e))) (λ d. ne_eqb m n d ∙ sym (ne_eqb n m (λ e. d (sym e))))

-- one adapter more
pub put-packed : {s : Adapters} (f g : ℕ → Bool) (a : ℕ) (inside : Bool) → s ≡ packed f → ((b : ℕ) → pick (eqb a b) inside (f b) ≡ g b) →
    put s a inside ≡ packed g
unfolding put including
put-packed {s} f g a inside is same =
    packed-same (including (has s) a inside) g (λ b h. rw (is, has-packed f b h, eqb-turned b a) (same b))

-- the digits of a power, and those of a word with the digit of this power set and cleared
power-digit : (k j : ℕ) → digit (2 ^ k) j ≡ bit (eqb j k)
power-digit zero zero = refl
power-digit (suc k) zero = rw eqb-zero-suc (omega arith)
power-digit zero (suc j) = rw (eqb-suc-zero, digit-suc 1 j, zero-div (2 ^ j))
power-digit (suc k) (suc j) = let half : 2 ^ suc k / 2 ≡ 2 ^ k = omega arith in rw (eqb-suc-suc, digit-suc, half) (power-digit k j)

or-bit : (n : ℕ) (t : Bool) → n < 2 → bit_or n (bit t) ≡ pick t 1 n
or-bit n false h = or_zero_r n
or-bit zero true h = refl
or-bit (suc zero) true h = refl
or-bit (suc (suc n)) true h = absurd (omega arith)

xor-bit : (n : ℕ) (t : Bool) → bit_xor (pick t 1 n) (bit t) ≡ pick t 0 n
xor-bit n true = refl
xor-bit n false = xor_zero_r n

or-digit : (w v k : ℕ) → digit (bit_or w v) k ≡ bit_or (digit w k) (digit v k)
or-digit w v k = rw or_shr (or_mod (w / 2 ^ k) (v / 2 ^ k) 1)

xor-digit : (w v k : ℕ) → digit (bit_xor w v) k ≡ bit_xor (digit w k) (digit v k)
xor-digit w v k = rw xor_shr (xor_mod (w / 2 ^ k) (v / 2 ^ k) 1)

digit_set : (w k j : ℕ) → digit (bit_or w (2 ^ k)) j ≡ pick (eqb j k) 1 (digit w j)
digit_set w k j = rw (or-digit, power-digit) (or-bit (digit w j) (eqb j k) (mod-lt _ (omega arith)))

digit_cleared : (w k j : ℕ) → digit (bit_xor (bit_or w (2 ^ k)) (2 ^ k)) j ≡ pick (eqb j k) 0 (digit w j)
digit_cleared w k j = rw (xor-digit, digit_set, power-digit) (xor-bit (digit w j) (eqb j k))

-- an adapter's digit alone, as the code shifts it there, and the word in which it is
abbrev pub own-bit : ℕ → ℕ
own-bit a = 1 * 2 ^ (a % word_bits) % 2 ^ word_bits

abbrev pub own-word : Adapters → ℕ → ℕ
own-word s a = get_or s.words (a / word_bits) 0

own_power : (a : ℕ) → own-bit a ≡ 2 ^ (a % word_bits)
own_power a = shl_exact {a = 1} 1 (a % word_bits) word_bits (omega arith) (omega arith) ∙ omega arith

own-small : (a : ℕ) → own-bit a < 2 ^ word_bits
own-small a = mod-lt _ (omega arith)

pick-bit : (t inside : Bool) (n : ℕ) → eqb (pick t (bit inside) n) 1 ≡ pick t inside (eqb n 1)
pick-bit true inside n = bit-eqb inside
pick-bit false inside n = refl

-- An adapter is put by the word in which it is: v is this word but for the adapter's digit.
module _ (s : Adapters) (long : length s.words ≡ set_words) (small : (i : ℕ) → i < set_words → get_or s.words i 0 < 2 ^ word_bits)
    (a : ℕ) (known : a ≤ last_adapter) where
  module _ (inside : Bool) (v : ℕ) (fits : v < 2 ^ word_bits)
      (digits : (k : ℕ) → digit v k ≡ pick (eqb k (a % word_bits)) (bit inside) (digit (own-word s a) k)) where
    other : Adapters
    other = record { words = set s.words (a / word_bits) v }

    other-small : (i : ℕ) → i < set_words → get_or (set s.words (a / word_bits) v) i 0 < 2 ^ word_bits
    other-small i h =
        by-same i (a / word_bits)
        (λ e. rw (e, get_or-set_same s.words (a / word_bits) v 0 (omega arith)) fits)
        (λ n. rw (get_or-set_other s.words (a / word_bits) i v 0 n) (small i h))

    other-has : (b : ℕ) → b ≤ last_adapter → has other b ≡ including (has s) a inside b
    unfolding including other
    other-has b h =
        let i = b / word_bits in
        let k = b % word_bits in
        by-same i (a / word_bits)
        (λ e.
        let t : eqb k (a % word_bits) ≡ eqb b a =
        by-same b a
        (λ q. eq-eqb k (a % word_bits) (omega arith) ∙ sym (eq-eqb b a q))
        (λ q. ne_eqb k (a % word_bits) (omega arith) ∙ sym (ne_eqb b a q)) in
        rw (
          has-at other b (a / word_bits) k h (omega arith) (omega arith),
          get_or-set_same s.words (a / word_bits) v 0 (omega arith),
          digits k,
          t,
          has-at s b (a / word_bits) k h (omega arith) (omega arith),
        )
        (pick-bit (eqb b a) inside (digit (own-word s a) k)))
        (λ n.
        let t = ne_eqb b a (omega arith) in
        rw (
          t,
          has-at other b i k h (omega arith) (omega arith),
          get_or-set_other s.words (a / word_bits) i v 0 n,
          has-at s b i k h (omega arith) (omega arith),
        ))

    put-by : record { words = set s.words (a / word_bits) v } ≡ put s a inside
    unfolding put other
    put-by = packed-by other (simp length-set long) other-small (including (has s) a inside) other-has

  set-small : bit_or (own-word s a) (own-bit a) < 2 ^ word_bits
  set-small = or_lt word_bits _ _ (small (a / word_bits) (omega arith)) (own-small a)

  pub put_in : record { words = set s.words (a / word_bits) (bit_or (own-word s a) (own-bit a)) } ≡ put s a true
  put_in = put-by true _ set-small (λ k. rw (own_power a) (digit_set _ (a % word_bits) k))

  pub put-out : record { words = set s.words (a / word_bits) (bit_xor (bit_or (own-word s a) (own-bit a)) (own-bit a)) } ≡ put s a false
  put-out = put-by false _ (xor_lt word_bits _ _ set-small (own-small a)) (λ k. rw (own_power a) (digit_cleared _ (a % word_bits) k))
