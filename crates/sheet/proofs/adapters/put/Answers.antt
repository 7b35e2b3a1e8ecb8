use mathlib.Core.Path.{◌≡◌}
use mathlib.Core.Bool.{Bool, true, false}
use Prim.Native.Nat.{ℕ, ◌/◌, ◌<◌, ◌≤◌}
use lib.ListN.{length, get_or, set}
use lib.Bits.{bit_or, bit_xor}
use mir.Syntax.{w32}
use mir.Val.{Fits}
use borrow.Author.Rules.{rules}
use Rattle.model.specs.Limits.{last_adapter}
use Rattle.sheet.specs.Adapters.{word_bits, set_words, put}
use Rattle.sheet.specs.declared.adapters.Adapters.{Adapters}
use Rattle.sheet.proofs.AdapterLaws.{own-bit, own-word, put_beyond, put_in, put-out}
use Rattle.sheet.proofs.adapters.put.Goals as goal

module _ (s : Adapters) (a : ℕ) (inside : Bool) (long : length s.words ≡ set_words) (fits : (i : ℕ) → Fits w32 (get_or s.words i 0)) where
  beyond : last_adapter < a → s ≡ put s a inside
  beyond = put_beyond s long (λ i _. (fits i).fits) a inside

  module _ (known : a ≤ last_adapter) where
    yes : inside ≡ true → record { words = set s.words (a / word_bits) (bit_or (own-word s a) (own-bit a)) } ≡ put s a inside
    yes h = rw h (put_in s long (λ i _. (fits i).fits) a known)

    no : inside ≡ false →
        record { words = set s.words (a / word_bits) (bit_xor (bit_or (own-word s a) (own-bit a)) (own-bit a)) } ≡ put s a inside
    no h = rw h (put-out s long (λ i _. (fits i).fits) a known)

pub returns-then-a-gt-MAX_ADAPTER : goal.returns-then-a-gt-MAX_ADAPTER
returns-then-a-gt-MAX_ADAPTER c = search (rules, beyond)

pub returns-then-inside : goal.returns-then-inside
returns-then-inside c = search (rules, yes)

pub returns-else-inside : goal.returns-else-inside
returns-else-inside c = search (rules, no)
