use mathlib.Core.Path.{◌≡◌}
use mathlib.Core.Bool.{Bool, true, false}
use Prim.Native.Nat.{◌-◌, ◌^◌}
use lib.ListN.{replicate}
use borrow.Author.Rules.{rules}
use Rattle.text.specs.Bits.{bits_from}
use Rattle.sheet.specs.Adapters.{word_bits, set_words, packed, words_from}
use Rattle.sheet.proofs.adapters.all_if.Goals as goal

module _ (all : Bool) where
  every : all ≡ true → record { words = replicate set_words (2 ^ word_bits - 1) } ≡ packed (λ _. all)
  unfolding packed bits_from words_from
  every h = rw h

  none : all ≡ false → record { words = replicate set_words 0 } ≡ packed (λ _. all)
  unfolding packed bits_from words_from
  none h = rw h

pub returns-then-all : goal.returns-then-all
returns-then-all c = search (rules, every)

pub returns : goal.returns
returns c = search (rules, none)
