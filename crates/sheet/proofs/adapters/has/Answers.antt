use mathlib.Core.Path.{◌≡◌, sym}
use mathlib.Core.Bool.{false}
use Prim.Native.Nat.{ℕ, ◌/◌, ◌%◌, ◌^◌, ◌<◌, ◌≤◌}
use lib.ListN.{get_or}
use lib.Dec.{eqb}
use lib.Bits.{bit_and, and_mask}
use borrow.Author.Rules.{rules}
use borrow.Author.Tests.{le-leb}
use Rattle.model.specs.Limits.{last_adapter}
use Rattle.sheet.specs.Adapters.{word_bits, has}
use Rattle.sheet.specs.declared.adapters.Adapters.{Adapters}
use Rattle.sheet.proofs.AdapterLaws.{has_beyond}
use Rattle.sheet.proofs.adapters.has.Goals as goal

beyond : (s : Adapters) (a : ℕ) → last_adapter < a → false ≡ has s a
beyond s a h = sym (has_beyond s a h)

known : (s : Adapters) (a : ℕ) → a ≤ last_adapter →
    eqb (bit_and (get_or s.words (a / word_bits) 0 / 2 ^ (a % word_bits)) 1) 1 ≡ has s a
unfolding has
known s a h = rw (le-leb a last_adapter h, and_mask (get_or s.words (a / word_bits) 0 / 2 ^ (a % word_bits)) 1)

pub returns-then-a-gt-MAX_ADAPTER : goal.returns-then-a-gt-MAX_ADAPTER
returns-then-a-gt-MAX_ADAPTER c = search (rules, beyond)

pub returns : goal.returns
returns c = search (rules, known)
