use mathlib.Core.Path.{◌≡◌}
use Prim.Native.Nat.{◌-◌}
use lib.ListN.{length, drop}
use Rattle.text.specs.Split.{split}
use Rattle.tokens.specs.Cursor.{tokens}
use Rattle.tokens.specs.Phrase.{take_words, phrase_at}
use Rattle.tokens.proofs.cursor.Cursor.expect_phrase.Given as goal

abbrev pub invariant-loop-at : goal.invariant-loop-at
invariant-loop-at l = take_words (tokens l.t.text.now l.t.words.now) (split 0x20 (drop l.at l.list)) l.i ≡ phrase_at (tokens l.t.text.now l.t.words.now) l.list l.initial.i

abbrev pub decreases-loop-at : goal.decreases-loop-at
decreases-loop-at l = length l.list - l.at
