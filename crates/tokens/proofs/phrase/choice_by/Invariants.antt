use mathlib.Core.Path.{◌≡◌}
use Prim.Native.Nat.{◌-◌, ◌≤◌}
use lib.ListN.{length, drop}
use Rattle.text.specs.Split.{split}
use Rattle.tokens.specs.Phrase.{choice_by}
use Rattle.tokens.proofs.ChoiceLaws.{choosing}
use Rattle.tokens.proofs.phrase.choice_by.Given as goal

abbrev pub invariant-loop-at : goal.invariant-loop-at
invariant-loop-at l = (choosing l.number l.i l.behind.index l.w l.n (split 0x20 (drop l.at l.list)) ≡ choice_by l.list l.number l.i l.behind.index l.w) × (l.n ≤ l.at)

abbrev pub decreases-loop-at : goal.decreases-loop-at
decreases-loop-at l = length l.list - l.at
