use mathlib.Core.Path.{◌≡◌}
use lib.ListN.{length, take}
use Rattle.flat.specs.Flat.{row_words}
use Rattle.tergyosul.specs.Writing.{row_in}
use Rattle.tergyosul.proofs.lists.row_in.Given as goal

-- the words before `i` are in place
abbrev pub invariant-loop-i : goal.invariant-loop-i
invariant-loop-i l = (length l.out ≡ row_words) × (take l.i l.out ≡ take l.i (row_in l.words l.row))
