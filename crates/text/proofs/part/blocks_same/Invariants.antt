use mathlib.Core.Path.{◌≡◌}
use lib.ListN.{take}
use Rattle.text.proofs.part.blocks_same.Given as goal

-- the bytes up to here are the same
abbrev pub invariant-loop-at : goal.invariant-loop-at
invariant-loop-at l = take (l.at) l.a ≡ take (l.at) l.b
