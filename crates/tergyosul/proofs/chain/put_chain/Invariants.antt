use Prim.Native.Nat.{◌+◌}
use mathlib.Core.Path.{◌≡◌}
use lib.ListN.{length, drop}
use lib.Seq.{sets}
use Rattle.tergyosul.proofs.chain.put_chain.Given as goal

-- the pieces before `i` are written
abbrev pub invariant-loop-i : goal.invariant-loop-i
invariant-loop-i l = (length l.answer ≡ length l.initial.answer) × (sets l.answer (5 + l.i) (drop l.i l.c.pieces) ≡ sets l.initial.answer 5 l.c.pieces)
