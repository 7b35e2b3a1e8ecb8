use Prim.Native.Nat.{◌-◌}
use mathlib.Core.Path.{◌≡◌}
use lib.ListN.{length}
use lib.Seq.{sets}
use Rattle.chains.specs.Listed.{most_pieces}
use Rattle.chains.specs.Way.{built}
use Rattle.chains.proofs.built.Given as goal

abbrev pub invariant-loop-i : goal.invariant-loop-i
invariant-loop-i l =
    (length l.pieces ≡ most_pieces) ×
    (sets l.pieces l.i (built l.v l.p l.low l.i l.place (l.count - l.i)) ≡
    sets l.initial.pieces l.initial.i (built l.v l.p l.low l.initial.i l.initial.place (l.count - l.initial.i)))
