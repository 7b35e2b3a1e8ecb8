use Prim.Native.Nat.{◌-◌}
use mathlib.Core.Path.{◌≡◌}
use Rattle.chains.specs.Vocabulary.{piece_count}
use Rattle.chains.specs.Way.{least_from, least}
use Rattle.chains.proofs.least.Given as goal

abbrev pub invariant-loop-q : goal.invariant-loop-q
invariant-loop-q l = least_from l.place l.left (piece_count - l.q) l.q ≡ least l.place l.low l.left
