use Prim.Native.Nat.{◌+◌, ◌-◌}
use mathlib.Core.Path.{◌≡◌}
use Rattle.chains.specs.Listed.{most_pieces}
use Rattle.chains.specs.Way.{longer_from, longer}
use Rattle.chains.proofs.longer.Given as goal

abbrev pub invariant-loop-n : goal.invariant-loop-n
invariant-loop-n l = longer_from l.v (most_pieces + 1 - l.n) l.n ≡ longer l.v l.from
