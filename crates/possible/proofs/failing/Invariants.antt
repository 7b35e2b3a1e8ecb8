use mathlib.Core.Path.{◌≡◌}
use mathlib.Core.Bool.{Bool}
use Prim.Native.Nat.{◌+◌}
use lib.ListN.{drop}
use Rattle.std.specs.Fn.{FnReturnsAt}
use Rattle.writing.specs.Writing.{failing}
use Rattle.possible.proofs.failing.Given as goal

-- the first that fails is the first from here on
abbrev pub invariant-loop-i : goal.invariant-loop-i
invariant-loop-i g l =
    (passes : _ → Bool) → ((x : _) (r : Bool) → FnReturnsAt g.F.Fn l.test x r → r ≡ passes x) →
    failing passes (l.from + l.i) (drop l.i l.rows) ≡ failing passes l.from l.rows
