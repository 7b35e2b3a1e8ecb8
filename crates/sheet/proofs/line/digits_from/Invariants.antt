use mathlib.Core.Path.{◌≡◌}
use Prim.Native.Nat.{◌≤◌}
use lib.ListN.{drop}
use Rattle.sheet.specs.Line.{digits_on}
use Rattle.sheet.proofs.line.digits_from.Given as goal

-- the digits from here, behind those that write value, write what all do; value is small enough for one digit more
abbrev pub invariant-loop-c : goal.invariant-loop-c
invariant-loop-c l = (l.value ≤ 999) × (digits_on l.value (drop l.c-index l.l) ≡ digits_on 0 l.l)
