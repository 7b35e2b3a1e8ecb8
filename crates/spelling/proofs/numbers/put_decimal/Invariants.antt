use Prim.Native.Nat.{◌-◌}
use mathlib.Core.Path.{◌≡◌}
use Rattle.spelling.proofs.NumberLaws.{Spelling}
use Rattle.spelling.proofs.numbers.put_decimal.Given as goal

abbrev pub invariant-loop-i : goal.invariant-loop-i
invariant-loop-i l = (l.out ≡ l.initial.out) × Spelling l.n l.digits (10 - l.i) l.rest
