use Prim.Native.Nat.{suc, ◌+◌, ◌-◌}
use mathlib.Core.Path.{◌≡◌, refl}
use native.Mathlib.Omega.{arith}
use Rattle.spelling.proofs.PutLaws.{fits-1, put_1}
use Rattle.spelling.proofs.NumberLaws.{no_digit, next-digit, first_digit, ten_digits}
use Rattle.spelling.proofs.numbers.put_decimal.Goals as goal

pub loop-i-init : goal.loop-i-init
loop-i-init c = (refl, no_digit c.args.n refl)

pub loop-i-preserved : goal.loop-i-preserved
loop-i-preserved c = let up : 10 - c.loop-i.i ≡ suc (10 - (c.loop-i.i + 1)) = omega arith in
    let place : 9 - c.loop-i.i ≡ 10 - (c.loop-i.i + 1) = omega arith in
    (c.loop-i.invariant.0, rw place (next-digit c.loop-i.invariant.1 up c.digit.ensures (omega arith)))

pub put-requires : goal.put-requires
put-requires c = let up : 10 - c.loop-i.i ≡ suc (9 - c.loop-i.i) = omega arith in
    rw c.loop-i.invariant.0 (fits-1 (first_digit c.loop-i.invariant.1 up c.digit.ensures (omega arith)) _ _ c.requires)

pub returns-then-rest-eq0 : goal.returns-then-rest-eq0
returns-then-rest-eq0 c = let up : 10 - c.loop-i.i ≡ suc (9 - c.loop-i.i) = omega arith in
    rw (← c.loop-i.invariant.0) (put_1 (first_digit c.loop-i.invariant.1 up c.digit.ensures (omega arith)) _ _ _ _ c.put.ensures)

pub put-requires-2 : goal.put-requires-2
put-requires-2 c = rw c.loop-i.invariant.0 (fits-1 (ten_digits c.loop-i.invariant.1 (omega arith)) _ _ c.requires)

pub returns : goal.returns
returns c = rw (← c.loop-i.invariant.0) (put_1 (ten_digits c.loop-i.invariant.1 (omega arith)) _ _ _ _ c.put-2.ensures)
