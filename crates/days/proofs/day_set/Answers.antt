use Rattle.std.proofs.Common.{◌≡◌, ◌+◌, ◌-◌, arith, rules}
use Rattle.tokens.proofs.Chain.{none-left}
use Rattle.days.proofs.SetLaws.{begin, at-limit, no_range_lem, last-range, go_on}
use Rattle.days.proofs.day_set.Goals as goal

pub loop-init : goal.loop-init
loop-init c = begin _ _ _ (omega (arith, c.count-end.ensures)) c.no_day-days.ensures

pub returns-in_err-more : goal.returns-in_err-more
returns-in_err-more c =
    let left : c.count-end.result - c.loop.counter ≡ 0 → ⊥ = omega (arith, c.loop-test.true) in
    search (rules, no_range_lem)

pub returns-in_default : goal.returns-in_default
returns-in_default c =
    last-range c.loop.invariant (omega (arith, c.loop-test.true)) c.range_at.ensures c.in_ok-more.was c.accept.ensures (none-left c.in_default.not-Some)

pub loop-preserved : goal.loop-preserved
loop-preserved c =
    let e : c.count-end.result - (c.loop.counter + 1) ≡ c.count-end.result - c.loop.counter - 1 = omega arith in
    rw e (go_on c.loop.invariant (omega (arith, c.loop-test.true)) c.range_at.ensures c.in_ok-more.was c.accept.ensures c.in-Some.is)

pub returns : goal.returns
returns c = at-limit c.loop.invariant (omega (arith, c.loop-test.false)) c.refuse.ensures
