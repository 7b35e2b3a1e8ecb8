use Rattle.std.proofs.Common.{◌≡◌, ◌+◌, ◌-◌, arith, rules}
use Rattle.tokens.proofs.Chain.{none-left}
use Rattle.references.proofs.ArgLaws.{begin, at-limit, no-arg, last-arg, go_on}
use Rattle.references.proofs.args.args_list.Goals as goal

pub loop-init : goal.loop-init
loop-init c = begin _ _ _ _ _ (omega (arith, c.count-end.ensures)) c.no_args-args.ensures

pub returns-in_err-item : goal.returns-in_err-item
returns-in_err-item c =
    let left : c.count-end.result - c.loop.counter ≡ 0 → ⊥ = omega (arith, c.loop-test.true) in
    search (rules, no-arg)

pub returns-in_default : goal.returns-in_default
returns-in_default c =
    last-arg c.loop.invariant (omega (arith, c.loop-test.true)) c.arg_at.ensures c.in_ok-item.was c.put_item-args.ensures c.accept.ensures (none-left c.in_default.not-Some)

pub loop-preserved : goal.loop-preserved
loop-preserved c =
    let e : c.count-end.result - (c.loop.counter + 1) ≡ c.count-end.result - c.loop.counter - 1 = omega arith in
    rw e
    (go_on c.loop.invariant (omega (arith, c.loop-test.true)) c.arg_at.ensures c.in_ok-item.was c.put_item-args.ensures c.accept.ensures c.count_with-count.ensures c.in-Some.is)

pub returns : goal.returns
returns c = at-limit c.loop.invariant (omega (arith, c.loop-test.false)) c.refuse.ensures
