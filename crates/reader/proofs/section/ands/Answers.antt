use Rattle.std.proofs.Common.{refl, rules}
use Rattle.reader.proofs.SectionLaws.{ands_begin, ands_end, ands_full, ands_stop, ands_put}
use Rattle.reader.proofs.section.ands.Goals as goal

pub loop-next-init : goal.loop-next-init
loop-next-init c = search ands_begin

pub returns-then-list-ge4 : goal.returns-then-list-ge4
returns-then-list-ge4 c = search ands_full

pub returns-in_err-y : goal.returns-in_err-y
returns-in_err-y c =
    let h = ands_stop _ _ _ _ c.loop-next.invariant c.accept_kw.ensures c.in-Some.is c.if-list-ge4.false c.condition_at.ensures _ c.args.first c.one_condition-list.ensures c.in_err-y.was refl in
    search rules

pub loop-next-preserved : goal.loop-next-preserved
loop-next-preserved c =
    let w = c.in_ok-y.was in
    search ands_put

pub returns : goal.returns
returns c = search ands_end
