use Rattle.std.proofs.Common.{rules}
use Rattle.reader.proofs.SectionLaws.{whens_begin, whens_end, whens_full, whens_stop, whens_put}
use Rattle.reader.proofs.section.whens.Goals as goal

pub loop-next-init : goal.loop-next-init
loop-next-init c = search whens_begin

pub returns-then-list-ge4 : goal.returns-then-list-ge4
returns-then-list-ge4 c = search whens_full

pub returns-in_err-x : goal.returns-in_err-x
returns-in_err-x c =
    let h = whens_stop _ _ _ _ _ _ c.loop-next.invariant c.accept_kw.ensures c.in-Some.is c.if-list-ge4.false c.trigger_named.ensures c.in_err-x.was in
    search rules

pub loop-next-preserved : goal.loop-next-preserved
loop-next-preserved c =
    let w = c.in_ok-x.was in
    search whens_put

pub returns : goal.returns
returns c = search whens_end
