use mathlib.Core.Path.{refl}
use Rattle.tokens.proofs.ScanLaws.{at_next, at_stop, less-left, quoted_stop, quoted-end, quoted-wide, scans}
use Rattle.tokens.proofs.scan.string_end.Goals as goal

pub loop-next-init : goal.loop-next-init
loop-next-init c = refl

pub overflow_add-next : goal.overflow_add-next
overflow_add-next c = search scans

pub overflow_add-at : goal.overflow_add-at
overflow_add-at c = search scans

pub loop-next-smaller-then-b-lt128 : goal.loop-next-smaller-then-b-lt128
loop-next-smaller-then-b-lt128 c = search scans

pub loop-next-preserved-then-b-lt128 : goal.loop-next-preserved-then-b-lt128
loop-next-preserved-then-b-lt128 c = search scans

pub loop-next-smaller : goal.loop-next-smaller
loop-next-smaller c = less-left _ _ c.decoded.ensures c.in-Some.is

pub loop-next-preserved : goal.loop-next-preserved
loop-next-preserved c = at_next _ _ c.decoded.ensures c.loop-next.invariant c.in-Some.is
    (quoted-wide _ _ _ _ c.octet-b.ensures c.if-b-lt128.false)

pub returns-then-b-eq34 : goal.returns-then-b-eq34
returns-then-b-eq34 c = search scans

pub returns-then-b-eq10 : goal.returns-then-b-eq10
returns-then-b-eq10 c = quoted-end _ _ _ _ c.octet-b.ensures c.loop-next.invariant c.if-b-lt128.true
    c.if-b-eq10.true

pub returns-in-None : goal.returns-in-None
returns-in-None c = at_stop _ _ c.decoded.ensures c.loop-next.invariant c.in-None.is (λ t. quoted_stop t)
