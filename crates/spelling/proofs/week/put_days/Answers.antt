use borrow.Author.Rules.{rules}
use Rattle.spelling.proofs.PutLaws.{put-length}
use Rattle.spelling.proofs.WeekLaws.{none_written, all-written, day-out, day-fits, day_in}
use Rattle.spelling.proofs.week.put_days.Goals.{then-bit-eq1, else-bit-eq1}
use Rattle.spelling.proofs.week.put_days.Goals as goal

pub loop-d-init : goal.loop-d-init
loop-d-init c = none_written _ _ _

pub put_next-end-requires : goal.put_next-end-requires
put_next-end-requires c = ((search rules), day-fits c.loop-d.invariant c.loop-d-test.true c.if-bit-eq1.true c.requires)

pub loop-d-preserved : goal.loop-d-preserved
loop-d-preserved c =
    elim c.if-bit-eq1.branch [
      | then-bit-eq1 w ↦ rw (w.out-is, w.end-is, w.some-is) (day_in c.loop-d.invariant c.loop-d-test.true w.if-bit-eq1.true w.put_next-end.ensures)
      | else-bit-eq1 w ↦ rw (w.out-is, w.end-is, w.some-is) (day-out c.loop-d.invariant c.loop-d-test.true w.if-bit-eq1.false)
    ]

pub shape_of-out : goal.shape_of-out
shape_of-out c = put-length c.loop-d.invariant.put

pub returns : goal.returns
returns c = all-written c.loop-d.invariant c.loop-d-test.false
