use borrow.Author.Rules.{rules}
use Rattle.spelling.proofs.PutLaws.{fits-1, fits-2, put_1, put_2}
use Rattle.spelling.proofs.WeekLaws.{other-day, first-day}
use Rattle.spelling.proofs.week.put_next.Goals as goal

pub put-i-requires : goal.put-i-requires
put-i-requires c = fits-1 (other-day c.args.d c.if-some.true) _ _ c.requires.1

pub put_day-requires : goal.put_day-requires
put_day-requires c = ((search rules), fits-2 (other-day c.args.d c.if-some.true) _ _ _ _ c.requires.1 c.put-i.ensures)

pub returns-then-some : goal.returns-then-some
returns-then-some c = put_2 (other-day c.args.d c.if-some.true) _ _ _ _ _ _ c.put-i.ensures c.put_day.ensures

pub put_day-requires-2 : goal.put_day-requires-2
put_day-requires-2 c = ((search rules), fits-1 (first-day c.args.d c.if-some.false) _ _ c.requires.1)

pub returns : goal.returns
returns c = put_1 (first-day c.args.d c.if-some.false) _ _ _ _ c.put_day-2.ensures
