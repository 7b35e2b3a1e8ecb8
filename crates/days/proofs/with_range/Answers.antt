use borrow.Author.Rules.{rules}
use Rattle.days.proofs.DayLaws.{nothing-summed, summed-small, bit-more, bit-less, range-summed}
use Rattle.days.proofs.with_range.Goals as goal

pub loop-left-init : goal.loop-left-init
loop-left-init c = (nothing-summed _, (search rules), (search rules))

pub loop-left-preserved-then-gets : goal.loop-left-preserved-then-gets
loop-left-preserved-then-gets c = let next = bit-more c.loop-left.invariant.0 c.loop-left-test.true c.gets.ensures c.if-gets.true in (next, summed-small next, (search rules))

pub loop-left-preserved : goal.loop-left-preserved
loop-left-preserved c = let next = bit-less c.loop-left.invariant.0 c.loop-left-test.true c.gets.ensures c.if-gets.false in (next, summed-small next, (search rules))

pub returns : goal.returns
returns c = search (rules, range-summed)
