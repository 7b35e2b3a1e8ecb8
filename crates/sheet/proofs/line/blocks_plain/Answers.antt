use borrow.Author.Rules.{rules}
use Rattle.sheet.proofs.PlainLaws.{block_on, marked, last_block}
use Rattle.sheet.proofs.line.blocks_plain.Goals as goal

pub loop-at-preserved : goal.loop-at-preserved
loop-at-preserved c = search (rules, block_on)

pub returns-else-eight_unmarked : goal.returns-else-eight_unmarked
returns-else-eight_unmarked c = marked _ _ c.eight_unmarked.ensures (search rules) c.if-eight_unmarked.false

pub returns : goal.returns
returns c = let l = c.loop-at in last_block _ _ c.eight_unmarked-2.ensures l.at (search rules) (search rules) l.invariant
