use Rattle.text.proofs.BlockLaws.{row-begin, row_block}
use borrow.Author.Rules.{rules}
use native.Mathlib.Omega.{arith}
use Rattle.text.proofs.block.row.Goals as goal

pub loop-at-init : goal.loop-at-init
loop-at-init g c = λ p t. row-begin p _ _

pub overflow_add-at : goal.overflow_add-at
overflow_add-at g c = let e = c.eight.ensures.inside c.loop-at-test.true in search rules

pub loop-at-smaller : goal.loop-at-smaller
loop-at-smaller g c = let e = c.eight.ensures.inside c.loop-at-test.true in omega arith

pub loop-at-preserved : goal.loop-at-preserved
loop-at-preserved g c = λ p t. row_block p _ _ (c.eight.ensures.tells p t) c.loop-at-test.true _ (c.loop-at.invariant p t)
