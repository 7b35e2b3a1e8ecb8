use Rattle.text.proofs.SplitLaws.{next_fits, less-left}
use borrow.Author.Rules.{rules}
use Rattle.old_rows.specs.Convert.{first_malformed}
use Rattle.old_rows.proofs.ShapeLaws.{shapes}
use Rattle.old_rows.proofs.convert.first_malformed.Goals as goal

pub returns-then-n-gt-MAX_ROWS : goal.returns-then-n-gt-MAX_ROWS
unfolding first_malformed
returns-then-n-gt-MAX_ROWS c = search shapes

pub returns-then-end-s : goal.returns-then-end-s
unfolding first_malformed
returns-then-end-s c = search shapes

pub returns-then-not-is_well : goal.returns-then-not-is_well
unfolding first_malformed
returns-then-not-is_well c = search shapes

pub overflow_add-at : goal.overflow_add-at
overflow_add-at c = search (rules, next_fits)

pub loop-at-smaller : goal.loop-at-smaller
loop-at-smaller c = search (rules, less-left)

pub loop-at-preserved : goal.loop-at-preserved
unfolding first_malformed
loop-at-preserved c = search shapes

pub returns : goal.returns
unfolding first_malformed
returns c = search shapes
