use Rattle.text.proofs.SplitLaws.{next_fits, less-left}
use borrow.Author.Rules.{rules}
use Rattle.old_rows.proofs.ConvertLaws.{converting}
use Rattle.old_rows.proofs.convert.convert_rows.Goals as goal

pub overflow_cast-list : goal.overflow_cast-list
overflow_cast-list c = search converting

pub overflow_add-list : goal.overflow_add-list
overflow_add-list c = search converting

pub returns-in-Err : goal.returns-in-Err
returns-in-Err c = search converting

pub offset_bounds-list-i : goal.offset_bounds-list-i
offset_bounds-list-i c = search converting

pub bounds-list-i : goal.bounds-list-i
bounds-list-i c = search converting

pub overflow_add-list-in-Ok : goal.overflow_add-list-in-Ok
overflow_add-list-in-Ok c = search converting

pub overflow_add-at : goal.overflow_add-at
overflow_add-at c = search (rules, next_fits)

pub loop-at-smaller : goal.loop-at-smaller
loop-at-smaller c = search (rules, less-left)

pub loop-at-preserved : goal.loop-at-preserved
loop-at-preserved c = search converting

pub returns : goal.returns
returns c = search converting
