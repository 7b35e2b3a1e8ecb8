use Rattle.text.proofs.SplitLaws.{next_fits, less-left}
use Rattle.sheet.specs.View.{view_of}
use borrow.Author.Rules.{rules}
use Rattle.old_rows.proofs.BackLaws.{fitting-past, fitting-on, fitting}
use Rattle.old_rows.proofs.name.first_fitting.Goals.{then-is_for_line+else-is_fitting, else-is_for_line}
use Rattle.old_rows.proofs.name.first_fitting.Goals as goal

pub returns-then-is_fitting : goal.returns-then-is_fitting
unfolding view_of
returns-then-is_fitting c = search fitting

pub overflow_add-at : goal.overflow_add-at
overflow_add-at c = search (rules, next_fits)

pub loop-at-smaller : goal.loop-at-smaller
loop-at-smaller c = search (rules, less-left)

pub loop-at-preserved : goal.loop-at-preserved
unfolding view_of
loop-at-preserved c = elim c.if-is_for_line.branch [ then-is_for_line+else-is_fitting w ↦ search (rules, fitting-on) | else-is_for_line w ↦ search (rules, fitting-past) ]

pub returns : goal.returns
unfolding view_of
returns c = search fitting
