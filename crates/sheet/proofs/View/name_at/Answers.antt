use borrow.Author.Rules.{rules}
use Rattle.sheet.specs.View.{view_of}
use Rattle.text.proofs.SplitLaws.{next_fits, less-left}
use Rattle.sheet.proofs.NamesLaws.{names-none, names-past, names-here, names-on}
use Rattle.sheet.proofs.View.name_at.Goals as goal
use Rattle.sheet.proofs.View.name_at.Goals.{then-is_for_line+else-left-eq0, else-is_for_line}

pub returns-then-left-eq0 : goal.returns-then-left-eq0
unfolding view_of
returns-then-left-eq0 c = search (rules, names-here)

pub overflow_add-at : goal.overflow_add-at
overflow_add-at c = search (rules, next_fits)

pub loop-at-smaller : goal.loop-at-smaller
loop-at-smaller c = search (rules, less-left)

pub loop-at-preserved : goal.loop-at-preserved
loop-at-preserved c =
    elim c.if-is_for_line.branch [
      | then-is_for_line+else-left-eq0 w ↦ search (rules, names-on)
      | else-is_for_line w ↦ search (rules, names-past)
    ]

pub returns : goal.returns
unfolding view_of
returns c = search (rules, names-none)
