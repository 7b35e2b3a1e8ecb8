use Rattle.old_rows.specs.Row.{behind_name}
use Rattle.old_rows.proofs.RowLaws.{row-reading}
use Rattle.old_rows.proofs.row.behind_name.Goals as goal

pub returns-then-l-at : goal.returns-then-l-at
unfolding behind_name
returns-then-l-at c = search row-reading

pub returns-then-is_known : goal.returns-then-is_known
unfolding behind_name
returns-then-is_known c = search row-reading

pub returns : goal.returns
unfolding behind_name
returns c = search row-reading
