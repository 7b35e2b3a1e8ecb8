use Rattle.old_rows.specs.Row.{behind_kind}
use Rattle.old_rows.proofs.RowLaws.{row-reading}
use Rattle.old_rows.proofs.row.behind_kind.Goals as goal

pub returns-then-l-at : goal.returns-then-l-at
unfolding behind_kind
returns-then-l-at c = search row-reading

pub returns-then-is_name : goal.returns-then-is_name
unfolding behind_kind
returns-then-is_name c = search row-reading

pub returns : goal.returns
unfolding behind_kind
returns c = search row-reading
