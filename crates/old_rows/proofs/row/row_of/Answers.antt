use Rattle.old_rows.specs.Row.{row_of}
use Rattle.old_rows.proofs.RowLaws.{row-reading}
use Rattle.old_rows.proofs.row.row_of.Goals as goal

pub returns-then-l-at : goal.returns-then-l-at
unfolding row_of
returns-then-l-at c = search row-reading

pub returns : goal.returns
unfolding row_of
returns c = search row-reading
