use Rattle.old_rows.proofs.RowLaws.{name-inside, row-reading}
use Rattle.old_rows.proofs.row.row_name.Goals as goal

pub slice_bounds-result-end : goal.slice_bounds-result-end
slice_bounds-result-end c = name-inside _ c.comma.ensures

pub returns : goal.returns
returns c = search row-reading
