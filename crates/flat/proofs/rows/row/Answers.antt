use Rattle.flat.proofs.RowLaws.{row_filled}
use Rattle.flat.proofs.rows.row.Goals as goal

pub returns : goal.returns
returns c = row_filled c.args.words.now c.requires c.copy_from_slice.ensures.after
