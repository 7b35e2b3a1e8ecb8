use borrow.Author.Rules.{rules}
use Rattle.flat.proofs.RowLaws.{row_stored, row_past}
use Rattle.flat.proofs.rows.put_row.Goals as goal

pub returns-then-row-out : goal.returns-then-row-out
returns-then-row-out c = let a = c.args in
    row_stored a.words a.out.now a.row c.if-row-out.true (search rules) c.copy_from_slice.ensures.after

pub returns-else-row-out : goal.returns-else-row-out
returns-else-row-out c = row_past c.args.words c.args.out.now c.args.row c.if-row-out.false
