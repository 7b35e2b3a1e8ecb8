use Rattle.spelling.proofs.PutLaws.{fits-1, fits-2, fits-3, fits_4, put_4}
use Rattle.old_rows.proofs.PutLaws.{row_made}
use Rattle.old_rows.proofs.restore.put_row.Goals as goal

pub put_kind-i-requires : goal.put_kind-i-requires
put_kind-i-requires c = fits-1 (row_made c.args.change c.args.name.now c.args.adapter) _ _ c.requires

pub put-j-requires : goal.put-j-requires
put-j-requires c = fits-2 (row_made c.args.change c.args.name.now c.args.adapter) _ _ _ _ c.requires c.put_kind-i.ensures

pub put_adapter-k-requires : goal.put_adapter-k-requires
put_adapter-k-requires c = fits-3 (row_made c.args.change c.args.name.now c.args.adapter) _ _ _ _ _ _ c.requires c.put_kind-i.ensures c.put-j.ensures

pub put_change-requires : goal.put_change-requires
put_change-requires c = fits_4 (row_made c.args.change c.args.name.now c.args.adapter) _ _ _ _ _ _ _ _ c.requires c.put_kind-i.ensures c.put-j.ensures c.put_adapter-k.ensures

pub returns : goal.returns
returns c = put_4 (row_made c.args.change c.args.name.now c.args.adapter) _ _ _ _ _ _ _ _ _ _ c.put_kind-i.ensures c.put-j.ensures c.put_adapter-k.ensures c.put_change.ensures
