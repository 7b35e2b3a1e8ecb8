use Rattle.spelling.proofs.PutLaws.{fits-1, fits-2, put_2}
use Rattle.old_rows.proofs.PutLaws.{adapter-made}
use Rattle.old_rows.proofs.restore.put_adapter.Goals as goal

pub put-i-requires : goal.put-i-requires
put-i-requires c = fits-1 (adapter-made c.args.adapter) _ _ c.requires

pub put_decimal-requires : goal.put_decimal-requires
put_decimal-requires c = fits-2 (adapter-made c.args.adapter) _ _ _ _ c.requires c.put-i.ensures

pub returns : goal.returns
returns c = put_2 (adapter-made c.args.adapter) _ _ _ _ _ _ c.put-i.ensures c.put_decimal.ensures
