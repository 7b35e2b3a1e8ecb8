use Rattle.spelling.proofs.PutLaws.{fits-1, fits-2, put_2}
use Rattle.spelling.proofs.PartLaws.{close-made}
use Rattle.spelling.proofs.parts.put_close.Goals as goal

pub put_adapter-i-requires : goal.put_adapter-i-requires
put_adapter-i-requires c = fits-1 (close-made c.args.primary c.args.adapter) _ _ c.requires

pub put-requires : goal.put-requires
put-requires c = fits-2 (close-made c.args.primary c.args.adapter) _ _ _ _ c.requires c.put_adapter-i.ensures

pub returns : goal.returns
returns c = put_2 (close-made c.args.primary c.args.adapter) _ _ _ _ _ _ c.put_adapter-i.ensures c.put.ensures
