use Rattle.spelling.proofs.PutLaws.{fits-1, fits-2, fits-3, put_3}
use Rattle.spelling.proofs.PartLaws.{instance-made}
use Rattle.spelling.proofs.parts.put_instance.Goals as goal

pub put_argument-i-requires : goal.put_argument-i-requires
put_argument-i-requires c = fits-1 (instance-made c.args.primary c.args.r c.args.instance) _ _ c.requires

pub put_argument-j-requires : goal.put_argument-j-requires
put_argument-j-requires c = fits-2 (instance-made c.args.primary c.args.r c.args.instance) _ _ _ _ c.requires c.put_argument-i.ensures

pub put_close-requires : goal.put_close-requires
put_close-requires c = fits-3 (instance-made c.args.primary c.args.r c.args.instance) _ _ _ _ _ _ c.requires c.put_argument-i.ensures c.put_argument-j.ensures

pub returns : goal.returns
returns c = put_3 (instance-made c.args.primary c.args.r c.args.instance) _ _ _ _ _ _ _ _ c.put_argument-i.ensures c.put_argument-j.ensures c.put_close.ensures
