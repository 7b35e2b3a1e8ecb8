use Rattle.spelling.proofs.PutLaws.{fits-1, fits-2, fits-3, put_3}
use Rattle.spelling.proofs.PartLaws.{instances-made}
use Rattle.spelling.proofs.parts.put_instances.Goals as goal

pub put_argument-i-requires : goal.put_argument-i-requires
put_argument-i-requires c = fits-1 (instances-made c.args.primary c.args.adapter c.args.group c.args.of) _ _ c.requires

pub put_type-j-requires : goal.put_type-j-requires
put_type-j-requires c = fits-2 (instances-made c.args.primary c.args.adapter c.args.group c.args.of) _ _ _ _ c.requires c.put_argument-i.ensures

pub put_close-requires : goal.put_close-requires
put_close-requires c = fits-3 (instances-made c.args.primary c.args.adapter c.args.group c.args.of) _ _ _ _ _ _ c.requires c.put_argument-i.ensures c.put_type-j.ensures

pub returns : goal.returns
returns c = put_3 (instances-made c.args.primary c.args.adapter c.args.group c.args.of) _ _ _ _ _ _ _ _ c.put_argument-i.ensures c.put_type-j.ensures c.put_close.ensures
