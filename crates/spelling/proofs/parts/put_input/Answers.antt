use Rattle.spelling.proofs.PutLaws.{fits-1, fits-2, put_2}
use Rattle.spelling.proofs.PartLaws.{input-made}
use Rattle.spelling.proofs.parts.put_input.Goals as goal

pub put-i-requires : goal.put-i-requires
put-i-requires c = fits-1 (input-made c.args.primary c.args.r) _ _ c.requires

pub put_instance-requires : goal.put_instance-requires
put_instance-requires c = fits-2 (input-made c.args.primary c.args.r) _ _ _ _ c.requires c.put-i.ensures

pub returns : goal.returns
returns c = put_2 (input-made c.args.primary c.args.r) _ _ _ _ _ _ c.put-i.ensures c.put_instance.ensures
