use Rattle.spelling.proofs.PutLaws.{put_2}
use Rattle.spelling.proofs.PartLaws.{argument-made}
use Rattle.spelling.proofs.parts.put_argument.Goals as goal

pub returns : goal.returns
returns c = put_2 (argument-made c.args.before.now c.args.n) _ _ _ _ _ _ c.put-i.ensures c.put_number.ensures
