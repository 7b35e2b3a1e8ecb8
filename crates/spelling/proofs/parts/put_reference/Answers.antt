use Rattle.spelling.proofs.PutLaws.{put_2}
use Rattle.spelling.proofs.PartLaws.{reference-made}
use Rattle.spelling.proofs.parts.put_reference.Goals as goal

pub returns : goal.returns
returns c = put_2 (reference-made c.args.before.now c.args.primary c.args.r) _ _ _ _ _ _ c.put-i.ensures c.put_ref.ensures
