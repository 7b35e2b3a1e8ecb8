use Rattle.spelling.proofs.PutLaws.{put_3}
use Rattle.spelling.proofs.PartLaws.{named-made}
use Rattle.spelling.proofs.parts.put_named.Goals as goal

pub returns : goal.returns
returns c = put_3 (named-made c.args.before.now c.args.text.now c.args.name c.args.behind.now) _ _ _ _ _ _ _ _ c.put-i.ensures c.put_name-j.ensures c.put.ensures
