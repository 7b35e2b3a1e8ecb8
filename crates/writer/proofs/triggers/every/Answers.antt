use Rattle.spelling.proofs.PutLaws.{fits-1, fits-2, put_2}
use Rattle.writer.proofs.MadeLaws.{every_made}
use Rattle.writer.proofs.triggers.every.Goals as goal

pub put-i-requires : goal.put-i-requires
put-i-requires c = let a = c.args in fits-1 (every_made a.ms) _ _ c.requires

pub put_duration-requires : goal.put_duration-requires
put_duration-requires c = let a = c.args in fits-2 (every_made a.ms) _ _ _ _ c.requires c.put-i.ensures

pub returns : goal.returns
returns c = let a = c.args in put_2 (every_made a.ms) _ _ _ _ _ _ c.put-i.ensures c.put_duration.ensures
