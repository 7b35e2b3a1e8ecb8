use Rattle.spelling.proofs.PutLaws.{fits-1, fits-2, fits-3, put_3}
use Rattle.writer.proofs.MadeLaws.{at_time-made}
use Rattle.writer.proofs.triggers.at_time.Goals as goal

pub put-i-requires : goal.put-i-requires
put-i-requires c = let a = c.args in fits-1 (at_time-made a.m a.days) _ _ c.requires

pub put_time-j-requires : goal.put_time-j-requires
put_time-j-requires c = let a = c.args in fits-2 (at_time-made a.m a.days) _ _ _ _ c.requires c.put-i.ensures

pub put_on-requires : goal.put_on-requires
put_on-requires c = let a = c.args in fits-3 (at_time-made a.m a.days) _ _ _ _ _ _ c.requires c.put-i.ensures c.put_time-j.ensures

pub returns : goal.returns
returns c = let a = c.args in put_3 (at_time-made a.m a.days) _ _ _ _ _ _ _ _ c.put-i.ensures c.put_time-j.ensures c.put_on.ensures
