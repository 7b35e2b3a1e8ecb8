use Rattle.spelling.proofs.PutLaws.{fits-1, fits-2, put_2}
use Rattle.writer.proofs.MadeLaws.{time_reading-made}
use Rattle.writer.proofs.values.time_reading.Goals as goal

pub put-i-requires : goal.put-i-requires
put-i-requires c = let a = c.args in fits-1 (time_reading-made a.property) _ _ c.requires

pub put_time_reading-requires : goal.put_time_reading-requires
put_time_reading-requires c = let a = c.args in fits-2 (time_reading-made a.property) _ _ _ _ c.requires c.put-i.ensures

pub returns : goal.returns
returns c = let a = c.args in put_2 (time_reading-made a.property) _ _ _ _ _ _ c.put-i.ensures c.put_time_reading.ensures
