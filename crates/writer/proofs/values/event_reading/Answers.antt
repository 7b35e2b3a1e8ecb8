use Rattle.spelling.proofs.PutLaws.{fits-1, fits-2, put_2}
use Rattle.writer.proofs.MadeLaws.{event_reading-made}
use Rattle.writer.proofs.values.event_reading.Goals as goal

pub put-i-requires : goal.put-i-requires
put-i-requires c = let a = c.args in fits-1 (event_reading-made a.property) _ _ c.requires

pub put_event_reading-requires : goal.put_event_reading-requires
put_event_reading-requires c = let a = c.args in fits-2 (event_reading-made a.property) _ _ _ _ c.requires c.put-i.ensures

pub returns : goal.returns
returns c = let a = c.args in put_2 (event_reading-made a.property) _ _ _ _ _ _ c.put-i.ensures c.put_event_reading.ensures
