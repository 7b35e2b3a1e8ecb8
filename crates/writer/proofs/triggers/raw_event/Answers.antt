use Rattle.spelling.proofs.PutLaws.{fits-1, fits-2, put_2}
use Rattle.writer.proofs.MadeLaws.{raw_event-made}
use Rattle.writer.proofs.triggers.raw_event.Goals as goal

pub put_argument-i-requires : goal.put_argument-i-requires
put_argument-i-requires c = let a = c.args in fits-1 (raw_event-made a.n) _ _ c.requires

pub put-requires : goal.put-requires
put-requires c = let a = c.args in fits-2 (raw_event-made a.n) _ _ _ _ c.requires c.put_argument-i.ensures

pub returns : goal.returns
returns c = let a = c.args in put_2 (raw_event-made a.n) _ _ _ _ _ _ c.put_argument-i.ensures c.put.ensures
