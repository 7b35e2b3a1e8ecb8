use Rattle.spelling.proofs.PutLaws.{fits-1, fits-2, put_2}
use Rattle.writer.proofs.MadeLaws.{day_in-made}
use Rattle.writer.proofs.conditions.day_in.Goals as goal

pub put-i-requires : goal.put-i-requires
put-i-requires c = let a = c.args in fits-1 (day_in-made a.days) _ _ c.requires

pub put_days-requires : goal.put_days-requires
put_days-requires c = let a = c.args in fits-2 (day_in-made a.days) _ _ _ _ c.requires c.put-i.ensures

pub returns : goal.returns
returns c = let a = c.args in put_2 (day_in-made a.days) _ _ _ _ _ _ c.put-i.ensures c.put_days.ensures
