use Rattle.spelling.proofs.PutLaws.{fits-1, fits-2, fits-3, fits_4, put_4}
use Rattle.writer.proofs.MadeLaws.{last_fired-made}
use Rattle.writer.proofs.conditions.last_fired.Goals as goal

pub put-i-requires : goal.put-i-requires
put-i-requires c = let a = c.args in fits-1 (last_fired-made a.text.now a.name a.ms) _ _ c.requires

pub put_name-j-requires : goal.put_name-j-requires
put_name-j-requires c = let a = c.args in fits-2 (last_fired-made a.text.now a.name a.ms) _ _ _ _ c.requires c.put-i.ensures

pub put-k-requires : goal.put-k-requires
put-k-requires c = let a = c.args in fits-3 (last_fired-made a.text.now a.name a.ms) _ _ _ _ _ _ c.requires c.put-i.ensures c.put_name-j.ensures

pub put_duration-requires : goal.put_duration-requires
put_duration-requires c = let a = c.args in fits_4 (last_fired-made a.text.now a.name a.ms) _ _ _ _ _ _ _ _ c.requires c.put-i.ensures c.put_name-j.ensures c.put-k.ensures

pub returns : goal.returns
returns c = let a = c.args in put_4 (last_fired-made a.text.now a.name a.ms) _ _ _ _ _ _ _ _ _ _ c.put-i.ensures c.put_name-j.ensures c.put-k.ensures c.put_duration.ensures
