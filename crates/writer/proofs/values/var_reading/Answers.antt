use Rattle.spelling.proofs.PutLaws.{fits-1, fits-2, put_2}
use Rattle.writer.proofs.MadeLaws.{var_reading-made}
use Rattle.writer.proofs.values.var_reading.Goals as goal

pub put-i-requires : goal.put-i-requires
put-i-requires c = let a = c.args in fits-1 (var_reading-made a.text.now a.name) _ _ c.requires

pub put_name-requires : goal.put_name-requires
put_name-requires c = let a = c.args in fits-2 (var_reading-made a.text.now a.name) _ _ _ _ c.requires c.put-i.ensures

pub returns : goal.returns
returns c = let a = c.args in put_2 (var_reading-made a.text.now a.name) _ _ _ _ _ _ c.put-i.ensures c.put_name.ensures
