use Rattle.spelling.proofs.PutLaws.{fits-1, fits-2, fits-3, fits_4, put_4}
use Rattle.writer.proofs.MadeLaws.{input_light-made}
use Rattle.writer.proofs.triggers.input_light.Goals as goal

pub put_input-i-requires : goal.put_input-i-requires
put_input-i-requires c = let a = c.args in fits-1 (input_light-made a.primary a.r a.way a.light) _ _ c.requires

pub put-j-requires : goal.put-j-requires
put-j-requires c = let a = c.args in fits-2 (input_light-made a.primary a.r a.way a.light) _ _ _ _ c.requires c.put_input-i.ensures

pub put_crossing-k-requires : goal.put_crossing-k-requires
put_crossing-k-requires c = let a = c.args in fits-3 (input_light-made a.primary a.r a.way a.light) _ _ _ _ _ _ c.requires c.put_input-i.ensures c.put-j.ensures

pub put_number-requires : goal.put_number-requires
put_number-requires c = let a = c.args in fits_4 (input_light-made a.primary a.r a.way a.light) _ _ _ _ _ _ _ _ c.requires c.put_input-i.ensures c.put-j.ensures c.put_crossing-k.ensures

pub returns : goal.returns
returns c = let a = c.args in put_4 (input_light-made a.primary a.r a.way a.light) _ _ _ _ _ _ _ _ _ _ c.put_input-i.ensures c.put-j.ensures c.put_crossing-k.ensures c.put_number.ensures
