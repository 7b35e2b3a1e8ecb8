use Rattle.spelling.proofs.PutLaws.{fits-1, fits-2, put_2}
use Rattle.writer.proofs.MadeLaws.{input_reading-made}
use Rattle.writer.proofs.values.input_reading.Goals as goal

pub put_input-i-requires : goal.put_input-i-requires
put_input-i-requires c = let a = c.args in fits-1 (input_reading-made a.primary a.r a.property) _ _ c.requires

pub put_input_reading-requires : goal.put_input_reading-requires
put_input_reading-requires c = let a = c.args in fits-2 (input_reading-made a.primary a.r a.property) _ _ _ _ c.requires c.put_input-i.ensures

pub returns : goal.returns
returns c = let a = c.args in put_2 (input_reading-made a.primary a.r a.property) _ _ _ _ _ _ c.put_input-i.ensures c.put_input_reading.ensures
