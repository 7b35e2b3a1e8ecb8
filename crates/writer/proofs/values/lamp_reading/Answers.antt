use Rattle.spelling.proofs.PutLaws.{fits-1, fits-2, put_2}
use Rattle.writer.proofs.MadeLaws.{lamp_reading-made}
use Rattle.writer.proofs.values.lamp_reading.Goals as goal

pub put_reference-i-requires : goal.put_reference-i-requires
put_reference-i-requires c = let a = c.args in fits-1 (lamp_reading-made a.primary a.r a.property) _ _ c.requires

pub put_lamp_reading-requires : goal.put_lamp_reading-requires
put_lamp_reading-requires c = let a = c.args in fits-2 (lamp_reading-made a.primary a.r a.property) _ _ _ _ c.requires c.put_reference-i.ensures

pub returns : goal.returns
returns c = let a = c.args in put_2 (lamp_reading-made a.primary a.r a.property) _ _ _ _ _ _ c.put_reference-i.ensures c.put_lamp_reading.ensures
