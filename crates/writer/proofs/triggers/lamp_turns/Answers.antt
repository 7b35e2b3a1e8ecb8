use Rattle.spelling.proofs.PutLaws.{fits-1, fits-2, fits-3, put_3}
use Rattle.writer.proofs.MadeLaws.{lamp_turns-made}
use Rattle.writer.proofs.triggers.lamp_turns.Goals as goal

pub put_reference-i-requires : goal.put_reference-i-requires
put_reference-i-requires c = let a = c.args in fits-1 (lamp_turns-made a.primary a.r a.to) _ _ c.requires

pub put-j-requires : goal.put-j-requires
put-j-requires c = let a = c.args in fits-2 (lamp_turns-made a.primary a.r a.to) _ _ _ _ c.requires c.put_reference-i.ensures

pub put_power-requires : goal.put_power-requires
put_power-requires c = let a = c.args in fits-3 (lamp_turns-made a.primary a.r a.to) _ _ _ _ _ _ c.requires c.put_reference-i.ensures c.put-j.ensures

pub returns : goal.returns
returns c = let a = c.args in put_3 (lamp_turns-made a.primary a.r a.to) _ _ _ _ _ _ _ _ c.put_reference-i.ensures c.put-j.ensures c.put_power.ensures
