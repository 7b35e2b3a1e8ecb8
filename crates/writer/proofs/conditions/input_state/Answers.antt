use Rattle.spelling.proofs.PutLaws.{fits-1, fits-2, fits-3, put_3}
use Rattle.writer.proofs.MadeLaws.{input_state-made}
use Rattle.writer.proofs.conditions.input_state.Goals as goal

pub put_input-i-requires : goal.put_input-i-requires
put_input-i-requires c = let a = c.args in fits-1 (input_state-made a.primary a.r a.state) _ _ c.requires

pub put-j-requires : goal.put-j-requires
put-j-requires c = let a = c.args in fits-2 (input_state-made a.primary a.r a.state) _ _ _ _ c.requires c.put_input-i.ensures

pub put_occupancy-requires : goal.put_occupancy-requires
put_occupancy-requires c = let a = c.args in fits-3 (input_state-made a.primary a.r a.state) _ _ _ _ _ _ c.requires c.put_input-i.ensures c.put-j.ensures

pub returns : goal.returns
returns c = let a = c.args in put_3 (input_state-made a.primary a.r a.state) _ _ _ _ _ _ _ _ c.put_input-i.ensures c.put-j.ensures c.put_occupancy.ensures
