use Rattle.spelling.proofs.PutLaws.{fits-1, fits-2, put_2}
use Rattle.writer.proofs.MadeLaws.{input_position-made}
use Rattle.writer.proofs.triggers.input_position.Goals as goal

pub put_input-i-requires : goal.put_input-i-requires
put_input-i-requires c = let a = c.args in fits-1 (input_position-made a.primary a.r) _ _ c.requires

pub put-requires : goal.put-requires
put-requires c = let a = c.args in fits-2 (input_position-made a.primary a.r) _ _ _ _ c.requires c.put_input-i.ensures

pub returns : goal.returns
returns c = let a = c.args in put_2 (input_position-made a.primary a.r) _ _ _ _ _ _ c.put_input-i.ensures c.put.ensures
