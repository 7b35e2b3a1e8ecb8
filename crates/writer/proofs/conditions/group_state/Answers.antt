use Rattle.spelling.proofs.PutLaws.{fits-1, fits-2, put_2}
use Rattle.writer.proofs.MadeLaws.{group_state-made}
use Rattle.writer.proofs.conditions.group_state.Goals as goal

pub put_reference-i-requires : goal.put_reference-i-requires
put_reference-i-requires c = let a = c.args in fits-1 (group_state-made a.primary a.r a.state) _ _ c.requires

pub put_aggregate-requires : goal.put_aggregate-requires
put_aggregate-requires c = let a = c.args in fits-2 (group_state-made a.primary a.r a.state) _ _ _ _ c.requires c.put_reference-i.ensures

pub returns : goal.returns
returns c = let a = c.args in put_2 (group_state-made a.primary a.r a.state) _ _ _ _ _ _ c.put_reference-i.ensures c.put_aggregate.ensures
