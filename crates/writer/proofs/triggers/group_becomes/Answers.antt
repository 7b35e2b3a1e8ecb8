use Rattle.spelling.proofs.PutLaws.{fits-1, fits-2, fits-3, put_3}
use Rattle.writer.proofs.MadeLaws.{group_becomes-made}
use Rattle.writer.proofs.triggers.group_becomes.Goals as goal

pub put_reference-i-requires : goal.put_reference-i-requires
put_reference-i-requires c = let a = c.args in fits-1 (group_becomes-made a.primary a.r a.state) _ _ c.requires

pub put-j-requires : goal.put-j-requires
put-j-requires c = let a = c.args in fits-2 (group_becomes-made a.primary a.r a.state) _ _ _ _ c.requires c.put_reference-i.ensures

pub put_aggregate-requires : goal.put_aggregate-requires
put_aggregate-requires c = let a = c.args in fits-3 (group_becomes-made a.primary a.r a.state) _ _ _ _ _ _ c.requires c.put_reference-i.ensures c.put-j.ensures

pub returns : goal.returns
returns c = let a = c.args in put_3 (group_becomes-made a.primary a.r a.state) _ _ _ _ _ _ _ _ c.put_reference-i.ensures c.put-j.ensures c.put_aggregate.ensures
