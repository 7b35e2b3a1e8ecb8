use Rattle.spelling.proofs.PutLaws.{fits-1, fits-2, put_2}
use Rattle.writer.proofs.MadeLaws.{device_is_online-made}
use Rattle.writer.proofs.conditions.device_is_online.Goals as goal

pub put_reference-i-requires : goal.put_reference-i-requires
put_reference-i-requires c = let a = c.args in fits-1 (device_is_online-made a.primary a.r) _ _ c.requires

pub put-requires : goal.put-requires
put-requires c = let a = c.args in fits-2 (device_is_online-made a.primary a.r) _ _ _ _ c.requires c.put_reference-i.ensures

pub returns : goal.returns
returns c = let a = c.args in put_2 (device_is_online-made a.primary a.r) _ _ _ _ _ _ c.put_reference-i.ensures c.put.ensures
