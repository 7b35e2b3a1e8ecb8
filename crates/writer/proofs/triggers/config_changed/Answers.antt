use Rattle.spelling.proofs.PutLaws.{fits-1, fits-2, fits-3, put_3}
use Rattle.writer.proofs.MadeLaws.{config_changed-made}
use Rattle.writer.proofs.triggers.config_changed.Goals as goal

pub put-i-requires : goal.put-i-requires
put-i-requires c = let a = c.args in fits-1 (config_changed-made a.primary a.r) _ _ c.requires

pub put_device-j-requires : goal.put_device-j-requires
put_device-j-requires c = let a = c.args in fits-2 (config_changed-made a.primary a.r) _ _ _ _ c.requires c.put-i.ensures

pub put-requires : goal.put-requires
put-requires c = let a = c.args in fits-3 (config_changed-made a.primary a.r) _ _ _ _ _ _ c.requires c.put-i.ensures c.put_device-j.ensures

pub returns : goal.returns
returns c = let a = c.args in put_3 (config_changed-made a.primary a.r) _ _ _ _ _ _ _ _ c.put-i.ensures c.put_device-j.ensures c.put.ensures
