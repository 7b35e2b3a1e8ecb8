use Rattle.spelling.proofs.PutLaws.{fits-1, fits-2, fits-3, put_3}
use Rattle.writer.proofs.MadeLaws.{scene_recalled-made}
use Rattle.writer.proofs.triggers.scene_recalled.Goals as goal

pub put_argument-i-requires : goal.put_argument-i-requires
put_argument-i-requires c = let a = c.args in fits-1 (scene_recalled-made a.primary a.adapter a.scene) _ _ c.requires

pub put_close-j-requires : goal.put_close-j-requires
put_close-j-requires c = let a = c.args in fits-2 (scene_recalled-made a.primary a.adapter a.scene) _ _ _ _ c.requires c.put_argument-i.ensures

pub put-requires : goal.put-requires
put-requires c = let a = c.args in fits-3 (scene_recalled-made a.primary a.adapter a.scene) _ _ _ _ _ _ c.requires c.put_argument-i.ensures c.put_close-j.ensures

pub returns : goal.returns
returns c = let a = c.args in put_3 (scene_recalled-made a.primary a.adapter a.scene) _ _ _ _ _ _ _ _ c.put_argument-i.ensures c.put_close-j.ensures c.put.ensures
