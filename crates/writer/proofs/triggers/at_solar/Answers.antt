use mir.Facts.{to_z-of_z}
use Rattle.spelling.proofs.PutLaws.{fits-1, fits-2, fits-3, put_3}
use Rattle.writer.proofs.MadeLaws.{at_solar-held}
use Rattle.writer.proofs.triggers.at_solar.Goals as goal

pub put-i-requires : goal.put-i-requires
put-i-requires c = let a = c.args in fits-1 (at_solar-held a.event a.offset a.days (to_z-of_z c.ranges.offset)) _ _ c.requires

pub put_solar-j-requires : goal.put_solar-j-requires
put_solar-j-requires c = let a = c.args in fits-2 (at_solar-held a.event a.offset a.days (to_z-of_z c.ranges.offset)) _ _ _ _ c.requires c.put-i.ensures

pub put_on-requires : goal.put_on-requires
put_on-requires c = let a = c.args in fits-3 (at_solar-held a.event a.offset a.days (to_z-of_z c.ranges.offset)) _ _ _ _ _ _ c.requires c.put-i.ensures c.put_solar-j.ensures

pub returns : goal.returns
returns c = let a = c.args in put_3 (at_solar-held a.event a.offset a.days (to_z-of_z c.ranges.offset)) _ _ _ _ _ _ _ _ c.put-i.ensures c.put_solar-j.ensures c.put_on.ensures
