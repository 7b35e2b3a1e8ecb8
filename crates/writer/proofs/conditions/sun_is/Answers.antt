use Rattle.spelling.proofs.PutLaws.{fits-1, fits-2, put_2}
use Rattle.writer.proofs.MadeLaws.{sun_is-made}
use Rattle.writer.proofs.conditions.sun_is.Goals as goal

pub put-i-requires : goal.put-i-requires
put-i-requires c = let a = c.args in fits-1 (sun_is-made a.state) _ _ c.requires

pub put_sun-requires : goal.put_sun-requires
put_sun-requires c = let a = c.args in fits-2 (sun_is-made a.state) _ _ _ _ c.requires c.put-i.ensures

pub returns : goal.returns
returns c = let a = c.args in put_2 (sun_is-made a.state) _ _ _ _ _ _ c.put-i.ensures c.put_sun.ensures
