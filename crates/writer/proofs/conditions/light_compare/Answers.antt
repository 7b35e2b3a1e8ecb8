use Rattle.spelling.proofs.PutLaws.{fits-1, fits-2, fits-3, fits_4, put_4}
use Rattle.writer.proofs.MadeLaws.{light_compare-made}
use Rattle.writer.proofs.conditions.light_compare.Goals as goal

pub put_input-i-requires : goal.put_input-i-requires
put_input-i-requires c = let a = c.args in fits-1 (light_compare-made a.primary a.text.now a.r a.way a.value) _ _ c.requires

pub put-j-requires : goal.put-j-requires
put-j-requires c = let a = c.args in fits-2 (light_compare-made a.primary a.text.now a.r a.way a.value) _ _ _ _ c.requires c.put_input-i.ensures

pub put_crossing-k-requires : goal.put_crossing-k-requires
put_crossing-k-requires c = let a = c.args in fits-3 (light_compare-made a.primary a.text.now a.r a.way a.value) _ _ _ _ _ _ c.requires c.put_input-i.ensures c.put-j.ensures

pub put_value-requires : goal.put_value-requires
put_value-requires c = let a = c.args in fits_4 (light_compare-made a.primary a.text.now a.r a.way a.value) _ _ _ _ _ _ _ _ c.requires c.put_input-i.ensures c.put-j.ensures c.put_crossing-k.ensures

pub returns : goal.returns
returns c = let a = c.args in put_4 (light_compare-made a.primary a.text.now a.r a.way a.value) _ _ _ _ _ _ _ _ _ _ c.put_input-i.ensures c.put-j.ensures c.put_crossing-k.ensures c.put_value.ensures
