use Rattle.spelling.proofs.PutLaws.{fits-1, fits-2, fits-3, fits_4, put_4}
use Rattle.writer.proofs.MadeLaws.{lamp_compare-made}
use Rattle.writer.proofs.conditions.lamp_compare.Goals as goal

pub put_reference-i-requires : goal.put_reference-i-requires
put_reference-i-requires c = let a = c.args in fits-1 (lamp_compare-made a.primary a.text.now a.r a.property a.comparison a.value) _ _ c.requires

pub put_property-j-requires : goal.put_property-j-requires
put_property-j-requires c = let a = c.args in fits-2 (lamp_compare-made a.primary a.text.now a.r a.property a.comparison a.value) _ _ _ _ c.requires c.put_reference-i.ensures

pub put_comparison-k-requires : goal.put_comparison-k-requires
put_comparison-k-requires c = let a = c.args in fits-3 (lamp_compare-made a.primary a.text.now a.r a.property a.comparison a.value) _ _ _ _ _ _ c.requires c.put_reference-i.ensures c.put_property-j.ensures

pub put_value-requires : goal.put_value-requires
put_value-requires c = let a = c.args in fits_4 (lamp_compare-made a.primary a.text.now a.r a.property a.comparison a.value) _ _ _ _ _ _ _ _ c.requires c.put_reference-i.ensures c.put_property-j.ensures c.put_comparison-k.ensures

pub returns : goal.returns
returns c = let a = c.args in put_4 (lamp_compare-made a.primary a.text.now a.r a.property a.comparison a.value) _ _ _ _ _ _ _ _ _ _ c.put_reference-i.ensures c.put_property-j.ensures c.put_comparison-k.ensures c.put_value.ensures
