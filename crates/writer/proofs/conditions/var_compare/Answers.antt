use Rattle.spelling.proofs.PutLaws.{fits-1, fits-2, fits-3, fits_4, put_4}
use Rattle.writer.proofs.MadeLaws.{var_compare-made}
use Rattle.writer.proofs.conditions.var_compare.Goals as goal

pub put-i-requires : goal.put-i-requires
put-i-requires c = let a = c.args in fits-1 (var_compare-made a.primary a.text.now a.name a.comparison a.operand) _ _ c.requires

pub put_name-j-requires : goal.put_name-j-requires
put_name-j-requires c = let a = c.args in fits-2 (var_compare-made a.primary a.text.now a.name a.comparison a.operand) _ _ _ _ c.requires c.put-i.ensures

pub put_comparison-k-requires : goal.put_comparison-k-requires
put_comparison-k-requires c = let a = c.args in fits-3 (var_compare-made a.primary a.text.now a.name a.comparison a.operand) _ _ _ _ _ _ c.requires c.put-i.ensures c.put_name-j.ensures

pub put_operand-requires : goal.put_operand-requires
put_operand-requires c = let a = c.args in fits_4 (var_compare-made a.primary a.text.now a.name a.comparison a.operand) _ _ _ _ _ _ _ _ c.requires c.put-i.ensures c.put_name-j.ensures c.put_comparison-k.ensures

pub returns : goal.returns
returns c = let a = c.args in put_4 (var_compare-made a.primary a.text.now a.name a.comparison a.operand) _ _ _ _ _ _ _ _ _ _ c.put-i.ensures c.put_name-j.ensures c.put_comparison-k.ensures c.put_operand.ensures
