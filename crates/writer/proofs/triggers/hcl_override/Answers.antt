use Rattle.spelling.proofs.PutLaws.{fits-1, fits-2, fits-3, fits_4, put_4}
use Rattle.writer.proofs.MadeLaws.{hcl_override-made}
use Rattle.writer.proofs.triggers.hcl_override.Goals as goal

pub put-i-requires : goal.put-i-requires
put-i-requires c = let a = c.args in fits-1 (hcl_override-made a.primary a.to a.change) _ _ c.requires

pub put_override-j-requires : goal.put_override-j-requires
put_override-j-requires c = let a = c.args in fits-2 (hcl_override-made a.primary a.to a.change) _ _ _ _ c.requires c.put-i.ensures

pub put-k-requires : goal.put-k-requires
put-k-requires c = let a = c.args in fits-3 (hcl_override-made a.primary a.to a.change) _ _ _ _ _ _ c.requires c.put-i.ensures c.put_override-j.ensures

pub put_target-requires : goal.put_target-requires
put_target-requires c = let a = c.args in fits_4 (hcl_override-made a.primary a.to a.change) _ _ _ _ _ _ _ _ c.requires c.put-i.ensures c.put_override-j.ensures c.put-k.ensures

pub returns : goal.returns
returns c = let a = c.args in put_4 (hcl_override-made a.primary a.to a.change) _ _ _ _ _ _ _ _ _ _ c.put-i.ensures c.put_override-j.ensures c.put-k.ensures c.put_target.ensures
