use Rattle.spelling.proofs.PutLaws.{fits-1, fits-2, fits-3, fits_4, put_4}
use Rattle.writer.proofs.MadeLaws.{hcl_state-made}
use Rattle.writer.proofs.conditions.hcl_state.Goals as goal

pub put-i-requires : goal.put-i-requires
put-i-requires c = let a = c.args in fits-1 (hcl_state-made a.primary a.to a.state) _ _ c.requires

pub put_hcl-j-requires : goal.put_hcl-j-requires
put_hcl-j-requires c = let a = c.args in fits-2 (hcl_state-made a.primary a.to a.state) _ _ _ _ c.requires c.put-i.ensures

pub put-k-requires : goal.put-k-requires
put-k-requires c = let a = c.args in fits-3 (hcl_state-made a.primary a.to a.state) _ _ _ _ _ _ c.requires c.put-i.ensures c.put_hcl-j.ensures

pub put_target-requires : goal.put_target-requires
put_target-requires c = let a = c.args in fits_4 (hcl_state-made a.primary a.to a.state) _ _ _ _ _ _ _ _ c.requires c.put-i.ensures c.put_hcl-j.ensures c.put-k.ensures

pub returns : goal.returns
returns c = let a = c.args in put_4 (hcl_state-made a.primary a.to a.state) _ _ _ _ _ _ _ _ _ _ c.put-i.ensures c.put_hcl-j.ensures c.put-k.ensures c.put_target.ensures
