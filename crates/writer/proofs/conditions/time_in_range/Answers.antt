use Rattle.spelling.proofs.PutLaws.{fits-1, fits-2, fits-3, fits_4, put_4}
use Rattle.writer.proofs.MadeLaws.{time_in_range-made}
use Rattle.writer.proofs.conditions.time_in_range.Goals as goal

pub put-i-requires : goal.put-i-requires
put-i-requires c = let a = c.args in fits-1 (time_in_range-made a.from a.to) _ _ c.requires

pub put_bound-j-requires : goal.put_bound-j-requires
put_bound-j-requires c = let a = c.args in fits-2 (time_in_range-made a.from a.to) _ _ _ _ c.requires c.put-i.ensures

pub put-k-requires : goal.put-k-requires
put-k-requires c = let a = c.args in fits-3 (time_in_range-made a.from a.to) _ _ _ _ _ _ c.requires c.put-i.ensures c.put_bound-j.ensures

pub put_bound-requires : goal.put_bound-requires
put_bound-requires c = let a = c.args in fits_4 (time_in_range-made a.from a.to) _ _ _ _ _ _ _ _ c.requires c.put-i.ensures c.put_bound-j.ensures c.put-k.ensures

pub returns : goal.returns
returns c = let a = c.args in put_4 (time_in_range-made a.from a.to) _ _ _ _ _ _ _ _ _ _ c.put-i.ensures c.put_bound-j.ensures c.put-k.ensures c.put_bound.ensures
