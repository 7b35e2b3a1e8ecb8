use Rattle.spelling.proofs.PutLaws.{fits-1, fits-2, fits-3, fits_4, put_4}
use Rattle.writer.proofs.MadeLaws.{input_event-made}
use Rattle.writer.proofs.triggers.input_event.Goals as goal

pub put-i-requires : goal.put-i-requires
put-i-requires c = let a = c.args in fits-1 (input_event-made a.primary a.s a.event) _ _ c.requires

pub put_selector-j-requires : goal.put_selector-j-requires
put_selector-j-requires c = let a = c.args in fits-2 (input_event-made a.primary a.s a.event) _ _ _ _ c.requires c.put-i.ensures

pub put-k-requires : goal.put-k-requires
put-k-requires c = let a = c.args in fits-3 (input_event-made a.primary a.s a.event) _ _ _ _ _ _ c.requires c.put-i.ensures c.put_selector-j.ensures

pub put_event-requires : goal.put_event-requires
put_event-requires c = let a = c.args in fits_4 (input_event-made a.primary a.s a.event) _ _ _ _ _ _ _ _ c.requires c.put-i.ensures c.put_selector-j.ensures c.put-k.ensures

pub returns : goal.returns
returns c = let a = c.args in put_4 (input_event-made a.primary a.s a.event) _ _ _ _ _ _ _ _ _ _ c.put-i.ensures c.put_selector-j.ensures c.put-k.ensures c.put_event.ensures
