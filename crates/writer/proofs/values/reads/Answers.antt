use Rattle.spelling.proofs.PutLaws.{fits-1, fits-2, put_2}
use Rattle.writer.proofs.MadeLaws.{reads_made}
use Rattle.writer.proofs.values.reads.Goals as goal

pub put_reading-i-requires : goal.put_reading-i-requires
put_reading-i-requires c = let a = c.args in fits-1 (reads_made a.primary a.text.now a.reading a.delta) _ _ c.requires

pub put_delta-requires : goal.put_delta-requires
put_delta-requires c = let a = c.args in fits-2 (reads_made a.primary a.text.now a.reading a.delta) _ _ _ _ c.requires c.put_reading-i.ensures

pub returns : goal.returns
returns c = let a = c.args in put_2 (reads_made a.primary a.text.now a.reading a.delta) _ _ _ _ _ _ c.put_reading-i.ensures c.put_delta.ensures
