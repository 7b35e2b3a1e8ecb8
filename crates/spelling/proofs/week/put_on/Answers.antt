use Rattle.spelling.proofs.PutLaws.{put-none, fits-1, fits-2, put_2}
use Rattle.spelling.proofs.WeekLaws.{no_on, on-made}
use Rattle.spelling.proofs.week.put_on.Goals as goal

pub returns-then-days-eq-EVERY_DAY : goal.returns-then-days-eq-EVERY_DAY
returns-then-days-eq-EVERY_DAY c = rw (no_on c.if-days-eq-EVERY_DAY.true) put-none

pub put-i-requires : goal.put-i-requires
put-i-requires c = fits-1 (on-made c.if-days-eq-EVERY_DAY.false) _ _ c.requires

pub put_days-requires : goal.put_days-requires
put_days-requires c = fits-2 (on-made c.if-days-eq-EVERY_DAY.false) _ _ _ _ c.requires c.put-i.ensures

pub returns : goal.returns
returns c = put_2 (on-made c.if-days-eq-EVERY_DAY.false) _ _ _ _ _ _ c.put-i.ensures c.put_days.ensures
