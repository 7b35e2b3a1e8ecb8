use Rattle.spelling.proofs.PutLaws.{fits-1, put_1}
use Rattle.spelling.proofs.WeekLaws.{day-made}
use Rattle.spelling.proofs.week.put_day.Goals as goal

pub put-requires : goal.put-requires
put-requires c = fits-1 (day-made c.requires.0 c.part.ensures) _ _ c.requires.1

pub returns : goal.returns
returns c = put_1 (day-made c.requires.0 c.part.ensures) _ _ _ _ c.put.ensures
