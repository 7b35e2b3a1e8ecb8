use Rattle.reader.proofs.ReadLaws.{own-answer, own-buffer, bad-answer, bad-buffer, other-answer, other-buffer}
use Rattle.reader.proofs.read.read_sheet.Goals as goal

pub returns-then-has : goal.returns-then-has
returns-then-has c = (search own-answer, search own-buffer)

pub returns-in-Err : goal.returns-in-Err
returns-in-Err c = (search bad-answer, search bad-buffer)

pub returns-else-has : goal.returns-else-has
returns-else-has c = (search other-answer, search other-buffer)
