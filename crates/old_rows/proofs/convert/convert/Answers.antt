use Rattle.old_rows.proofs.ConvertLaws.{calling}
use Rattle.old_rows.proofs.convert.convert.Goals as goal

pub returns-then-has : goal.returns-then-has
returns-then-has c = search calling

pub returns-in-Err : goal.returns-in-Err
returns-in-Err c = search calling

pub returns-else-has : goal.returns-else-has
returns-else-has c = search calling
