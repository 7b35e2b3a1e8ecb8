use Rattle.sheet.proofs.LineLaws.{reading}
use Rattle.sheet.proofs.line.without_return.Goals as goal

pub returns-in-13 : goal.returns-in-13
returns-in-13 c = search reading

pub returns-in_default : goal.returns-in_default
returns-in_default c = search reading

pub returns-in_default-2 : goal.returns-in_default-2
returns-in_default-2 c = search reading
