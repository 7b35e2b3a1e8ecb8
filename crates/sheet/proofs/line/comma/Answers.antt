use Rattle.sheet.proofs.LineLaws.{reading}
use Rattle.sheet.proofs.line.comma.Goals as goal

pub returns : goal.returns
returns c = search reading
