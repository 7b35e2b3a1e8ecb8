use Rattle.sheet.proofs.LineLaws.{rest-empty}
use Rattle.sheet.proofs.line.behind_comma.Goals as goal

pub returns-in-None : goal.returns-in-None
returns-in-None c = rest-empty _ c.in-None.ensures
