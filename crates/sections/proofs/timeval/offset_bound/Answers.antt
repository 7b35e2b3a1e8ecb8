use Rattle.tokens.proofs.Chain.{taken-ok}
use Rattle.sections.proofs.SignedLaws.{narrows, solar_within}
use Rattle.sections.proofs.timeval.offset_bound.Goals as goal

pub overflow_cast-result : goal.overflow_cast-result
overflow_cast-result c = search narrows

pub returns : goal.returns
returns c = search (taken-ok, solar_within)
