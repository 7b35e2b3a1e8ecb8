use Rattle.tokens.specs.Phrase.{choice_at}
use Rattle.tokens.proofs.Chain.{taken-same, then-taken}
use Rattle.sections.proofs.FirstLaws.{condition_by_lem}
use Rattle.sections.proofs.first.condition_word.Goals as goal

pub returns : goal.returns
unfolding choice_at
returns c = taken-same _ c.placed.ensures (then-taken _ _ c.expect.ensures c.in_ok-behind.was (condition_by_lem _ _ _ c.bytes.ensures c.condition_place.ensures))
