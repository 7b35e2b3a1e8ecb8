use Rattle.tokens.proofs.Chain.{taken-no, none-left}
use Rattle.sections.proofs.ComparisonLaws.{no-comparison}
use Rattle.sections.proofs.condition.comparison_at.Goals as goal

pub returns-in_default : goal.returns-in_default
returns-in_default c =
    taken-no _ (no-comparison _ _ _ c.refuse.ensures c.peek-kind.ensures c.accept.ensures (none-left c.in_default.not-Some))
