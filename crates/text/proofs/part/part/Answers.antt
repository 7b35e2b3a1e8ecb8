use Rattle.text.proofs.PartLaws.{part-cut, part-cut-none}
use Rattle.text.proofs.part.part.Goals as goal

pub returns-then-start-end : goal.returns-then-start-end
returns-then-start-end c = rw c.min-end.ensures (part-cut _ _ _)

pub returns-else-start-end : goal.returns-else-start-end
returns-else-start-end c = part-cut-none _ _ _ (rw c.min-end.ensures at c.if-start-end.false)
