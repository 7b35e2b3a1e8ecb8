use borrow.Author.Rules.{rules}
use Rattle.writing.specs.Writing.{refused_at}
use Rattle.writer.proofs.refused.Goals as goal

pub returns : goal.returns
unfolding refused_at
returns c = search rules
