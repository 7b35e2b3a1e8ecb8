use borrow.Author.Rules.{rules}
use Rattle.tokens.specs.Scan.{is_plain}
use Rattle.tokens.proofs.scan.plain_blocks.Goals as goal

pub returns : goal.returns
returns c = c.row.ensures is_plain (λ b r h k. search rules)
