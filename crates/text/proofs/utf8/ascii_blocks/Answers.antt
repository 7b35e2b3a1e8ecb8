use borrow.Author.Rules.{rules}
use borrow.Author.Tests.{tests}
use Rattle.text.specs.Utf8.{is_ascii}
use Rattle.text.proofs.utf8.ascii_blocks.Goals as goal

pub returns : goal.returns
unfolding is_ascii
returns c = c.row.ensures is_ascii (λ b r h k. search (rules, tests))
