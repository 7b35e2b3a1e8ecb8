use borrow.Author.Rules.{rules}
use Rattle.text.proofs.SameLaws.{four_same}
use Rattle.text.proofs.part.four_same.Goals as goal

pub returns : goal.returns
returns c = four_same _ _ _ (search rules) (search rules)
