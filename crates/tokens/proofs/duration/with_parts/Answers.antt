use borrow.Author.Rules.{rules}
use Rattle.tokens.proofs.AmountLaws.{parts_whole, parts-rest}
use Rattle.tokens.proofs.duration.with_parts.Goals as goal

pub returns-then-n-scale-eq0 : goal.returns-then-n-scale-eq0
returns-then-n-scale-eq0 c = search (rules, parts_whole) depth 12

pub returns : goal.returns
returns c = search (rules, parts-rest) depth 12
