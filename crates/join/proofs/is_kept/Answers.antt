use borrow.Author.Rules.{rules}
use Rattle.join.proofs.KeptLaws.{left-all, left-yes, left-on, left-none}
use Rattle.join.proofs.is_kept.Goals as goal

pub loop-i-init : goal.loop-i-init
loop-i-init c = (left-all _ _ _ _ _, search rules)

pub returns-then-is_same : goal.returns-then-is_same
returns-then-is_same c = search (rules, left-yes)

pub loop-i-preserved : goal.loop-i-preserved
loop-i-preserved c = (search (rules, left-on), search rules)

pub returns : goal.returns
returns c = search (rules, left-none)
