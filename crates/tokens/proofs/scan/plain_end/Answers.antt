use borrow.Author.Rules.{rules}
use Rattle.tokens.proofs.ScanLaws.{plain_row, plain_stop, plain-on, scans}
use Rattle.tokens.proofs.scan.plain_end.Goals as goal

pub loop-start-init : goal.loop-start-init
loop-start-init c = plain_row _ _ _ _ _ (search rules) c.plain_blocks-at.ensures

pub returns-then-not-is_plain : goal.returns-then-not-is_plain
returns-then-not-is_plain c = (search (rules, plain_stop), search rules)

pub overflow_add-at : goal.overflow_add-at
overflow_add-at c = search scans

pub loop-start-smaller : goal.loop-start-smaller
loop-start-smaller c = search scans

pub loop-start-preserved : goal.loop-start-preserved
loop-start-preserved c = (search rules, search (rules, plain-on))
