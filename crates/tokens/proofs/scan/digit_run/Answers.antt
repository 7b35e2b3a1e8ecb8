use mathlib.Core.Path.{refl}
use borrow.Author.Rules.{rules}
use Rattle.tokens.proofs.ScanLaws.{digits-many, scans}
use Rattle.tokens.proofs.scan.digit_run.Goals as goal

pub loop-line-init : goal.loop-line-init
loop-line-init c = (search rules, refl)

pub returns-then-not-is_digit : goal.returns-then-not-is_digit
returns-then-not-is_digit c = search scans

pub returns-then-more-gt1000000000 : goal.returns-then-more-gt1000000000
returns-then-more-gt1000000000 c = digits-many _ _ _ _ _ c.loop-line.invariant.1 c.octet-code.ensures
    c.is_digit.ensures (rw c.if-not-is_digit.false refl) c.digit_value.ensures (rw c.from.ensures at c.if-more-gt1000000000.true)

pub overflow_add-at : goal.overflow_add-at
overflow_add-at c = search scans

pub loop-line-smaller : goal.loop-line-smaller
loop-line-smaller c = search scans

pub loop-line-preserved : goal.loop-line-preserved
loop-line-preserved c = search scans
