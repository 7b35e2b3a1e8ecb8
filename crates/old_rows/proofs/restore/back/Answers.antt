use Rattle.writing.proofs.OutcomeLaws.{handed_on, refused_by}
use borrow.Author.Rules.{rules}
use Rattle.old_rows.proofs.BackLaws.{bad_sheet, not_own_lem, is_own}
use Rattle.old_rows.proofs.restore.back.Goals as goal

pub returns-then-has : goal.returns-then-has
returns-then-has c =
    let both = handed_on (is_own _ _ _ _ _ _ c.check.ensures c.in-Ok.is (search rules) c.has.ensures c.if-has.true) c.back_lists.ensures in
    record { value = both.0; buffer = both.1 }

pub returns-in-Err : goal.returns-in-Err
returns-in-Err c =
    let both = refused_by _ _ (bad_sheet _ _ _ _ _ _ c.check.ensures c.in-Err.is) c.refused.ensures in
    record { value = both.0; buffer = both.1 }

pub returns-else-has : goal.returns-else-has
returns-else-has c =
    let both = refused_by _ _ (not_own_lem _ _ _ _ _ _ c.check.ensures c.in-Ok.is (search rules) c.has.ensures c.if-has.false) c.refused-in-Ok.ensures in
    record { value = both.0; buffer = both.1 }
