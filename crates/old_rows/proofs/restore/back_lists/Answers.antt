use Rattle.writing.proofs.OutcomeLaws.{handed_on, refused_by}
use borrow.Author.Rules.{rules}
use Rattle.old_rows.proofs.BackLaws.{too_small, no_trigger_lem, too_many_lem, no_change, all_changes}
use Rattle.old_rows.proofs.restore.back_lists.Goals as goal

pub returns-then-out-lt-LEAST_BYTES : goal.returns-then-out-lt-LEAST_BYTES
returns-then-out-lt-LEAST_BYTES c = refused_by _ _ (too_small _ _ _ _ (search rules)) c.refused.ensures

pub returns-then-l-lt1 : goal.returns-then-l-lt1
returns-then-l-lt1 c = refused_by _ _ (no_trigger_lem _ _ _ _ (search rules) (search rules)) c.refused-then-l-lt1.ensures

pub returns-then-l-gt-MOST_TRIGGERS : goal.returns-then-l-gt-MOST_TRIGGERS
returns-then-l-gt-MOST_TRIGGERS c = refused_by _ _ (too_many_lem _ _ _ _ (search rules) (search rules) (search rules)) c.refused-then-l-gt-MOST_TRIGGERS.ensures

pub returns-then-at-eq0 : goal.returns-then-at-eq0
returns-then-at-eq0 c = handed_on (all_changes _ _ _ _ (search rules) (search rules) (search rules) c.first_other-at.ensures (search rules)) c.back_changes.ensures

pub returns : goal.returns
returns c = refused_by _ _ (no_change _ _ _ _ (search rules) (search rules) (search rules) c.first_other-at.ensures (search rules)) c.refused-2.ensures
