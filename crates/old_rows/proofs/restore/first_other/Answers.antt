use borrow.Author.Rules.{rules}
use Rattle.old_rows.specs.Back.{is_change}
use Rattle.old_rows.proofs.BackLaws.{other_trigger_lem, no_condition_lem, some-condition}
use Rattle.old_rows.proofs.restore.first_other.Goals as goal

pub returns-then-at-ne0 : goal.returns-then-at-ne0
returns-then-at-ne0 c = other_trigger_lem c.args.l _ (c.failing-at.ensures is_change (λ x r k. search rules)) c.if-at-ne0.true

pub returns-then-conditions-eq0 : goal.returns-then-conditions-eq0
returns-then-conditions-eq0 c = no_condition_lem c.args.l _ (c.failing-at.ensures is_change (λ x r k. search rules)) c.if-at-ne0.false c.if-conditions-eq0.true

pub returns : goal.returns
returns c = some-condition c.args.l _ (c.failing-at.ensures is_change (λ x r k. search rules)) c.if-at-ne0.false c.if-conditions-eq0.false
