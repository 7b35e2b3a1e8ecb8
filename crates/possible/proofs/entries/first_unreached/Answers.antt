use borrow.Author.Rules.{rules}
use Rattle.sheet.specs.View.{view_of}
use Rattle.writing.specs.Reached.{reached_trigger, reached_condition}
use Rattle.writing.specs.Writing.{first_unreached}
use Rattle.writing.specs.declared.TriggerFrom.{TriggerFrom}
use Rattle.writing.specs.declared.ConditionFrom.{ConditionFrom}
use Rattle.possible.proofs.ListLaws.{few_triggers, few_conditions, trigger-fails, condition-fails}
use Rattle.possible.proofs.entries.first_unreached.Goals as goal

pub shared_ref_as_front-triggers : goal.shared_ref_as_front-triggers
shared_ref_as_front-triggers c = few_triggers c.args.l c.requires

pub shared_ref_as_front-conditions : goal.shared_ref_as_front-conditions
shared_ref_as_front-conditions c = few_conditions c.args.l c.requires

pub returns-then-at-ne0 : goal.returns-then-at-ne0
unfolding first_unreached
returns-then-at-ne0 c =
    trigger-fails (λ (x : TriggerFrom). reached_trigger (view_of c.args.view.now.settings c.args.view.now.sheet.now) x.trigger) _ c.args.l (c.failing-at.ensures _ (λ x r k. search rules)) c.if-at-ne0.true

pub returns : goal.returns
unfolding first_unreached
returns c =
    condition-fails (λ (x : TriggerFrom). reached_trigger (view_of c.args.view.now.settings c.args.view.now.sheet.now) x.trigger) (λ (y : ConditionFrom). reached_condition (view_of c.args.view.now.settings c.args.view.now.sheet.now) y.condition) c.args.l (c.failing-at.ensures _ (λ x r k. search rules)) c.if-at-ne0.false
    (c.failing.ensures _ (λ y r k. search rules))
