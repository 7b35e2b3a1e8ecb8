use borrow.Author.Rules.{rules}
use Rattle.writing.specs.Writing.{possible_trigger_from, possible_condition_from, first_impossible}
use Rattle.possible.proofs.ListLaws.{few_triggers, few_conditions, trigger-fails, condition-fails}
use Rattle.possible.proofs.entries.first_impossible.Goals as goal

pub shared_ref_as_front-triggers : goal.shared_ref_as_front-triggers
shared_ref_as_front-triggers c = few_triggers c.args.l c.requires

pub shared_ref_as_front-conditions : goal.shared_ref_as_front-conditions
shared_ref_as_front-conditions c = few_conditions c.args.l c.requires

pub returns-then-at-ne0 : goal.returns-then-at-ne0
unfolding first_impossible
returns-then-at-ne0 c =
    trigger-fails (possible_trigger_from c.args.first.now c.args.second.now) _ c.args.l (c.failing-at.ensures _ (λ x r k. search rules)) c.if-at-ne0.true

pub returns : goal.returns
unfolding first_impossible
returns c =
    condition-fails (possible_trigger_from c.args.first.now c.args.second.now) (possible_condition_from c.args.first.now c.args.second.now) c.args.l (c.failing-at.ensures _ (λ x r k. search rules)) c.if-at-ne0.false
    (c.failing.ensures _ (λ y r k. search rules))
