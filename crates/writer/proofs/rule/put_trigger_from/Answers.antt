use Rattle.spelling.proofs.PutLaws.{fits-1, put_1}
use Rattle.writer.proofs.RuleLaws.{first_trigger_lem, second-trigger}
use Rattle.writer.proofs.rule.put_trigger_from.Goals as goal

pub put_trigger-requires : goal.put_trigger-requires
put_trigger-requires c = fits-1 (first_trigger_lem c.args.primary c.args.first.now c.args.second.now c.args.x c.if-x-eq1.true) _ _ c.requires

pub returns-then-x-eq1 : goal.returns-then-x-eq1
returns-then-x-eq1 c = put_1 (first_trigger_lem c.args.primary c.args.first.now c.args.second.now c.args.x c.if-x-eq1.true) _ _ _ _ c.put_trigger.ensures

pub put_trigger-requires-2 : goal.put_trigger-requires-2
put_trigger-requires-2 c = fits-1 (second-trigger c.args.primary c.args.first.now c.args.second.now c.args.x c.if-x-eq1.false) _ _ c.requires

pub returns : goal.returns
returns c = put_1 (second-trigger c.args.primary c.args.first.now c.args.second.now c.args.x c.if-x-eq1.false) _ _ _ _ c.put_trigger-2.ensures
