use Rattle.spelling.proofs.PutLaws.{fits-1, put_1}
use Rattle.writer.proofs.RuleLaws.{first_condition_lem, second-condition}
use Rattle.writer.proofs.rule.put_condition_from.Goals as goal

pub put_condition-requires : goal.put_condition-requires
put_condition-requires c = fits-1 (first_condition_lem c.args.primary c.args.first.now c.args.second.now c.args.y c.if-y-eq1.true) _ _ c.requires

pub returns-then-y-eq1 : goal.returns-then-y-eq1
returns-then-y-eq1 c = put_1 (first_condition_lem c.args.primary c.args.first.now c.args.second.now c.args.y c.if-y-eq1.true) _ _ _ _ c.put_condition.ensures

pub put_condition-requires-2 : goal.put_condition-requires-2
put_condition-requires-2 c = fits-1 (second-condition c.args.primary c.args.first.now c.args.second.now c.args.y c.if-y-eq1.false) _ _ c.requires

pub returns : goal.returns
returns c = put_1 (second-condition c.args.primary c.args.first.now c.args.second.now c.args.y c.if-y-eq1.false) _ _ _ _ c.put_condition-2.ensures
