use mathlib.Core.Path.{refl}
use borrow.Author.Rules.{rules}
use Rattle.join.proofs.ConditionLaws.{other-count, compared-no, compared-on, compared-all}
use Rattle.join.proofs.same_conditions.Goals as goal

pub returns-then-xs-ys : goal.returns-then-xs-ys
returns-then-xs-ys c = other-count _ _ _ _ (search rules) (search rules) c.if-xs-ys.true

pub loop-i-init : goal.loop-i-init
loop-i-init c = (refl, search rules, search rules, search rules)

pub returns-then-not-same_condition : goal.returns-then-not-same_condition
returns-then-not-same_condition c = compared-no _ _ c.args.xs c.args.ys (search rules) (search rules) (search rules) _ c.loop-i.invariant.0 (search rules) c.same_condition.ensures (search rules)

pub loop-i-preserved : goal.loop-i-preserved
loop-i-preserved c = (
  compared-on _ _ c.args.xs c.args.ys (search rules) (search rules) (search rules) _ c.loop-i.invariant.0 (search rules) c.same_condition.ensures (search rules),
  search rules,
  search rules,
  search rules,
)

pub returns : goal.returns
returns c = search (rules, compared-all)
