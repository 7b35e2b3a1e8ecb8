use borrow.Author.Rules.{rules}
use Rattle.writing.proofs.PassedLaws.{array_length}
use Rattle.possible.proofs.ListLaws.{few_triggers, few_conditions}
use Rattle.spelling.proofs.PutLaws.{fits-1, fits-2, put_2}
use Rattle.writer.proofs.RuleLaws.{some-triggers, rule-made}
use Rattle.writer.proofs.rule.put_rule.Goals as goal

pub put_triggers-i-requires : goal.put_triggers-i-requires
put_triggers-i-requires c = (
  some-triggers c.args.l c.requires.0,
  (
    few_triggers c.args.l c.requires.0,
    fits-1 (rule-made _ _ _ c.args.l (search (rules, array_length)) (some-triggers c.args.l c.requires.0)) _ _ c.requires.1,
  ),
)

pub put_conditions-requires : goal.put_conditions-requires
put_conditions-requires c = (
  few_conditions c.args.l c.requires.0,
  fits-2 (rule-made _ _ _ c.args.l (search (rules, array_length)) (some-triggers c.args.l c.requires.0)) _ _ _ _ c.requires.1
      c.put_triggers-i.ensures,
)

pub returns : goal.returns
returns c = put_2 (rule-made _ _ _ c.args.l (search (rules, array_length)) (some-triggers c.args.l c.requires.0)) _ _ _ _ _ _
    c.put_triggers-i.ensures
    c.put_conditions.ensures
