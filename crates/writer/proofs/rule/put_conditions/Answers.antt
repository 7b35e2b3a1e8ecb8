use borrow.Author.Rules.{rules}
use Rattle.model.specs.declared.Condition.{Condition}
use Rattle.writing.proofs.PassedLaws.{array_length}
use Rattle.spelling.proofs.PutLaws.{put-none, fits-1, fits-2, fits-3, put_3}
use Rattle.writer.proofs.RuleLaws.{no_conditions, conditions-made}
use Rattle.writer.proofs.rule.put_conditions.Goals as goal

pub returns-then-l-eq0 : goal.returns-then-l-eq0
returns-then-l-eq0 c = rw (no_conditions _ _ c.if-l-eq0.true) put-none

pub put-i-requires : goal.put-i-requires
put-i-requires c = let pre = c.requires in
    fits-1
    (conditions-made _ _ _ (search (rules, array_length)) pre.0 c.if-l-eq0.false (record { from = 0; condition = Condition.ControllerActive }))
    _ _ pre.1

pub put_condition_from-j-requires : goal.put_condition_from-j-requires
put_condition_from-j-requires c = let pre = c.requires in
    fits-2
    (conditions-made _ _ _ (search (rules, array_length)) pre.0 c.if-l-eq0.false _)
    _ _ _ _ pre.1 c.put-i.ensures

pub more_conditions-requires : goal.more_conditions-requires
more_conditions-requires c = let pre = c.requires in (
  pre.0,
  fits-3
      (conditions-made _ _ _ (search (rules, array_length)) pre.0 c.if-l-eq0.false _)
      _ _ _ _ _ _ pre.1 c.put-i.ensures c.put_condition_from-j.ensures,
)

pub returns : goal.returns
returns c = let pre = c.requires in
    put_3
    (conditions-made _ _ _ (search (rules, array_length)) pre.0 c.if-l-eq0.false _)
    _ _ _ _ _ _ _ _
    c.put-i.ensures
    c.put_condition_from-j.ensures
    c.more_conditions.ensures
