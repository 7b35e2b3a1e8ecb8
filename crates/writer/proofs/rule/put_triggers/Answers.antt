use borrow.Author.Rules.{rules}
use Rattle.model.specs.declared.Trigger.{Trigger}
use Rattle.writing.proofs.PassedLaws.{array_length}
use Rattle.spelling.proofs.PutLaws.{fits-1, fits-2, fits-3, put_3}
use Rattle.writer.proofs.RuleLaws.{triggers-made}
use Rattle.writer.proofs.rule.put_triggers.Goals as goal

pub put-i-requires : goal.put-i-requires
put-i-requires c = let pre = c.requires in
    fits-1 (triggers-made _ _ _ (search (rules, array_length)) pre.1.0 pre.0 _ (record { from = 0; trigger = Trigger.HttpTrigger })) _ _
    pre.1.1

pub put_trigger_from-j-requires : goal.put_trigger_from-j-requires
put_trigger_from-j-requires c = let pre = c.requires in
    fits-2 (triggers-made _ _ _ (search (rules, array_length)) pre.1.0 pre.0 _ _) _ _ _ _ pre.1.1 c.put-i.ensures

pub more_triggers-requires : goal.more_triggers-requires
more_triggers-requires c = let pre = c.requires in (
  pre.1.0,
  fits-3 (triggers-made _ _ _ (search (rules, array_length)) pre.1.0 pre.0 _ _) _ _ _ _ _ _ pre.1.1
      c.put-i.ensures
      c.put_trigger_from-j.ensures,
)

pub returns : goal.returns
returns c = let pre = c.requires in
    put_3 (triggers-made _ _ _ (search (rules, array_length)) pre.1.0 pre.0 _ _) _ _ _ _ _ _ _ _
    c.put-i.ensures
    c.put_trigger_from-j.ensures
    c.more_triggers.ensures
