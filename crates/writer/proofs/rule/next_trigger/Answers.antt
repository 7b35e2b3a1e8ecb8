use Rattle.spelling.proofs.PutLaws.{fits-1, fits-2, put_2}
use Rattle.writer.proofs.RuleLaws.{behind-made}
use Rattle.writer.proofs.rule.next_trigger.Goals as goal

pub put-i-requires : goal.put-i-requires
put-i-requires c = fits-1 (behind-made _ _) _ _ c.requires

pub put_trigger_from-requires : goal.put_trigger_from-requires
put_trigger_from-requires c = fits-2 (behind-made _ _) _ _ _ _ c.requires c.put-i.ensures

pub returns : goal.returns
returns c = put_2 (behind-made _ _) _ _ _ _ _ _ c.put-i.ensures c.put_trigger_from.ensures
