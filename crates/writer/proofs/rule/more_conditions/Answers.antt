use borrow.Author.Rules.{rules}
use Rattle.spelling.proofs.PutLaws.{put-length}
use Rattle.writing.proofs.PassedLaws.{array_length}
use Rattle.writer.proofs.RuleLaws.{none_written, all-written, entry-fits, entry_in}
use Rattle.writer.proofs.rule.more_conditions.Goals as goal

pub loop-i-init : goal.loop-i-init
loop-i-init c = none_written _ _ _ _ _ _ (search (rules, array_length)) c.requires.0

pub next_condition-end-requires : goal.next_condition-end-requires
next_condition-end-requires c = entry-fits c.loop-i.invariant c.loop-i-test.true _ c.requires.1

pub loop-i-preserved : goal.loop-i-preserved
loop-i-preserved c = entry_in c.loop-i.invariant c.loop-i-test.true _ c.next_condition-end.ensures

pub shape_of-out : goal.shape_of-out
shape_of-out c = put-length c.loop-i.invariant.put

pub returns : goal.returns
returns c = all-written c.loop-i.invariant c.loop-i-test.false
