use Rattle.text.specs.Literal.{ascii}
use Rattle.writing.specs.Writing.{trigger_from_pieces}
use Rattle.writer.proofs.RuleLaws.{Going}
use Rattle.writer.proofs.rule.more_triggers.Given as goal

abbrev pub invariant-loop-i : goal.invariant-loop-i
invariant-loop-i l = Going (trigger_from_pieces l.first l.second l.primary) (ascii "when") l.l.count l.l.rows l.initial.out l.at l.out l.end l.i
