use Rattle.writing.proofs.OutcomeLaws.{refused_by}
use Rattle.writer.proofs.WriteLaws.{rule_fits, length_in_word, unnamed, written}
use Rattle.writer.proofs.write_possible.Goals as goal

pub put_rule-end-requires : goal.put_rule-end-requires
put_rule-end-requires c = let pre = c.requires in
    (pre.1.0, rule_fits _ _ _ _ pre _)

pub overflow_cast-result : goal.overflow_cast-result
overflow_cast-result c = length_in_word _ _ _ _ c.requires _ c.put_rule-end.ensures

pub returns-then-at-eq0 : goal.returns-then-at-eq0
returns-then-at-eq0 c = written _ _ _ _ c.requires _ _ c.first_unreached-at.ensures c.if-at-eq0.true c.put_rule-end.ensures

pub returns : goal.returns
returns c = refused_by _ _ (unnamed _ _ _ _ c.requires _ _ c.first_unreached-at.ensures c.if-at-eq0.false) c.refused.ensures
