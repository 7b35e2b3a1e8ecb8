use borrow.Author.Rules.{rules}
use Rattle.join.proofs.KeptLaws.{keeping_none, keeping-on, keeping_all}
use Rattle.join.proofs.keep_all.Goals as goal

pub loop-i-init : goal.loop-i-init
loop-i-init c = (keeping_none _ _ _ c.args.from c.args.list, search rules, search rules, search rules, search rules)

pub loop-i-preserved : goal.loop-i-preserved
loop-i-preserved c = (keeping-on _ _ _ _ c.args.list _ c.loop-i.invariant.0 (search rules) c.keep-more.ensures.of_kept, search rules, search rules, search rules, search rules)

pub returns : goal.returns
returns c = record { of_kept = search (rules, keeping_all); count_bound = search rules }
