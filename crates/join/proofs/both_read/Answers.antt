use mathlib.Core.Path.{refl}
use Rattle.join.proofs.CallLaws.{finished-triggers, finished-conditions, none-few, one-few, both-differ, both-joined}
use Rattle.join.proofs.both_read.Goals as goal

pub same_conditions-requires : goal.same_conditions-requires
same_conditions-requires c = (finished-conditions c.requires.0, finished-conditions c.requires.1)

pub returns-then-not-same_conditions : goal.returns-then-not-same_conditions
returns-then-not-same_conditions c = both-differ _ _ _ _ c.same_conditions.ensures c.if-not-same_conditions.true c.refused_both.ensures

pub keep_all-kept-requires : goal.keep_all-kept-requires
keep_all-kept-requires c = (none-few c.none_kept.ensures, finished-triggers c.requires.0, refl)

pub keep_all-more-requires : goal.keep_all-more-requires
keep_all-more-requires c = (one-few c.keep_all-kept.result c.args.one.triggers c.none_kept.ensures (finished-triggers c.requires.0) c.keep_all-kept.ensures.count_bound, finished-triggers c.requires.1, refl)

pub returns : goal.returns
returns c = both-joined _ _ _ _
    c.same_conditions.ensures
    c.if-not-same_conditions.false
    c.requires.0
    c.none_kept.ensures
    c.keep_all-kept.ensures.of_kept
    c.keep_all-more.ensures.of_kept
    c.counted.ensures
