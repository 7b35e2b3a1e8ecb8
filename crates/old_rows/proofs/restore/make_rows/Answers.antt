use borrow.Author.Rules.{rules}
use Rattle.old_rows.proofs.BackLaws.{one_unnamed, one_made, making}
use Rattle.old_rows.proofs.restore.make_rows.Goals as goal

pub loop-i-init : goal.loop-i-init
loop-i-init c = search making

pub returns-then-is_empty : goal.returns-then-is_empty
returns-then-is_empty c =
    one_unnamed _ _ _ c.loop-i.invariant (search rules) _ c.changed_of-changed.ensures c.name_back-name.ensures (search rules)

pub put_row-end-requires : goal.put_row-end-requires
put_row-end-requires c = search making

pub loop-i-preserved : goal.loop-i-preserved
loop-i-preserved c =
    one_made _ _ _ c.loop-i.invariant (search rules) _ c.changed_of-changed.ensures c.name_back-name.ensures (search making) (search making)
    (search rules) c.put_row-end.ensures

pub returns : goal.returns
returns c = search making
