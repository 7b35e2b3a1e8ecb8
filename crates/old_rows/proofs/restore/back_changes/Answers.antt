use Rattle.writing.proofs.OutcomeLaws.{refused_by}
use Rattle.old_rows.proofs.BackLaws.{unnamed, written}
use Rattle.old_rows.proofs.restore.back_changes.Goals as goal

pub returns-in-Ok : goal.returns-in-Ok
returns-in-Ok c = written _ c.args.l _ c.make_rows.ensures c.in-Ok.is c.copy_from_slice.ensures.after

pub returns-in-Err : goal.returns-in-Err
returns-in-Err c = refused_by _ _ (unnamed _ c.args.l _ c.make_rows.ensures c.in-Err.is) c.refused.ensures
