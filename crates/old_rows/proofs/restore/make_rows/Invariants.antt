use Rattle.sheet.specs.View.{view_of}
use Rattle.old_rows.proofs.BackLaws.{Making}
use Rattle.old_rows.proofs.restore.make_rows.Given as goal

abbrev pub invariant-loop-i : goal.invariant-loop-i
invariant-loop-i l = Making (view_of l.view.settings l.view.sheet.now) l.rows l.initial.made l.made l.end l.i
