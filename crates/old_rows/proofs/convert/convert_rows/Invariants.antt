use Rattle.sheet.specs.View.{view_of}
use Prim.Native.Nat.{◌-◌}
use lib.ListN.{length}
use Rattle.old_rows.proofs.ConvertLaws.{Going}
use Rattle.old_rows.proofs.convert.convert_rows.Given as goal

abbrev pub invariant-loop-at : goal.invariant-loop-at
invariant-loop-at l = Going (view_of l.view.settings l.view.sheet.now) l.s l.list l.at

abbrev pub decreases-loop-at : goal.decreases-loop-at
decreases-loop-at l = length l.s - l.at
