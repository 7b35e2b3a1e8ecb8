use Rattle.sheet.specs.View.{view_of}
use Rattle.sheet.specs.Adapters.{has}
use Rattle.sheet.proofs.NamesLaws.{names_from}
use Prim.Native.Nat.{◌-◌}
use lib.ListN.{length}
use mathlib.Core.Path.{◌≡◌}
use Rattle.old_rows.specs.Back.{first_fitting}
use Rattle.old_rows.proofs.name.first_fitting.Given as goal

-- of the names from here on the same is the first that fits
abbrev pub invariant-loop-at : goal.invariant-loop-at
invariant-loop-at l = first_fitting (view_of l.view.settings l.view.sheet.now) l.of (names_from (has l.own) l.of l.view.sheet.now l.at) ≡ first_fitting (view_of l.view.settings l.view.sheet.now) l.of (names_from (has l.own) l.of l.view.sheet.now 0)

abbrev pub decreases-loop-at : goal.decreases-loop-at
decreases-loop-at l = length l.view.sheet.now - l.at
