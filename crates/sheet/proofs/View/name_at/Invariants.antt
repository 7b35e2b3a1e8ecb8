use mathlib.Core.Path.{◌≡◌}
use mathlib.Core.List.{[]}
use Prim.Native.Nat.{◌-◌}
use lib.ListN.{length, get_or}
use Rattle.sheet.specs.Adapters.{has}
use Rattle.sheet.proofs.NamesLaws.{names_from}
use Rattle.sheet.proofs.View.name_at.Given as goal

-- of the names from here on so many stand before the one that is asked for
abbrev pub invariant-loop-at : goal.invariant-loop-at
invariant-loop-at l = get_or (names_from (has l.own) l.of l.s l.at) l.left [] ≡ get_or (names_from (has l.own) l.of l.s 0) l.k []

abbrev pub decreases-loop-at : goal.decreases-loop-at
decreases-loop-at l = length l.s - l.at
