use mathlib.Core.Path.{◌≡◌}
use Prim.Native.Nat.{◌-◌}
use lib.ListN.{length, drop}
use Rattle.sheet.specs.Sheet.{lines, entries}
use Rattle.sheet.specs.Party.{entries_on}
use Rattle.sheet.specs.Adapters.{has}
use Rattle.sheet.specs.Tally.{tally, no_tally}
use Rattle.sheet.proofs.resolve.tally_all.Given as goal

-- the tally so far, with the lines from here on, comes to the tally of all rows
abbrev pub invariant-loop-at : goal.invariant-loop-at
invariant-loop-at l = tally l.kind l.name l.scope l.t (entries_on (has l.own) (entries (lines (drop l.at l.s))))
    ≡ tally l.kind l.name l.scope no_tally (entries_on (has l.own) (entries (lines l.s)))

abbrev pub decreases-loop-at : goal.decreases-loop-at
decreases-loop-at l = length l.s - l.at
