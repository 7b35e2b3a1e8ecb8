use mathlib.Core.Path.{◌≡◌}
use Prim.Native.Nat.{◌-◌}
use lib.ListN.{length}
use Rattle.text.specs.Utf8.{chars}
use Rattle.text.specs.Place.{walked}
use Rattle.text.proofs.place.Place.walk.Given as goal

-- the walk from here ends where the walk from the start does
abbrev pub invariant-loop-next : goal.invariant-loop-next
invariant-loop-next l = walked l.initial.p (chars l.s l.initial.p.at) ≡ walked l.p (chars l.s l.p.at)

abbrev pub decreases-loop-next : goal.decreases-loop-next
decreases-loop-next l = length l.s - l.p.at
