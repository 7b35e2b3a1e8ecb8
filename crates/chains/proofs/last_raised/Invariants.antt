use mathlib.Core.Path.{◌≡◌}
use lib.ListN.{length, drop}
use Rattle.chains.specs.Way.{last_raised}
use Rattle.chains.specs.declared.place.Place.TheVariants.{Start}
use Rattle.chains.proofs.last_raised.Given as goal

abbrev pub invariant-loop-i : goal.invariant-loop-i
invariant-loop-i l = last_raised l.place (drop l.i l.v) l.i l.best ≡ last_raised Start l.v 0 (length l.v)
