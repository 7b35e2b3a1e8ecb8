use mathlib.Core.Path.{◌≡◌}
use lib.ListN.{drop}
use Rattle.chains.specs.Way.{reached}
use Rattle.chains.specs.declared.place.Place.TheVariants.{Start}
use Rattle.chains.proofs.reached.Given as goal

-- what is left leads from here to where all of it leads from the start
abbrev pub invariant-loop-piece : goal.invariant-loop-piece
invariant-loop-piece l = reached l.place (drop l.piece-index l.v) ≡ reached Start l.v
