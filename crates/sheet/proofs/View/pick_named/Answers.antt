use mathlib.Core.Path.{◌∙◌, ap}
use Rattle.sheet.specs.View.{view_of}
use Rattle.sheet.specs.Tally.{found_by}
use Rattle.sheet.proofs.ResolveLaws.{found-tally}
use Rattle.sheet.proofs.View.pick_named.Goals as goal

pub returns : goal.returns
unfolding view_of
returns c = c.found_by.ensures ∙ ap found_by c.tally_all.ensures ∙ found-tally _ _ _ _
