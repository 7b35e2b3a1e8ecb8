use mathlib.Core.Path.{◌∙◌, ap}
use mir.Facts.{to_z-of_z, sfits_widen}
use Rattle.flat.specs.Codes.{low_word}
use Rattle.flat.proofs.SignedLaws.{widened}
use Rattle.flat.proofs.codes.offset.Goals as goal

pub overflow_cast-z : goal.overflow_cast-z
overflow_cast-z c = rw (to_z-of_z c.ranges.z) (sfits_widen tt c.ranges.z)

pub returns : goal.returns
returns c = c.low_word.ensures ∙ ap low_word (widened c.ranges.z)
