use mir.Facts.{to_z-of_z}
use Rattle.flat.specs.Codes.{high_word}
use Rattle.flat.proofs.codes.high_word.Goals as goal

pub returns : goal.returns
unfolding high_word
returns c = rw (c.twos_complement.ensures, to_z-of_z c.ranges.z)
