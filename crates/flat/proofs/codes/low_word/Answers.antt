use mir.Facts.{to_z-of_z}
use Rattle.flat.specs.Codes.{low_word}
use Rattle.flat.proofs.codes.low_word.Goals as goal

pub returns : goal.returns
unfolding low_word
returns c = rw (c.twos_complement.ensures, to_z-of_z c.ranges.z)
