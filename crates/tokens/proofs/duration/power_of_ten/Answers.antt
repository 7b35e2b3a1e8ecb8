use native.Mathlib.Omega.{arith}
use Rattle.tokens.proofs.PowerLaws.{ten-held}
use Rattle.tokens.proofs.duration.power_of_ten.Goals as goal

pub overflow_cast-d : goal.overflow_cast-d
overflow_cast-d c = omega (arith, ten-held c.args.d c.requires)
