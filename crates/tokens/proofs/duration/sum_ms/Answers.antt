use native.Mathlib.Omega.{arith}
use Rattle.tokens.proofs.AmountLaws.{too_long, not-long}
use Rattle.tokens.proofs.duration.sum_ms.Goals as goal

pub returns-in-Ok : goal.returns-in-Ok
returns-in-Ok c = not-long _ (omega (arith, c.in-Ok.ensures)) (omega (arith, c.in-Ok.ensures))

pub returns-in-Err : goal.returns-in-Err
returns-in-Err c = too_long _ (omega (arith, c.in-Err.ensures))
