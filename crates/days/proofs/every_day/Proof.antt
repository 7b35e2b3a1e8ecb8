use mathlib.Core.Path.{refl}
use Rattle.text.specs.Bits.{bits_from}
use Rattle.days.specs.Days.{days_of, every_day}
use Rattle.days.proofs.every_day.Statement.{statement}
use Rattle.days.proofs.every_day.Tie as tie

pub every_day_spec : {M : Type 1} → statement M
unfolding every_day days_of bits_from
every_day_spec = tie.close (tie.spec (λ c. refl))
