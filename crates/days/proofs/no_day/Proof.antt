use mathlib.Core.Path.{refl}
use Rattle.text.specs.Bits.{bits_from}
use Rattle.days.specs.Days.{days_of}
use Rattle.days.specs.Read.{no_day}
use Rattle.days.proofs.no_day.Statement.{statement}
use Rattle.days.proofs.no_day.Tie as tie

pub no_day_spec : {M : Type 1} → statement M
unfolding no_day days_of bits_from
no_day_spec = tie.close (tie.spec (λ c. refl))
