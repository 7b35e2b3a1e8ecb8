use mathlib.Core.Path.{refl}
use Rattle.model.specs.Lists.{padded, conditions_of}
use Rattle.model.proofs.no_conditions.Statement.{statement}
use Rattle.model.proofs.no_conditions.Tie as tie

pub no_conditions_spec : {M : Type 1} → statement M
unfolding conditions_of padded
no_conditions_spec = tie.close (tie.spec (λ c. refl))
