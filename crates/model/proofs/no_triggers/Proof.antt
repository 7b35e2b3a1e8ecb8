use mathlib.Core.Path.{refl}
use Rattle.model.specs.Lists.{padded, triggers_of}
use Rattle.model.proofs.no_triggers.Statement.{statement}
use Rattle.model.proofs.no_triggers.Tie as tie

pub no_triggers_spec : {M : Type 1} → statement M
unfolding triggers_of padded
no_triggers_spec = tie.close (tie.spec (λ c. refl))
