use Rattle.text.proofs.Tests.{tests}
use Rattle.days.specs.Read.{covers}
use Rattle.days.proofs.covers.Statement.{statement}
use Rattle.days.proofs.covers.Tie as tie

pub covers_spec : {M : Type 1} → statement M
unfolding covers
covers_spec = tie.close (tie.spec (λ c. search tests) (λ c. search tests) (λ c. search tests) (λ c. search tests))
