use borrow.Author.Rules.{rules}
use Rattle.old_rows.proofs.BackLaws.{fits}
use Rattle.old_rows.specs.Back.{is_fitting}
use Rattle.old_rows.proofs.name.is_fitting.Statement.{statement}
use Rattle.old_rows.proofs.name.is_fitting.Tie as tie

pub is_fitting_spec : {M : Type 1} → statement M
unfolding is_fitting
is_fitting_spec =
    tie.close
    (tie.spec
    (λ c κs. search rules)
    (λ c. search fits depth 12)
    (λ c κs. search rules)
    (λ c κs. search rules)
    (λ c. search fits depth 12))
