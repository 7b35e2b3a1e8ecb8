use borrow.Author.Rules.{rules}
use Rattle.text.proofs.Tests.{steps}
use Rattle.reader.specs.Parts.{with_condition}
use Rattle.reader.proofs.parts.with_condition.Statement.{statement}
use Rattle.reader.proofs.parts.with_condition.Tie as tie

pub with_condition_spec : {M : Type 1} → statement M
unfolding with_condition
with_condition_spec =
    tie.close
    (tie.spec (λ c. search steps) (λ c. search rules) (λ c. search rules) (λ c. search rules) (λ c. search steps))
