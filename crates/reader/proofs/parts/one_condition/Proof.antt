use borrow.Author.Rules.{rules}
use Rattle.reader.proofs.SectionLaws.{one_made}
use Rattle.reader.proofs.parts.one_condition.Statement.{statement}
use Rattle.reader.proofs.parts.one_condition.Tie as tie

pub one_condition_spec : {M : Type 1} → statement M
one_condition_spec = tie.close (tie.spec (λ c κs. search rules) (λ c κs. search rules) (λ c. search one_made))
