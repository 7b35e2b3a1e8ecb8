use borrow.Author.Rules.{rules}
use Rattle.model.proofs.AnswerLaws.{refused-made}
use Rattle.model.proofs.refused.Statement.{statement}
use Rattle.model.proofs.refused.Tie as tie

pub refused_spec : {M : Type 1} → statement M
refused_spec = tie.close (tie.spec (λ c κs. search rules) (λ c κs. search rules) (λ c. search refused-made))
