use borrow.Author.Rules.{rules}
use Rattle.reader.proofs.read.read.Statement.{statement}
use Rattle.reader.proofs.read.read.Tie as tie

pub read_spec : {M : Type 1} → statement M
read_spec = tie.close (tie.spec (λ c κs. search rules) (λ c. search rules) (λ c. search rules))
