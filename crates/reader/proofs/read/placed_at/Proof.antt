use borrow.Author.Rules.{rules}
use Rattle.reader.proofs.ReadLaws.{placed_in, placed_past}
use Rattle.reader.proofs.read.placed_at.Statement.{statement}
use Rattle.reader.proofs.read.placed_at.Tie as tie

pub placed_at_spec : {M : Type 1} → statement M
placed_at_spec =
    tie.close
    (tie.spec
    (λ c κs. search rules)
    (λ c κs. search rules)
    (λ c κs. search rules)
    (λ c κs. search rules)
    (λ c. search placed_in)
    (λ c κs. search rules)
    (λ c. search placed_past))
