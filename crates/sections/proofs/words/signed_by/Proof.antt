use Rattle.sections.proofs.SignedLaws.{signs}
use Rattle.sections.proofs.words.signed_by.Statement.{statement}
use Rattle.sections.proofs.words.signed_by.Tie as tie

pub signed_by_spec : {M : Type 1} → statement M
signed_by_spec =
    tie.close (tie.spec (λ c. search signs) (λ c. search signs) (λ c. search signs) (λ c. search signs))
