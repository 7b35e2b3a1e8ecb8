use borrow.Author.Rules.{rules}
use Rattle.reader.proofs.read.read_archive.Statement.{statement}
use Rattle.reader.proofs.read.read_archive.Tie as tie

pub read_archive_spec : {M : Type 1} → statement M
read_archive_spec = tie.close (tie.spec (λ c κs. search rules) (λ c. search rules) (λ c. search rules))
