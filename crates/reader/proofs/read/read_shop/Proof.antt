use borrow.Author.Rules.{rules}
use Rattle.reader.proofs.ProfileLaws.{profiled-by}
use Rattle.reader.proofs.read.read_shop.Statement.{statement}
use Rattle.reader.proofs.read.read_shop.Tie as tie

pub read_shop_spec : {M : Type 1} → statement M
read_shop_spec =
    tie.close
    (tie.spec
    (λ c κs. search rules)
    (λ c. search rules)
    (λ c. (search rules, (search rules, (search rules, search profiled-by)))))
