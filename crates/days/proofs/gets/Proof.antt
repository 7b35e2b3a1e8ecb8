use borrow.Author.Rules.{rules}
use Rattle.text.proofs.Tests.{told-yes, told-no}
use Rattle.days.specs.Read.{gets_day}
use Rattle.days.proofs.gets.Statement.{statement}
use Rattle.days.proofs.gets.Tie as tie

pub gets_spec : {M : Type 1} → statement M
unfolding gets_day
gets_spec =
    tie.close
    (tie.spec (λ c κs. search rules) (λ c. search (rules, told-yes)) (λ c κs. search rules) (λ c. search (rules, told-no)))
