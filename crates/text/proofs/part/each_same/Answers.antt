use mathlib.Core.Path.{sym}
use borrow.Author.Rules.{rules}
use borrow.Author.Tests.{tests, ne_eqb}
use Rattle.std.proofs.lemmas.Iterator.{YieldsList-from_slice, YieldsList-from_zip, same_from_all}
use Rattle.text.proofs.PartLaws.{same_by}
use Rattle.text.proofs.SameLaws.{other_length}
use Rattle.text.proofs.part.each_same.Goals as goal

pub returns-then-a-b : goal.returns-then-a-b
returns-then-a-b c =
    let told =
    same_from_all c.all.new.self _ _ _ _ c.all.ensures.ran
    (YieldsList-from_zip (YieldsList-from_slice c.args.a.now cc) (YieldsList-from_slice c.args.b.now cc)) (search rules)
    (λ x q k. search (rules, tests)) (λ x q k. search (rules, tests)) in
    same_by _ _ _ told.0 told.1

pub returns-else-a-b : goal.returns-else-a-b
returns-else-a-b c = rw (ne_eqb _ _ c.if-a-b.false) (other_length _ _ (λ e. c.if-a-b.false (sym e)))
