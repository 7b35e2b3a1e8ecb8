use mathlib.Core.Path.{refl, ap, ◌∙◌}
use native.Mathlib.Omega.{arith}
use Rattle.std.proofs.lemmas.Fn.{says_at}
use Rattle.writing.proofs.PassedLaws.{passed_none, passed_on, passed-not, passed-all}
use Rattle.possible.proofs.failing.Goals as goal

pub loop-i-init : goal.loop-i-init
loop-i-init g c = λ passes says. passed_none passes c.args.from c.args.rows.now

pub returns-then-not-test : goal.returns-then-not-test
returns-then-not-test g c = λ passes says.
    passed-not passes c.args.from c.args.rows.now c.loop-i.i (c.loop-i.invariant passes says) (omega arith) c.index-rows-i.result
    (says _ _ (says_at g.F.Fn c.test.ensures refl) ∙ ap passes c.index-rows-i.is) c.if-not-test.true

pub loop-i-preserved : goal.loop-i-preserved
loop-i-preserved g c = λ passes says.
    passed_on passes c.args.from c.args.rows.now c.loop-i.i (c.loop-i.invariant passes says) (omega arith) c.index-rows-i.result
    (says _ _ (says_at g.F.Fn c.test.ensures refl) ∙ ap passes c.index-rows-i.is) c.if-not-test.false

pub returns : goal.returns
returns g c = λ passes says. passed-all passes c.args.from c.args.rows.now c.loop-i.i (c.loop-i.invariant passes says) (omega arith)
