use mathlib.Core.Path.{refl}
use native.Mathlib.Omega.{arith}
use borrow.Author.Rules.{rules}
use Rattle.tokens.proofs.ScanLaws.{after-at, comment-passed, comment_stop, comment-on, comment-behind, comment-less}
use Rattle.tokens.proofs.scan.comment_end.Goals as goal

pub loop-q-init : goal.loop-q-init
loop-q-init c = (search rules, refl)

pub returns-then-octet-eq10 : goal.returns-then-octet-eq10
returns-then-octet-eq10 c =
    let e = after-at _ _ _ c.after.ensures in
    (search (rules, comment-passed), omega (arith, c.loop-q.invariant.0, c.plain_end-q.ensures.1))

pub loop-q-smaller : goal.loop-q-smaller
loop-q-smaller c = search (rules, comment-less)

pub loop-q-preserved : goal.loop-q-preserved
loop-q-preserved c = (search (rules, comment-behind), search (rules, comment-on))

pub returns-in-None : goal.returns-in-None
returns-in-None c = (search (rules, comment_stop), search rules)
