use borrow.Author.Rules.{rules}
use native.Mathlib.Omega.{arith}
use Prim.Native.Nat.{◌+◌}
use Rattle.text.proofs.SameLaws.{same-on, same-no, same_end}
use Rattle.text.proofs.part.blocks_same.Goals as goal
use Rattle.text.proofs.part.blocks_same.Goals.{else-loop-at-test, then-loop-at-test+else-not-four_same+else-last-at-gt4}

pub loop-at-preserved : goal.loop-at-preserved
loop-at-preserved c = search (rules, same-on)

pub returns-then-not-four_same : goal.returns-then-not-four_same
returns-then-not-four_same c = search (rules, same-no)

pub returns : goal.returns
returns c =
    elim c.loop-at-test.branch [
      | else-loop-at-test w ↦ search (rules, same_end)
      | then-loop-at-test+else-not-four_same+else-last-at-gt4 w ↦ same_end _ _ _ c.four_same-2.ensures (c.loop-at.at + 4) (search rules) (search rules) (omega arith)
          (same-on _ _ _ w.four_same.ensures c.loop-at.invariant w.if-not-four_same.false)
    ]
