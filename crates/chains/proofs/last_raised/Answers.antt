use borrow.Author.Rules.{rules}
use Rattle.chains.proofs.WayLaws.{raised-here, raised-before, raised-next, raised-end}
use Rattle.chains.proofs.last_raised.Goals as goal
use Rattle.chains.proofs.last_raised.Goals.{then-least-lt-PIECE_COUNT, else-least-lt-PIECE_COUNT}

pub loop-i-preserved : goal.loop-i-preserved
loop-i-preserved c =
    raised-next {l = c.least.result} _ _ _ _ c.loop-i-test.true (rw (← c.from.ensures) c.least.ensures)
    (elim c.if-least-lt-PIECE_COUNT.branch [
      | then-least-lt-PIECE_COUNT w ↦ search (rules, raised-here)
      | else-least-lt-PIECE_COUNT w ↦ search (rules, raised-before)
    ])
    c.step-place.ensures c.loop-i.invariant

pub returns : goal.returns
returns c = search (rules, raised-end)
