use mathlib.Core.Path.{◌∙◌}
use native.Mathlib.Omega.{arith}
use borrow.Author.Rules.{rules}
use Rattle.sheet.specs.Adapters.{has}
use Rattle.sheet.specs.Tally.{no_tally}
use Rattle.text.proofs.SplitLaws.{next_fits, less-left}
use Rattle.sheet.proofs.ResolveLaws.{tally-on, tally-end}
use Rattle.sheet.proofs.resolve.tally_all.Goals as goal

pub loop-at-init : goal.loop-at-init
loop-at-init c = let a = c.args in c.skip_lines-at.ensures.passed (has a.own) a.kind a.scope no_tally

pub overflow_add-end : goal.overflow_add-end
overflow_add-end c = search (next_fits, rules)

pub loop-at-smaller : goal.loop-at-smaller
loop-at-smaller c = omega (arith, less-left _ _ _ c.line_end-end.ensures c.loop-at-test.true)

pub loop-at-preserved : goal.loop-at-preserved
loop-at-preserved c = let a = c.args in
    c.skip_lines-at-in-loop-at.ensures.passed (has a.own) a.kind a.scope c.with_line-t.result ∙ search (tally-on, rules)

pub returns : goal.returns
returns c = search (tally-end, rules)
