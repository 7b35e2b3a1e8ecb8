use mathlib.Core.Path.{refl}
use borrow.Author.Rules.{rules}
use Rattle.chains.proofs.WayLaws.{reached-next, reached-end}
use Rattle.chains.proofs.reached.Goals as goal

pub loop-piece-init : goal.loop-piece-init
loop-piece-init c = refl

pub loop-piece-preserved : goal.loop-piece-preserved
loop-piece-preserved c = search (rules, reached-next)

pub returns : goal.returns
returns c = search (rules, reached-end)
