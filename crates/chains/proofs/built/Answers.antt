use mathlib.Core.Path.{refl}
use borrow.Author.Rules.{rules}
use Rattle.chains.proofs.WayLaws.{built-next, built-done}
use Rattle.chains.proofs.built.Goals as goal

pub loop-i-init : goal.loop-i-init
loop-i-init c = (refl, refl)

pub loop-i-preserved : goal.loop-i-preserved
loop-i-preserved c = (search rules, search (rules, built-next))

pub returns : goal.returns
returns c = search (rules, built-done)
