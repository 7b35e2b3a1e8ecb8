use Rattle.chains.proofs.WayLaws.{leasts}
use Rattle.chains.proofs.least.Goals as goal

pub loop-q-init : goal.loop-q-init
loop-q-init c = search leasts

pub returns-then-may_end : goal.returns-then-may_end
returns-then-may_end c = search leasts

pub loop-q-preserved : goal.loop-q-preserved
loop-q-preserved c = search leasts

pub returns : goal.returns
returns c = search leasts
