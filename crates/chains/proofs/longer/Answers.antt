use Rattle.chains.proofs.WayLaws.{longers}
use Rattle.chains.proofs.longer.Goals as goal

pub loop-n-init : goal.loop-n-init
loop-n-init c = search longers

pub returns-then-may_end : goal.returns-then-may_end
returns-then-may_end c = search longers

pub loop-n-preserved : goal.loop-n-preserved
loop-n-preserved c = search longers

pub returns : goal.returns
returns c = search longers
