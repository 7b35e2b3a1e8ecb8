use Rattle.text.proofs.Tests.{steps}
use Rattle.references.specs.Args.{slot_of}
use Rattle.references.proofs.args.slot_of.Goals as goal

pub returns-then-same : goal.returns-then-same
unfolding slot_of
returns-then-same c = search steps depth 12

pub returns-then-same-2 : goal.returns-then-same-2
unfolding slot_of
returns-then-same-2 c = search steps depth 12

pub returns-then-same-3 : goal.returns-then-same-3
unfolding slot_of
returns-then-same-3 c = search steps depth 12

pub returns-then-same-4 : goal.returns-then-same-4
unfolding slot_of
returns-then-same-4 c = search steps depth 12

pub returns-then-same-5 : goal.returns-then-same-5
unfolding slot_of
returns-then-same-5 c = search steps depth 12

pub returns : goal.returns
unfolding slot_of
returns c = search steps depth 12
