use Rattle.text.proofs.Tests.{steps}
use Rattle.references.specs.Args.{type_word}
use Rattle.references.proofs.args.type_word.Goals as goal

pub returns-then-same : goal.returns-then-same
unfolding type_word
returns-then-same c = search steps depth 12

pub returns-then-same-2 : goal.returns-then-same-2
unfolding type_word
returns-then-same-2 c = search steps depth 12

pub returns-then-same-3 : goal.returns-then-same-3
unfolding type_word
returns-then-same-3 c = search steps depth 12

pub returns-then-same-4 : goal.returns-then-same-4
unfolding type_word
returns-then-same-4 c = search steps depth 12

pub returns : goal.returns
unfolding type_word
returns c = search steps depth 12
