use Rattle.text.proofs.Tests.{steps}
use Rattle.old_rows.specs.Back.{name_back}
use Rattle.old_rows.proofs.name.name_back.Goals as goal

pub returns-then-adapter_exists : goal.returns-then-adapter_exists
unfolding name_back
returns-then-adapter_exists c = search steps depth 12

pub returns : goal.returns
unfolding name_back
returns c = search steps depth 12
