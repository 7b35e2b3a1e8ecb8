use Rattle.std.proofs.Common.{length}
use Rattle.replay.proofs.show.+fields.Given as goal

abbrev pub decreases-fields : goal.decreases-fields
decreases-fields g l = length l.forms.now
