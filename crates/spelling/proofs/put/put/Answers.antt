use Rattle.spelling.proofs.PutLaws.{stored_between}
use Rattle.spelling.proofs.put.put.Goals as goal

pub returns : goal.returns
returns c = stored_between c.requires c.copy_from_slice.ensures.after
