use Rattle.spelling.proofs.PutLaws.{put-none}
use Rattle.spelling.proofs.SignedLaws.{no-delta}
use Rattle.spelling.proofs.signed.put_delta.Goals as goal

pub returns-in-None : goal.returns-in-None
returns-in-None c = rw (no-delta c.in-None.is) put-none
