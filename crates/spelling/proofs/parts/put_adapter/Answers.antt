use Rattle.spelling.proofs.PutLaws.{put-none, fits-1, put_1}
use Rattle.spelling.proofs.PartLaws.{adapter-same, adapter-other}
use Rattle.spelling.proofs.parts.put_adapter.Goals as goal

pub returns-then-adapter-primary : goal.returns-then-adapter-primary
returns-then-adapter-primary c = put_1 (adapter-same _ _ c.if-adapter-primary.true) _ _ _ _ put-none

pub put_argument-requires : goal.put_argument-requires
put_argument-requires c = fits-1 (adapter-other _ _ c.if-adapter-primary.false) _ _ c.requires

pub returns : goal.returns
returns c = put_1 (adapter-other _ _ c.if-adapter-primary.false) _ _ _ _ c.put_argument.ensures
