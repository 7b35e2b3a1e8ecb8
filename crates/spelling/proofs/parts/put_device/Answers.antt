use Rattle.spelling.proofs.PutLaws.{fits-1, fits-2, put_2}
use Rattle.spelling.proofs.PartLaws.{device-made}
use Rattle.spelling.proofs.parts.put_device.Goals as goal

pub put_argument-i-requires : goal.put_argument-i-requires
put_argument-i-requires c = fits-1 (device-made c.args.primary c.args.r) _ _ c.requires

pub put_close-requires : goal.put_close-requires
put_close-requires c = fits-2 (device-made c.args.primary c.args.r) _ _ _ _ c.requires c.put_argument-i.ensures

pub returns : goal.returns
returns c = put_2 (device-made c.args.primary c.args.r) _ _ _ _ _ _ c.put_argument-i.ensures c.put_close.ensures
