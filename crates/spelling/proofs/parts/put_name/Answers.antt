use Rattle.spelling.proofs.PutLaws.{fits-1, fits-2, fits-3, put_3}
use Rattle.spelling.proofs.PartLaws.{name-made}
use Rattle.spelling.proofs.parts.put_name.Goals as goal

pub put-i-requires : goal.put-i-requires
put-i-requires c = fits-1 (name-made c.args.text.now c.args.name) _ _ c.requires

pub put_string-j-requires : goal.put_string-j-requires
put_string-j-requires c = fits-2 (name-made c.args.text.now c.args.name) _ _ _ _ c.requires c.put-i.ensures

pub put-requires : goal.put-requires
put-requires c = fits-3 (name-made c.args.text.now c.args.name) _ _ _ _ _ _ c.requires c.put-i.ensures c.put_string-j.ensures

pub returns : goal.returns
returns c = put_3 (name-made c.args.text.now c.args.name) _ _ _ _ _ _ _ _ c.put-i.ensures c.put_string-j.ensures c.put.ensures
