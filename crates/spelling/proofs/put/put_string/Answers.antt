use mathlib.Core.Path.{refl}
use Rattle.topics.specs.Ranges.{name_in}
use Rattle.spelling.proofs.PutLaws.{fits-1, fits-2, fits-3, put_3}
use Rattle.spelling.proofs.FormLaws.{string-made}
use Rattle.spelling.proofs.put.put_string.Goals as goal

pub put-i-requires : goal.put-i-requires
unfolding name_in
put-i-requires c = fits-1 (string-made {bytes = name_in c.args.text.now c.args.name} refl) _ _ c.requires

pub put-j-requires : goal.put-j-requires
unfolding name_in
put-j-requires c = fits-2 (string-made c.part.ensures) _ _ _ _ c.requires c.put-i.ensures

pub put-requires : goal.put-requires
unfolding name_in
put-requires c = fits-3 (string-made c.part.ensures) _ _ _ _ _ _ c.requires c.put-i.ensures c.put-j.ensures

pub returns : goal.returns
unfolding name_in
returns c = put_3 (string-made c.part.ensures) _ _ _ _ _ _ _ _ c.put-i.ensures c.put-j.ensures c.put.ensures
