use mathlib.Core.Path.{refl}
use Rattle.writing.specs.Pieces.{spelled, further}
use Rattle.writing.specs.Write.{target_pieces}
use Rattle.spelling.proofs.PutLaws.{fits-1, put_1}
use Rattle.spelling.proofs.FormLaws.{of_form}
use Rattle.spelling.proofs.parts.put_target.Goals as goal

pub put_reference-requires : goal.put_reference-requires
unfolding further spelled target_pieces
put_reference-requires c = fits-1 (of_form (target_pieces c.args.primary) c.in-Lamp.is refl) _ _ c.requires

pub returns-in-Lamp : goal.returns-in-Lamp
unfolding further spelled target_pieces
returns-in-Lamp c = put_1 (of_form (target_pieces c.args.primary) c.in-Lamp.is refl) _ _ _ _ c.put_reference.ensures

pub put_reference-requires-in-Group : goal.put_reference-requires-in-Group
unfolding further spelled target_pieces
put_reference-requires-in-Group c = fits-1 (of_form (target_pieces c.args.primary) c.in-Group.is refl) _ _ c.requires

pub returns-in-Group : goal.returns-in-Group
unfolding further spelled target_pieces
returns-in-Group c = put_1 (of_form (target_pieces c.args.primary) c.in-Group.is refl) _ _ _ _ c.put_reference-in-Group.ensures

pub put-requires : goal.put-requires
unfolding further spelled target_pieces
put-requires c = fits-1 (of_form (target_pieces c.args.primary) c.in-Broadcast.is refl) _ _ c.requires

pub returns-in-Broadcast : goal.returns-in-Broadcast
unfolding further spelled target_pieces
returns-in-Broadcast c = put_1 (of_form (target_pieces c.args.primary) c.in-Broadcast.is refl) _ _ _ _ c.put.ensures
