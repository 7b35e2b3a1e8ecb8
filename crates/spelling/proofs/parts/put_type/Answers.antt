use mathlib.Core.Path.{refl}
use Rattle.writing.specs.Pieces.{spelled, spelled_sign, further}
use Rattle.writing.specs.Write.{type_pieces}
use Rattle.spelling.proofs.PutLaws.{put-none, fits-1, put_1}
use Rattle.spelling.proofs.FormLaws.{of_form}
use Rattle.spelling.proofs.parts.put_type.Goals as goal

pub returns-in-None : goal.returns-in-None
unfolding further spelled spelled_sign type_pieces
returns-in-None c = put_1 (of_form type_pieces c.in-None.is refl) _ _ _ _ put-none

pub put_argument-requires : goal.put_argument-requires
unfolding further spelled spelled_sign type_pieces
put_argument-requires c = fits-1 (of_form type_pieces c.in-Some.is refl) _ _ c.requires

pub returns-in-Some : goal.returns-in-Some
unfolding further spelled spelled_sign type_pieces
returns-in-Some c = put_1 (of_form type_pieces c.in-Some.is refl) _ _ _ _ c.put_argument.ensures
