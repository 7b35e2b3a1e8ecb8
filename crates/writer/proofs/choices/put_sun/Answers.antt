use mathlib.Core.Path.{refl}
use mathlib.Core.List.{[], ◌∷◌}
use Rattle.model.specs.declared.Sun.{Sun}
use Rattle.writing.specs.Pieces.{Piece, spelled, further}
use Rattle.writing.specs.Write.{sun_word}
use Rattle.spelling.proofs.PutLaws.{fits-1, put_1}
use Rattle.spelling.proofs.FormLaws.{of_form}
use Rattle.writer.proofs.choices.put_sun.Goals as goal

pub put-requires : goal.put-requires
unfolding further spelled
put-requires c = fits-1 (of_form (λ (x : Sun). Piece.word (sun_word x) ∷ []) c.in-Up.is refl) _ _ c.requires

pub returns-in-Up : goal.returns-in-Up
unfolding further spelled
returns-in-Up c = put_1 (of_form (λ (x : Sun). Piece.word (sun_word x) ∷ []) c.in-Up.is refl) _ _ _ _ c.put.ensures

pub put-requires-in-Down : goal.put-requires-in-Down
unfolding further spelled
put-requires-in-Down c = fits-1 (of_form (λ (x : Sun). Piece.word (sun_word x) ∷ []) c.in-Down.is refl) _ _ c.requires

pub returns-in-Down : goal.returns-in-Down
unfolding further spelled
returns-in-Down c = put_1 (of_form (λ (x : Sun). Piece.word (sun_word x) ∷ []) c.in-Down.is refl) _ _ _ _ c.put-in-Down.ensures
