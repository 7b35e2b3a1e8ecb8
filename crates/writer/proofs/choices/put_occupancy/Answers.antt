use mathlib.Core.Path.{refl}
use mathlib.Core.List.{[], ◌∷◌}
use Rattle.model.specs.declared.Occupancy.{Occupancy}
use Rattle.writing.specs.Pieces.{Piece, spelled, further}
use Rattle.writing.specs.Write.{occupancy_word}
use Rattle.spelling.proofs.PutLaws.{fits-1, put_1}
use Rattle.spelling.proofs.FormLaws.{of_form}
use Rattle.writer.proofs.choices.put_occupancy.Goals as goal

pub put-requires : goal.put-requires
unfolding further spelled
put-requires c = fits-1 (of_form (λ (x : Occupancy). Piece.word (occupancy_word x) ∷ []) c.in-Occupied.is refl) _ _ c.requires

pub returns-in-Occupied : goal.returns-in-Occupied
unfolding further spelled
returns-in-Occupied c = put_1 (of_form (λ (x : Occupancy). Piece.word (occupancy_word x) ∷ []) c.in-Occupied.is refl) _ _ _ _ c.put.ensures

pub put-requires-in-Vacant : goal.put-requires-in-Vacant
unfolding further spelled
put-requires-in-Vacant c = fits-1 (of_form (λ (x : Occupancy). Piece.word (occupancy_word x) ∷ []) c.in-Vacant.is refl) _ _ c.requires

pub returns-in-Vacant : goal.returns-in-Vacant
unfolding further spelled
returns-in-Vacant c = put_1 (of_form (λ (x : Occupancy). Piece.word (occupancy_word x) ∷ []) c.in-Vacant.is refl) _ _ _ _ c.put-in-Vacant.ensures
