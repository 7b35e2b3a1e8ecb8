use mathlib.Core.Path.{refl}
use mathlib.Core.List.{[], ◌∷◌}
use Rattle.model.specs.declared.Crossing.{Crossing}
use Rattle.writing.specs.Pieces.{Piece, spelled, further}
use Rattle.writing.specs.Write.{crossing_word}
use Rattle.spelling.proofs.PutLaws.{fits-1, put_1}
use Rattle.spelling.proofs.FormLaws.{of_form}
use Rattle.writer.proofs.choices.put_crossing.Goals as goal

pub put-requires : goal.put-requires
unfolding further spelled
put-requires c = fits-1 (of_form (λ (x : Crossing). Piece.word (crossing_word x) ∷ []) c.in-Above.is refl) _ _ c.requires

pub returns-in-Above : goal.returns-in-Above
unfolding further spelled
returns-in-Above c = put_1 (of_form (λ (x : Crossing). Piece.word (crossing_word x) ∷ []) c.in-Above.is refl) _ _ _ _ c.put.ensures

pub put-requires-in-Below : goal.put-requires-in-Below
unfolding further spelled
put-requires-in-Below c = fits-1 (of_form (λ (x : Crossing). Piece.word (crossing_word x) ∷ []) c.in-Below.is refl) _ _ c.requires

pub returns-in-Below : goal.returns-in-Below
unfolding further spelled
returns-in-Below c = put_1 (of_form (λ (x : Crossing). Piece.word (crossing_word x) ∷ []) c.in-Below.is refl) _ _ _ _ c.put-in-Below.ensures
