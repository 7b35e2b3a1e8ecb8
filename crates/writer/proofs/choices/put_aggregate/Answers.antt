use mathlib.Core.Path.{refl}
use mathlib.Core.List.{[], ◌∷◌}
use Rattle.model.specs.declared.Aggregate.{Aggregate}
use Rattle.writing.specs.Pieces.{Piece, spelled, further}
use Rattle.writing.specs.Write.{aggregate_word}
use Rattle.spelling.proofs.PutLaws.{fits-1, put_1}
use Rattle.spelling.proofs.FormLaws.{of_form}
use Rattle.writer.proofs.choices.put_aggregate.Goals as goal

pub put-requires : goal.put-requires
unfolding further spelled
put-requires c = fits-1 (of_form (λ (x : Aggregate). Piece.word (aggregate_word x) ∷ []) c.in-AnyOn.is refl) _ _ c.requires

pub returns-in-AnyOn : goal.returns-in-AnyOn
unfolding further spelled
returns-in-AnyOn c = put_1 (of_form (λ (x : Aggregate). Piece.word (aggregate_word x) ∷ []) c.in-AnyOn.is refl) _ _ _ _ c.put.ensures

pub put-requires-in-AllOff : goal.put-requires-in-AllOff
unfolding further spelled
put-requires-in-AllOff c = fits-1 (of_form (λ (x : Aggregate). Piece.word (aggregate_word x) ∷ []) c.in-AllOff.is refl) _ _ c.requires

pub returns-in-AllOff : goal.returns-in-AllOff
unfolding further spelled
returns-in-AllOff c = put_1 (of_form (λ (x : Aggregate). Piece.word (aggregate_word x) ∷ []) c.in-AllOff.is refl) _ _ _ _ c.put-in-AllOff.ensures
