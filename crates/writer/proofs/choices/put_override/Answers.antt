use mathlib.Core.Path.{refl}
use mathlib.Core.List.{[], ◌∷◌}
use Rattle.model.specs.declared.Override.{Override}
use Rattle.writing.specs.Pieces.{Piece, spelled, further}
use Rattle.writing.specs.Write.{override_word}
use Rattle.spelling.proofs.PutLaws.{fits-1, put_1}
use Rattle.spelling.proofs.FormLaws.{of_form}
use Rattle.writer.proofs.choices.put_override.Goals as goal

pub put-requires : goal.put-requires
unfolding further spelled
put-requires c = fits-1 (of_form (λ (x : Override). Piece.word (override_word x) ∷ []) c.in-Starts.is refl) _ _ c.requires

pub returns-in-Starts : goal.returns-in-Starts
unfolding further spelled
returns-in-Starts c = put_1 (of_form (λ (x : Override). Piece.word (override_word x) ∷ []) c.in-Starts.is refl) _ _ _ _ c.put.ensures

pub put-requires-in-Clears : goal.put-requires-in-Clears
unfolding further spelled
put-requires-in-Clears c = fits-1 (of_form (λ (x : Override). Piece.word (override_word x) ∷ []) c.in-Clears.is refl) _ _ c.requires

pub returns-in-Clears : goal.returns-in-Clears
unfolding further spelled
returns-in-Clears c = put_1 (of_form (λ (x : Override). Piece.word (override_word x) ∷ []) c.in-Clears.is refl) _ _ _ _ c.put-in-Clears.ensures
