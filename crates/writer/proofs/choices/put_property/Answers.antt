use mathlib.Core.Path.{refl}
use mathlib.Core.List.{[], ◌∷◌}
use Rattle.tokens.specs.Kind.{POINT}
use Rattle.model.specs.declared.LampProperty.{LampProperty}
use Rattle.writing.specs.Pieces.{Piece, spelled, spelled_sign, further}
use Rattle.writing.specs.Write.{property_word}
use Rattle.spelling.proofs.PutLaws.{fits-1, put_1}
use Rattle.spelling.proofs.FormLaws.{of_form}
use Rattle.writer.proofs.choices.put_property.Goals as goal

pub put-requires : goal.put-requires
unfolding further spelled spelled_sign
put-requires c = fits-1 (of_form (λ (x : LampProperty). Piece.sign POINT ∷ Piece.word (property_word x) ∷ []) c.in-Level.is refl) _ _ c.requires

pub returns-in-Level : goal.returns-in-Level
unfolding further spelled spelled_sign
returns-in-Level c = put_1 (of_form (λ (x : LampProperty). Piece.sign POINT ∷ Piece.word (property_word x) ∷ []) c.in-Level.is refl) _ _ _ _ c.put.ensures

pub put-requires-in-Cct : goal.put-requires-in-Cct
unfolding further spelled spelled_sign
put-requires-in-Cct c = fits-1 (of_form (λ (x : LampProperty). Piece.sign POINT ∷ Piece.word (property_word x) ∷ []) c.in-Cct.is refl) _ _ c.requires

pub returns-in-Cct : goal.returns-in-Cct
unfolding further spelled spelled_sign
returns-in-Cct c = put_1 (of_form (λ (x : LampProperty). Piece.sign POINT ∷ Piece.word (property_word x) ∷ []) c.in-Cct.is refl) _ _ _ _ c.put-in-Cct.ensures
