use mathlib.Core.Path.{refl}
use mathlib.Core.List.{[], ◌∷◌}
use Rattle.model.specs.declared.Comparison.{Comparison}
use Rattle.writing.specs.Pieces.{Piece, spelled, spelled_sign, further}
use Rattle.writing.specs.Write.{comparison_sign}
use Rattle.spelling.proofs.PutLaws.{fits-1, put_1}
use Rattle.spelling.proofs.FormLaws.{of_form}
use Rattle.writer.proofs.choices.put_comparison.Goals as goal

pub put-requires : goal.put-requires
unfolding further spelled spelled_sign
put-requires c = fits-1 (of_form (λ (x : Comparison). Piece.sign (comparison_sign x) ∷ []) c.in-Eq.is refl) _ _ c.requires

pub returns-in-Eq : goal.returns-in-Eq
unfolding further spelled spelled_sign
returns-in-Eq c = put_1 (of_form (λ (x : Comparison). Piece.sign (comparison_sign x) ∷ []) c.in-Eq.is refl) _ _ _ _ c.put.ensures

pub put-requires-in-Ne : goal.put-requires-in-Ne
unfolding further spelled spelled_sign
put-requires-in-Ne c = fits-1 (of_form (λ (x : Comparison). Piece.sign (comparison_sign x) ∷ []) c.in-Ne.is refl) _ _ c.requires

pub returns-in-Ne : goal.returns-in-Ne
unfolding further spelled spelled_sign
returns-in-Ne c = put_1 (of_form (λ (x : Comparison). Piece.sign (comparison_sign x) ∷ []) c.in-Ne.is refl) _ _ _ _ c.put-in-Ne.ensures

pub put-requires-in-Ge : goal.put-requires-in-Ge
unfolding further spelled spelled_sign
put-requires-in-Ge c = fits-1 (of_form (λ (x : Comparison). Piece.sign (comparison_sign x) ∷ []) c.in-Ge.is refl) _ _ c.requires

pub returns-in-Ge : goal.returns-in-Ge
unfolding further spelled spelled_sign
returns-in-Ge c = put_1 (of_form (λ (x : Comparison). Piece.sign (comparison_sign x) ∷ []) c.in-Ge.is refl) _ _ _ _ c.put-in-Ge.ensures

pub put-requires-in-Le : goal.put-requires-in-Le
unfolding further spelled spelled_sign
put-requires-in-Le c = fits-1 (of_form (λ (x : Comparison). Piece.sign (comparison_sign x) ∷ []) c.in-Le.is refl) _ _ c.requires

pub returns-in-Le : goal.returns-in-Le
unfolding further spelled spelled_sign
returns-in-Le c = put_1 (of_form (λ (x : Comparison). Piece.sign (comparison_sign x) ∷ []) c.in-Le.is refl) _ _ _ _ c.put-in-Le.ensures

pub put-requires-in-Gt : goal.put-requires-in-Gt
unfolding further spelled spelled_sign
put-requires-in-Gt c = fits-1 (of_form (λ (x : Comparison). Piece.sign (comparison_sign x) ∷ []) c.in-Gt.is refl) _ _ c.requires

pub returns-in-Gt : goal.returns-in-Gt
unfolding further spelled spelled_sign
returns-in-Gt c = put_1 (of_form (λ (x : Comparison). Piece.sign (comparison_sign x) ∷ []) c.in-Gt.is refl) _ _ _ _ c.put-in-Gt.ensures

pub put-requires-in-Lt : goal.put-requires-in-Lt
unfolding further spelled spelled_sign
put-requires-in-Lt c = fits-1 (of_form (λ (x : Comparison). Piece.sign (comparison_sign x) ∷ []) c.in-Lt.is refl) _ _ c.requires

pub returns-in-Lt : goal.returns-in-Lt
unfolding further spelled spelled_sign
returns-in-Lt c = put_1 (of_form (λ (x : Comparison). Piece.sign (comparison_sign x) ∷ []) c.in-Lt.is refl) _ _ _ _ c.put-in-Lt.ensures
