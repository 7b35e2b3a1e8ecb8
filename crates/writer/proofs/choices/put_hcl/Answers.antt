use mathlib.Core.Path.{refl}
use mathlib.Core.List.{[], ◌∷◌}
use Rattle.model.specs.declared.Hcl.{Hcl}
use Rattle.writing.specs.Pieces.{Piece, spelled, further}
use Rattle.writing.specs.Write.{hcl_word}
use Rattle.spelling.proofs.PutLaws.{fits-1, put_1}
use Rattle.spelling.proofs.FormLaws.{of_form}
use Rattle.writer.proofs.choices.put_hcl.Goals as goal

pub put-requires : goal.put-requires
unfolding further spelled
put-requires c = fits-1 (of_form (λ (x : Hcl). Piece.word (hcl_word x) ∷ []) c.in-Enabled.is refl) _ _ c.requires

pub returns-in-Enabled : goal.returns-in-Enabled
unfolding further spelled
returns-in-Enabled c = put_1 (of_form (λ (x : Hcl). Piece.word (hcl_word x) ∷ []) c.in-Enabled.is refl) _ _ _ _ c.put.ensures

pub put-requires-in-Overridden : goal.put-requires-in-Overridden
unfolding further spelled
put-requires-in-Overridden c = fits-1 (of_form (λ (x : Hcl). Piece.word (hcl_word x) ∷ []) c.in-Overridden.is refl) _ _ c.requires

pub returns-in-Overridden : goal.returns-in-Overridden
unfolding further spelled
returns-in-Overridden c = put_1 (of_form (λ (x : Hcl). Piece.word (hcl_word x) ∷ []) c.in-Overridden.is refl) _ _ _ _ c.put-in-Overridden.ensures
