use mathlib.Core.Path.{refl}
use mathlib.Core.List.{[], ◌∷◌}
use Rattle.model.specs.declared.Power.{Power}
use Rattle.writing.specs.Pieces.{Piece, spelled, further}
use Rattle.writing.specs.Write.{power_word}
use Rattle.spelling.proofs.PutLaws.{fits-1, put_1}
use Rattle.spelling.proofs.FormLaws.{of_form}
use Rattle.writer.proofs.choices.put_power.Goals as goal

pub put-requires : goal.put-requires
unfolding further spelled
put-requires c = fits-1 (of_form (λ (x : Power). Piece.word (power_word x) ∷ []) c.in-On.is refl) _ _ c.requires

pub returns-in-On : goal.returns-in-On
unfolding further spelled
returns-in-On c = put_1 (of_form (λ (x : Power). Piece.word (power_word x) ∷ []) c.in-On.is refl) _ _ _ _ c.put.ensures

pub put-requires-in-Off : goal.put-requires-in-Off
unfolding further spelled
put-requires-in-Off c = fits-1 (of_form (λ (x : Power). Piece.word (power_word x) ∷ []) c.in-Off.is refl) _ _ c.requires

pub returns-in-Off : goal.returns-in-Off
unfolding further spelled
returns-in-Off c = put_1 (of_form (λ (x : Power). Piece.word (power_word x) ∷ []) c.in-Off.is refl) _ _ _ _ c.put-in-Off.ensures
