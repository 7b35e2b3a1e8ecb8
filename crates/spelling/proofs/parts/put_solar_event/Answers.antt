use mathlib.Core.Path.{refl}
use mathlib.Core.List.{[], ◌∷◌}
use Rattle.model.specs.declared.SolarEvent.{SolarEvent}
use Rattle.writing.specs.Pieces.{Piece, spelled, further}
use Rattle.writing.specs.Write.{solar_word}
use Rattle.spelling.proofs.PutLaws.{fits-1, put_1}
use Rattle.spelling.proofs.FormLaws.{of_form}
use Rattle.spelling.proofs.parts.put_solar_event.Goals as goal

pub put-requires : goal.put-requires
unfolding further spelled
put-requires c = fits-1 (of_form (λ (x : SolarEvent). Piece.word (solar_word x) ∷ []) c.in-Sunrise.is refl) _ _ c.requires

pub returns-in-Sunrise : goal.returns-in-Sunrise
unfolding further spelled
returns-in-Sunrise c = put_1 (of_form (λ (x : SolarEvent). Piece.word (solar_word x) ∷ []) c.in-Sunrise.is refl) _ _ _ _ c.put.ensures

pub put-requires-in-Sunset : goal.put-requires-in-Sunset
unfolding further spelled
put-requires-in-Sunset c = fits-1 (of_form (λ (x : SolarEvent). Piece.word (solar_word x) ∷ []) c.in-Sunset.is refl) _ _ c.requires

pub returns-in-Sunset : goal.returns-in-Sunset
unfolding further spelled
returns-in-Sunset c = put_1 (of_form (λ (x : SolarEvent). Piece.word (solar_word x) ∷ []) c.in-Sunset.is refl) _ _ _ _ c.put-in-Sunset.ensures
