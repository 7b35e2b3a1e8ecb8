use mathlib.Core.Path.{refl}
use mathlib.Core.List.{[], ◌∷◌}
use Rattle.tokens.specs.Kind.{POINT}
use Rattle.model.specs.declared.SunReading.{SunReading}
use Rattle.writing.specs.Pieces.{Piece, spelled, spelled_sign, further}
use Rattle.writing.specs.Write.{sun_reading_word}
use Rattle.spelling.proofs.PutLaws.{fits-1, put_1}
use Rattle.spelling.proofs.FormLaws.{of_form}
use Rattle.writer.proofs.choices.put_sun_reading.Goals as goal

pub put-requires : goal.put-requires
unfolding further spelled spelled_sign
put-requires c = fits-1 (of_form (λ (x : SunReading). Piece.sign POINT ∷ Piece.word (sun_reading_word x) ∷ []) c.in-Rise.is refl) _ _ c.requires

pub returns-in-Rise : goal.returns-in-Rise
unfolding further spelled spelled_sign
returns-in-Rise c = put_1 (of_form (λ (x : SunReading). Piece.sign POINT ∷ Piece.word (sun_reading_word x) ∷ []) c.in-Rise.is refl) _ _ _ _ c.put.ensures

pub put-requires-in-Set : goal.put-requires-in-Set
unfolding further spelled spelled_sign
put-requires-in-Set c = fits-1 (of_form (λ (x : SunReading). Piece.sign POINT ∷ Piece.word (sun_reading_word x) ∷ []) c.in-Set.is refl) _ _ c.requires

pub returns-in-Set : goal.returns-in-Set
unfolding further spelled spelled_sign
returns-in-Set c = put_1 (of_form (λ (x : SunReading). Piece.sign POINT ∷ Piece.word (sun_reading_word x) ∷ []) c.in-Set.is refl) _ _ _ _ c.put-in-Set.ensures

pub put-requires-in-IsUp : goal.put-requires-in-IsUp
unfolding further spelled spelled_sign
put-requires-in-IsUp c = fits-1 (of_form (λ (x : SunReading). Piece.sign POINT ∷ Piece.word (sun_reading_word x) ∷ []) c.in-IsUp.is refl) _ _ c.requires

pub returns-in-IsUp : goal.returns-in-IsUp
unfolding further spelled spelled_sign
returns-in-IsUp c = put_1 (of_form (λ (x : SunReading). Piece.sign POINT ∷ Piece.word (sun_reading_word x) ∷ []) c.in-IsUp.is refl) _ _ _ _ c.put-in-IsUp.ensures
