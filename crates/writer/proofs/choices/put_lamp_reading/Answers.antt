use mathlib.Core.Path.{refl}
use mathlib.Core.List.{[], ◌∷◌}
use Rattle.tokens.specs.Kind.{POINT}
use Rattle.model.specs.declared.LampReading.{LampReading}
use Rattle.writing.specs.Pieces.{Piece, spelled, spelled_sign, further}
use Rattle.writing.specs.Write.{lamp_reading_word}
use Rattle.spelling.proofs.PutLaws.{fits-1, put_1}
use Rattle.spelling.proofs.FormLaws.{of_form}
use Rattle.writer.proofs.choices.put_lamp_reading.Goals as goal

pub put-requires : goal.put-requires
unfolding further spelled spelled_sign
put-requires c = fits-1 (of_form (λ (x : LampReading). Piece.sign POINT ∷ Piece.word (lamp_reading_word x) ∷ []) c.in-Level.is refl) _ _ c.requires

pub returns-in-Level : goal.returns-in-Level
unfolding further spelled spelled_sign
returns-in-Level c = put_1 (of_form (λ (x : LampReading). Piece.sign POINT ∷ Piece.word (lamp_reading_word x) ∷ []) c.in-Level.is refl) _ _ _ _ c.put.ensures

pub put-requires-in-Cct : goal.put-requires-in-Cct
unfolding further spelled spelled_sign
put-requires-in-Cct c = fits-1 (of_form (λ (x : LampReading). Piece.sign POINT ∷ Piece.word (lamp_reading_word x) ∷ []) c.in-Cct.is refl) _ _ c.requires

pub returns-in-Cct : goal.returns-in-Cct
unfolding further spelled spelled_sign
returns-in-Cct c = put_1 (of_form (λ (x : LampReading). Piece.sign POINT ∷ Piece.word (lamp_reading_word x) ∷ []) c.in-Cct.is refl) _ _ _ _ c.put-in-Cct.ensures

pub put-requires-in-IsOn : goal.put-requires-in-IsOn
unfolding further spelled spelled_sign
put-requires-in-IsOn c = fits-1 (of_form (λ (x : LampReading). Piece.sign POINT ∷ Piece.word (lamp_reading_word x) ∷ []) c.in-IsOn.is refl) _ _ c.requires

pub returns-in-IsOn : goal.returns-in-IsOn
unfolding further spelled spelled_sign
returns-in-IsOn c = put_1 (of_form (λ (x : LampReading). Piece.sign POINT ∷ Piece.word (lamp_reading_word x) ∷ []) c.in-IsOn.is refl) _ _ _ _ c.put-in-IsOn.ensures

pub put-requires-in-LastLevel : goal.put-requires-in-LastLevel
unfolding further spelled spelled_sign
put-requires-in-LastLevel c = fits-1 (of_form (λ (x : LampReading). Piece.sign POINT ∷ Piece.word (lamp_reading_word x) ∷ []) c.in-LastLevel.is refl) _ _ c.requires

pub returns-in-LastLevel : goal.returns-in-LastLevel
unfolding further spelled spelled_sign
returns-in-LastLevel c = put_1 (of_form (λ (x : LampReading). Piece.sign POINT ∷ Piece.word (lamp_reading_word x) ∷ []) c.in-LastLevel.is refl) _ _ _ _ c.put-in-LastLevel.ensures
