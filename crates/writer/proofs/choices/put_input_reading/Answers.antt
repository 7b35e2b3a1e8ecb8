use mathlib.Core.Path.{refl}
use mathlib.Core.List.{[], ◌∷◌}
use Rattle.tokens.specs.Kind.{POINT}
use Rattle.model.specs.declared.InputReading.{InputReading}
use Rattle.writing.specs.Pieces.{Piece, spelled, spelled_sign, further}
use Rattle.writing.specs.Write.{input_reading_word}
use Rattle.spelling.proofs.PutLaws.{fits-1, put_1}
use Rattle.spelling.proofs.FormLaws.{of_form}
use Rattle.writer.proofs.choices.put_input_reading.Goals as goal

pub put-requires : goal.put-requires
unfolding further spelled spelled_sign
put-requires c = fits-1 (of_form (λ (x : InputReading). Piece.sign POINT ∷ Piece.word (input_reading_word x) ∷ []) c.in-Occupied.is refl) _ _ c.requires

pub returns-in-Occupied : goal.returns-in-Occupied
unfolding further spelled spelled_sign
returns-in-Occupied c = put_1 (of_form (λ (x : InputReading). Piece.sign POINT ∷ Piece.word (input_reading_word x) ∷ []) c.in-Occupied.is refl) _ _ _ _ c.put.ensures

pub put-requires-in-Light : goal.put-requires-in-Light
unfolding further spelled spelled_sign
put-requires-in-Light c = fits-1 (of_form (λ (x : InputReading). Piece.sign POINT ∷ Piece.word (input_reading_word x) ∷ []) c.in-Light.is refl) _ _ c.requires

pub returns-in-Light : goal.returns-in-Light
unfolding further spelled spelled_sign
returns-in-Light c = put_1 (of_form (λ (x : InputReading). Piece.sign POINT ∷ Piece.word (input_reading_word x) ∷ []) c.in-Light.is refl) _ _ _ _ c.put-in-Light.ensures

pub put-requires-in-Position : goal.put-requires-in-Position
unfolding further spelled spelled_sign
put-requires-in-Position c = fits-1 (of_form (λ (x : InputReading). Piece.sign POINT ∷ Piece.word (input_reading_word x) ∷ []) c.in-Position.is refl) _ _ c.requires

pub returns-in-Position : goal.returns-in-Position
unfolding further spelled spelled_sign
returns-in-Position c = put_1 (of_form (λ (x : InputReading). Piece.sign POINT ∷ Piece.word (input_reading_word x) ∷ []) c.in-Position.is refl) _ _ _ _ c.put-in-Position.ensures

pub put-requires-in-LastEventAge : goal.put-requires-in-LastEventAge
unfolding further spelled spelled_sign
put-requires-in-LastEventAge c = fits-1 (of_form (λ (x : InputReading). Piece.sign POINT ∷ Piece.word (input_reading_word x) ∷ []) c.in-LastEventAge.is refl) _ _ c.requires

pub returns-in-LastEventAge : goal.returns-in-LastEventAge
unfolding further spelled spelled_sign
returns-in-LastEventAge c = put_1 (of_form (λ (x : InputReading). Piece.sign POINT ∷ Piece.word (input_reading_word x) ∷ []) c.in-LastEventAge.is refl) _ _ _ _ c.put-in-LastEventAge.ensures
