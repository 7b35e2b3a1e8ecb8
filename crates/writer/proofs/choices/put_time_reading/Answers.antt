use mathlib.Core.Path.{refl}
use mathlib.Core.List.{[], ◌∷◌}
use Rattle.tokens.specs.Kind.{POINT}
use Rattle.model.specs.declared.TimeReading.{TimeReading}
use Rattle.writing.specs.Pieces.{Piece, spelled, spelled_sign, further}
use Rattle.writing.specs.Write.{time_reading_word}
use Rattle.spelling.proofs.PutLaws.{fits-1, put_1}
use Rattle.spelling.proofs.FormLaws.{of_form}
use Rattle.writer.proofs.choices.put_time_reading.Goals as goal

pub put-requires : goal.put-requires
unfolding further spelled spelled_sign
put-requires c = fits-1 (of_form (λ (x : TimeReading). Piece.sign POINT ∷ Piece.word (time_reading_word x) ∷ []) c.in-Now.is refl) _ _ c.requires

pub returns-in-Now : goal.returns-in-Now
unfolding further spelled spelled_sign
returns-in-Now c = put_1 (of_form (λ (x : TimeReading). Piece.sign POINT ∷ Piece.word (time_reading_word x) ∷ []) c.in-Now.is refl) _ _ _ _ c.put.ensures

pub put-requires-in-Hour : goal.put-requires-in-Hour
unfolding further spelled spelled_sign
put-requires-in-Hour c = fits-1 (of_form (λ (x : TimeReading). Piece.sign POINT ∷ Piece.word (time_reading_word x) ∷ []) c.in-Hour.is refl) _ _ c.requires

pub returns-in-Hour : goal.returns-in-Hour
unfolding further spelled spelled_sign
returns-in-Hour c = put_1 (of_form (λ (x : TimeReading). Piece.sign POINT ∷ Piece.word (time_reading_word x) ∷ []) c.in-Hour.is refl) _ _ _ _ c.put-in-Hour.ensures

pub put-requires-in-Minute : goal.put-requires-in-Minute
unfolding further spelled spelled_sign
put-requires-in-Minute c = fits-1 (of_form (λ (x : TimeReading). Piece.sign POINT ∷ Piece.word (time_reading_word x) ∷ []) c.in-Minute.is refl) _ _ c.requires

pub returns-in-Minute : goal.returns-in-Minute
unfolding further spelled spelled_sign
returns-in-Minute c = put_1 (of_form (λ (x : TimeReading). Piece.sign POINT ∷ Piece.word (time_reading_word x) ∷ []) c.in-Minute.is refl) _ _ _ _ c.put-in-Minute.ensures

pub put-requires-in-Weekday : goal.put-requires-in-Weekday
unfolding further spelled spelled_sign
put-requires-in-Weekday c = fits-1 (of_form (λ (x : TimeReading). Piece.sign POINT ∷ Piece.word (time_reading_word x) ∷ []) c.in-Weekday.is refl) _ _ c.requires

pub returns-in-Weekday : goal.returns-in-Weekday
unfolding further spelled spelled_sign
returns-in-Weekday c = put_1 (of_form (λ (x : TimeReading). Piece.sign POINT ∷ Piece.word (time_reading_word x) ∷ []) c.in-Weekday.is refl) _ _ _ _ c.put-in-Weekday.ensures
