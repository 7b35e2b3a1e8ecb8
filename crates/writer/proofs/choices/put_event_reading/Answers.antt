use mathlib.Core.Path.{refl}
use mathlib.Core.List.{[], ◌∷◌}
use Rattle.tokens.specs.Kind.{POINT}
use Rattle.model.specs.declared.EventReading.{EventReading}
use Rattle.writing.specs.Pieces.{Piece, spelled, spelled_sign, further}
use Rattle.writing.specs.Write.{event_reading_word}
use Rattle.spelling.proofs.PutLaws.{fits-1, put_1}
use Rattle.spelling.proofs.FormLaws.{of_form}
use Rattle.writer.proofs.choices.put_event_reading.Goals as goal

pub put-requires : goal.put-requires
unfolding further spelled spelled_sign
put-requires c = fits-1 (of_form (λ (x : EventReading). Piece.sign POINT ∷ Piece.word (event_reading_word x) ∷ []) c.in-Value.is refl) _ _ c.requires

pub returns-in-Value : goal.returns-in-Value
unfolding further spelled spelled_sign
returns-in-Value c = put_1 (of_form (λ (x : EventReading). Piece.sign POINT ∷ Piece.word (event_reading_word x) ∷ []) c.in-Value.is refl) _ _ _ _ c.put.ensures

pub put-requires-in-Device : goal.put-requires-in-Device
unfolding further spelled spelled_sign
put-requires-in-Device c = fits-1 (of_form (λ (x : EventReading). Piece.sign POINT ∷ Piece.word (event_reading_word x) ∷ []) c.in-Device.is refl) _ _ c.requires

pub returns-in-Device : goal.returns-in-Device
unfolding further spelled spelled_sign
returns-in-Device c = put_1 (of_form (λ (x : EventReading). Piece.sign POINT ∷ Piece.word (event_reading_word x) ∷ []) c.in-Device.is refl) _ _ _ _ c.put-in-Device.ensures

pub put-requires-in-Instance : goal.put-requires-in-Instance
unfolding further spelled spelled_sign
put-requires-in-Instance c = fits-1 (of_form (λ (x : EventReading). Piece.sign POINT ∷ Piece.word (event_reading_word x) ∷ []) c.in-Instance.is refl) _ _ c.requires

pub returns-in-Instance : goal.returns-in-Instance
unfolding further spelled spelled_sign
returns-in-Instance c = put_1 (of_form (λ (x : EventReading). Piece.sign POINT ∷ Piece.word (event_reading_word x) ∷ []) c.in-Instance.is refl) _ _ _ _ c.put-in-Instance.ensures

pub put-requires-in-Option : goal.put-requires-in-Option
unfolding further spelled spelled_sign
put-requires-in-Option c = fits-1 (of_form (λ (x : EventReading). Piece.sign POINT ∷ Piece.word (event_reading_word x) ∷ []) c.in-Option.is refl) _ _ c.requires

pub returns-in-Option : goal.returns-in-Option
unfolding further spelled spelled_sign
returns-in-Option c = put_1 (of_form (λ (x : EventReading). Piece.sign POINT ∷ Piece.word (event_reading_word x) ∷ []) c.in-Option.is refl) _ _ _ _ c.put-in-Option.ensures
