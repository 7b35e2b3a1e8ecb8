use mathlib.Core.Path.{refl}
use mathlib.Core.List.{[], ◌∷◌}
use Rattle.tokens.specs.Kind.{POINT}
use Rattle.model.specs.declared.GroupReading.{GroupReading}
use Rattle.writing.specs.Pieces.{Piece, spelled, spelled_sign, further}
use Rattle.writing.specs.Write.{group_reading_word}
use Rattle.spelling.proofs.PutLaws.{fits-1, put_1}
use Rattle.spelling.proofs.FormLaws.{of_form}
use Rattle.writer.proofs.choices.put_group_reading.Goals as goal

pub put-requires : goal.put-requires
unfolding further spelled spelled_sign
put-requires c = fits-1 (of_form (λ (x : GroupReading). Piece.sign POINT ∷ Piece.word (group_reading_word x) ∷ []) c.in-AnyOn.is refl) _ _ c.requires

pub returns-in-AnyOn : goal.returns-in-AnyOn
unfolding further spelled spelled_sign
returns-in-AnyOn c = put_1 (of_form (λ (x : GroupReading). Piece.sign POINT ∷ Piece.word (group_reading_word x) ∷ []) c.in-AnyOn.is refl) _ _ _ _ c.put.ensures

pub put-requires-in-AllOff : goal.put-requires-in-AllOff
unfolding further spelled spelled_sign
put-requires-in-AllOff c = fits-1 (of_form (λ (x : GroupReading). Piece.sign POINT ∷ Piece.word (group_reading_word x) ∷ []) c.in-AllOff.is refl) _ _ c.requires

pub returns-in-AllOff : goal.returns-in-AllOff
unfolding further spelled spelled_sign
returns-in-AllOff c = put_1 (of_form (λ (x : GroupReading). Piece.sign POINT ∷ Piece.word (group_reading_word x) ∷ []) c.in-AllOff.is refl) _ _ _ _ c.put-in-AllOff.ensures

pub put-requires-in-MemberCount : goal.put-requires-in-MemberCount
unfolding further spelled spelled_sign
put-requires-in-MemberCount c = fits-1 (of_form (λ (x : GroupReading). Piece.sign POINT ∷ Piece.word (group_reading_word x) ∷ []) c.in-MemberCount.is refl) _ _ c.requires

pub returns-in-MemberCount : goal.returns-in-MemberCount
unfolding further spelled spelled_sign
returns-in-MemberCount c = put_1 (of_form (λ (x : GroupReading). Piece.sign POINT ∷ Piece.word (group_reading_word x) ∷ []) c.in-MemberCount.is refl) _ _ _ _ c.put-in-MemberCount.ensures
