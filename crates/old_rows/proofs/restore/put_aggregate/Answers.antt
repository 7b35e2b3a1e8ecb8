use Rattle.model.specs.declared.Aggregate.{Aggregate}
use Rattle.old_rows.specs.declared.row.Change.TheVariants.{Group}
use mathlib.Core.Path.{refl}
use Rattle.old_rows.specs.Back.{change_word}
use Rattle.spelling.proofs.PutLaws.{fits-1, put_1}
use Rattle.old_rows.proofs.PutLaws.{word-form}
use Rattle.old_rows.proofs.restore.put_aggregate.Goals as goal

pub put-requires : goal.put-requires
unfolding change_word
put-requires c = fits-1 (word-form (λ (x : Aggregate). change_word (Group x)) c.in-AnyOn.is refl) _ _ c.requires

pub returns-in-AnyOn : goal.returns-in-AnyOn
unfolding change_word
returns-in-AnyOn c = put_1 (word-form (λ (x : Aggregate). change_word (Group x)) c.in-AnyOn.is refl) _ _ _ _ c.put.ensures

pub put-requires-in-AllOff : goal.put-requires-in-AllOff
unfolding change_word
put-requires-in-AllOff c = fits-1 (word-form (λ (x : Aggregate). change_word (Group x)) c.in-AllOff.is refl) _ _ c.requires

pub returns-in-AllOff : goal.returns-in-AllOff
unfolding change_word
returns-in-AllOff c = put_1 (word-form (λ (x : Aggregate). change_word (Group x)) c.in-AllOff.is refl) _ _ _ _ c.put-in-AllOff.ensures
