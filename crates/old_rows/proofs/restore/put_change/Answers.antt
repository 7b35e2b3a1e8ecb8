use mathlib.Core.Path.{refl}
use Rattle.old_rows.specs.Back.{change_word}
use Rattle.spelling.proofs.PutLaws.{fits-1, put_1}
use Rattle.old_rows.proofs.PutLaws.{word-form}
use Rattle.old_rows.proofs.restore.put_change.Goals as goal

pub put-requires : goal.put-requires
unfolding change_word
put-requires c = fits-1 (word-form change_word c.in-Unknown.is refl) _ _ c.requires

pub returns-in-Unknown : goal.returns-in-Unknown
unfolding change_word
returns-in-Unknown c = put_1 (word-form change_word c.in-Unknown.is refl) _ _ _ _ c.put.ensures
