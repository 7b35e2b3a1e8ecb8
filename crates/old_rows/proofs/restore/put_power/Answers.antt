use Rattle.model.specs.declared.Power.{Power}
use Rattle.old_rows.specs.declared.row.Change.TheVariants.{Lamp}
use mathlib.Core.Path.{refl}
use Rattle.old_rows.specs.Back.{change_word}
use Rattle.spelling.proofs.PutLaws.{fits-1, put_1}
use Rattle.old_rows.proofs.PutLaws.{word-form}
use Rattle.old_rows.proofs.restore.put_power.Goals as goal

pub put-requires : goal.put-requires
unfolding change_word
put-requires c = fits-1 (word-form (λ (x : Power). change_word (Lamp x)) c.in-On.is refl) _ _ c.requires

pub returns-in-On : goal.returns-in-On
unfolding change_word
returns-in-On c = put_1 (word-form (λ (x : Power). change_word (Lamp x)) c.in-On.is refl) _ _ _ _ c.put.ensures

pub put-requires-in-Off : goal.put-requires-in-Off
unfolding change_word
put-requires-in-Off c = fits-1 (word-form (λ (x : Power). change_word (Lamp x)) c.in-Off.is refl) _ _ c.requires

pub returns-in-Off : goal.returns-in-Off
unfolding change_word
returns-in-Off c = put_1 (word-form (λ (x : Power). change_word (Lamp x)) c.in-Off.is refl) _ _ _ _ c.put-in-Off.ensures
