use mathlib.Core.Path.{refl}
use Rattle.old_rows.specs.Back.{kind_word}
use Rattle.spelling.proofs.PutLaws.{fits-1, put_1}
use Rattle.old_rows.proofs.PutLaws.{word-form}
use Rattle.old_rows.proofs.restore.put_kind.Goals as goal

pub put-requires : goal.put-requires
unfolding kind_word
put-requires c = fits-1 (word-form kind_word c.in-Lamp.is refl) _ _ c.requires

pub returns-in-Lamp : goal.returns-in-Lamp
unfolding kind_word
returns-in-Lamp c = put_1 (word-form kind_word c.in-Lamp.is refl) _ _ _ _ c.put.ensures

pub put-requires-in-Group : goal.put-requires-in-Group
unfolding kind_word
put-requires-in-Group c = fits-1 (word-form kind_word c.in-Group.is refl) _ _ c.requires

pub returns-in-Group : goal.returns-in-Group
unfolding kind_word
returns-in-Group c = put_1 (word-form kind_word c.in-Group.is refl) _ _ _ _ c.put-in-Group.ensures

pub put-requires-in-Device : goal.put-requires-in-Device
unfolding kind_word
put-requires-in-Device c = fits-1 (word-form kind_word c.in-Device.is refl) _ _ c.requires

pub returns-in-Device : goal.returns-in-Device
unfolding kind_word
returns-in-Device c = put_1 (word-form kind_word c.in-Device.is refl) _ _ _ _ c.put-in-Device.ensures

pub returns-in-Unknown : goal.returns-in-Unknown
unfolding kind_word
returns-in-Unknown c = put_1 (word-form kind_word c.in-Unknown.is refl) _ _ _ _ c.put-in-Unknown.ensures
