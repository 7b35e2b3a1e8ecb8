use Rattle.model.specs.declared.Online.{Online}
use Rattle.old_rows.specs.declared.row.Change.TheVariants.{Device}
use mathlib.Core.Path.{refl}
use Rattle.old_rows.specs.Back.{change_word}
use Rattle.spelling.proofs.PutLaws.{fits-1, put_1}
use Rattle.old_rows.proofs.PutLaws.{word-form}
use Rattle.old_rows.proofs.restore.put_online.Goals as goal

pub put-requires : goal.put-requires
unfolding change_word
put-requires c = fits-1 (word-form (λ (x : Online). change_word (Device x)) c.in-GoesOffline.is refl) _ _ c.requires

pub returns-in-GoesOffline : goal.returns-in-GoesOffline
unfolding change_word
returns-in-GoesOffline c = put_1 (word-form (λ (x : Online). change_word (Device x)) c.in-GoesOffline.is refl) _ _ _ _ c.put.ensures

pub put-requires-in-ComesOnline : goal.put-requires-in-ComesOnline
unfolding change_word
put-requires-in-ComesOnline c = fits-1 (word-form (λ (x : Online). change_word (Device x)) c.in-ComesOnline.is refl) _ _ c.requires

pub returns-in-ComesOnline : goal.returns-in-ComesOnline
unfolding change_word
returns-in-ComesOnline c = put_1 (word-form (λ (x : Online). change_word (Device x)) c.in-ComesOnline.is refl) _ _ _ _ c.put-in-ComesOnline.ensures
