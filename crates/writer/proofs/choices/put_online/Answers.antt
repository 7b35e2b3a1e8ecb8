use mathlib.Core.Path.{refl}
use Rattle.text.specs.Split.{split}
use Rattle.model.specs.declared.Online.{Online}
use Rattle.writing.specs.Pieces.{spelled, words, further}
use Rattle.writing.specs.Write.{online_words}
use Rattle.spelling.proofs.PutLaws.{fits-1, put_1}
use Rattle.spelling.proofs.FormLaws.{of_form}
use Rattle.writer.proofs.choices.put_online.Goals as goal

pub put-requires : goal.put-requires
unfolding further spelled split
put-requires c = fits-1 (of_form (λ (x : Online). words (online_words x)) c.in-GoesOffline.is refl) _ _ c.requires

pub returns-in-GoesOffline : goal.returns-in-GoesOffline
unfolding further spelled split
returns-in-GoesOffline c = put_1 (of_form (λ (x : Online). words (online_words x)) c.in-GoesOffline.is refl) _ _ _ _ c.put.ensures

pub put-requires-in-ComesOnline : goal.put-requires-in-ComesOnline
unfolding further spelled split
put-requires-in-ComesOnline c = fits-1 (of_form (λ (x : Online). words (online_words x)) c.in-ComesOnline.is refl) _ _ c.requires

pub returns-in-ComesOnline : goal.returns-in-ComesOnline
unfolding further spelled split
returns-in-ComesOnline c = put_1 (of_form (λ (x : Online). words (online_words x)) c.in-ComesOnline.is refl) _ _ _ _ c.put-in-ComesOnline.ensures
