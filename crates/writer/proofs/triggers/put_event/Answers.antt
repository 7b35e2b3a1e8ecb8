use mathlib.Core.Path.{refl}
use Rattle.text.specs.Split.{split}
use Rattle.writing.specs.Pieces.{spelled, further}
use Rattle.writing.specs.Write.{event_pieces}
use Rattle.spelling.proofs.PutLaws.{fits-1, put_1}
use Rattle.spelling.proofs.FormLaws.{of_form}
use Rattle.writer.proofs.triggers.put_event.Goals as goal

pub put-requires : goal.put-requires
unfolding further spelled event_pieces split
put-requires c = fits-1 (of_form event_pieces c.in-Press.is refl) _ _ c.requires

pub returns-in-Press : goal.returns-in-Press
unfolding further spelled event_pieces split
returns-in-Press c = put_1 (of_form event_pieces c.in-Press.is refl) _ _ _ _ c.put.ensures

pub put-requires-in-Release : goal.put-requires-in-Release
unfolding further spelled event_pieces split
put-requires-in-Release c = fits-1 (of_form event_pieces c.in-Release.is refl) _ _ c.requires

pub returns-in-Release : goal.returns-in-Release
unfolding further spelled event_pieces split
returns-in-Release c = put_1 (of_form event_pieces c.in-Release.is refl) _ _ _ _ c.put-in-Release.ensures

pub put-requires-in-ShortPress : goal.put-requires-in-ShortPress
unfolding further spelled event_pieces split
put-requires-in-ShortPress c = fits-1 (of_form event_pieces c.in-ShortPress.is refl) _ _ c.requires

pub returns-in-ShortPress : goal.returns-in-ShortPress
unfolding further spelled event_pieces split
returns-in-ShortPress c = put_1 (of_form event_pieces c.in-ShortPress.is refl) _ _ _ _ c.put-in-ShortPress.ensures

pub put-requires-in-DoublePress : goal.put-requires-in-DoublePress
unfolding further spelled event_pieces split
put-requires-in-DoublePress c = fits-1 (of_form event_pieces c.in-DoublePress.is refl) _ _ c.requires

pub returns-in-DoublePress : goal.returns-in-DoublePress
unfolding further spelled event_pieces split
returns-in-DoublePress c = put_1 (of_form event_pieces c.in-DoublePress.is refl) _ _ _ _ c.put-in-DoublePress.ensures

pub put-requires-in-LongPressStart : goal.put-requires-in-LongPressStart
unfolding further spelled event_pieces split
put-requires-in-LongPressStart c = fits-1 (of_form event_pieces c.in-LongPressStart.is refl) _ _ c.requires

pub returns-in-LongPressStart : goal.returns-in-LongPressStart
unfolding further spelled event_pieces split
returns-in-LongPressStart c = put_1 (of_form event_pieces c.in-LongPressStart.is refl) _ _ _ _ c.put-in-LongPressStart.ensures

pub put-requires-in-LongPressRepeat : goal.put-requires-in-LongPressRepeat
unfolding further spelled event_pieces split
put-requires-in-LongPressRepeat c = fits-1 (of_form event_pieces c.in-LongPressRepeat.is refl) _ _ c.requires

pub returns-in-LongPressRepeat : goal.returns-in-LongPressRepeat
unfolding further spelled event_pieces split
returns-in-LongPressRepeat c = put_1 (of_form event_pieces c.in-LongPressRepeat.is refl) _ _ _ _ c.put-in-LongPressRepeat.ensures

pub put-requires-in-LongPressStop : goal.put-requires-in-LongPressStop
unfolding further spelled event_pieces split
put-requires-in-LongPressStop c = fits-1 (of_form event_pieces c.in-LongPressStop.is refl) _ _ c.requires

pub returns-in-LongPressStop : goal.returns-in-LongPressStop
unfolding further spelled event_pieces split
returns-in-LongPressStop c = put_1 (of_form event_pieces c.in-LongPressStop.is refl) _ _ _ _ c.put-in-LongPressStop.ensures

pub put-requires-in-ButtonFree : goal.put-requires-in-ButtonFree
unfolding further spelled event_pieces split
put-requires-in-ButtonFree c = fits-1 (of_form event_pieces c.in-ButtonFree.is refl) _ _ c.requires

pub returns-in-ButtonFree : goal.returns-in-ButtonFree
unfolding further spelled event_pieces split
returns-in-ButtonFree c = put_1 (of_form event_pieces c.in-ButtonFree.is refl) _ _ _ _ c.put-in-ButtonFree.ensures

pub put-requires-in-ButtonStuck : goal.put-requires-in-ButtonStuck
unfolding further spelled event_pieces split
put-requires-in-ButtonStuck c = fits-1 (of_form event_pieces c.in-ButtonStuck.is refl) _ _ c.requires

pub returns-in-ButtonStuck : goal.returns-in-ButtonStuck
unfolding further spelled event_pieces split
returns-in-ButtonStuck c = put_1 (of_form event_pieces c.in-ButtonStuck.is refl) _ _ _ _ c.put-in-ButtonStuck.ensures

pub put-requires-in-Movement : goal.put-requires-in-Movement
unfolding further spelled event_pieces split
put-requires-in-Movement c = fits-1 (of_form event_pieces c.in-Movement.is refl) _ _ c.requires

pub returns-in-Movement : goal.returns-in-Movement
unfolding further spelled event_pieces split
returns-in-Movement c = put_1 (of_form event_pieces c.in-Movement.is refl) _ _ _ _ c.put-in-Movement.ensures

pub put-requires-in-NoMovement : goal.put-requires-in-NoMovement
unfolding further spelled event_pieces split
put-requires-in-NoMovement c = fits-1 (of_form event_pieces c.in-NoMovement.is refl) _ _ c.requires

pub returns-in-NoMovement : goal.returns-in-NoMovement
unfolding further spelled event_pieces split
returns-in-NoMovement c = put_1 (of_form event_pieces c.in-NoMovement.is refl) _ _ _ _ c.put-in-NoMovement.ensures

pub put-requires-in-AnyEvent : goal.put-requires-in-AnyEvent
unfolding further spelled event_pieces split
put-requires-in-AnyEvent c = fits-1 (of_form event_pieces c.in-AnyEvent.is refl) _ _ c.requires

pub returns-in-AnyEvent : goal.returns-in-AnyEvent
unfolding further spelled event_pieces split
returns-in-AnyEvent c = put_1 (of_form event_pieces c.in-AnyEvent.is refl) _ _ _ _ c.put-in-AnyEvent.ensures

pub raw_event-requires : goal.raw_event-requires
unfolding further spelled event_pieces split
raw_event-requires c = fits-1 (of_form event_pieces c.in-Raw.is refl) _ _ c.requires

pub returns-in-Raw : goal.returns-in-Raw
unfolding further spelled event_pieces split
returns-in-Raw c = put_1 (of_form event_pieces c.in-Raw.is refl) _ _ _ _ c.raw_event.ensures
