use mathlib.Core.Path.{◌∙◌, ap}
use Rattle.model.specs.declared.Answer.{Answer}
use Rattle.flat.specs.Flat.{list_rows, first_trigger, first_condition, row_count, row_words, flat}
use Rattle.flat.proofs.EntryLaws as entries
use Rattle.tergyosul.proofs.RoomLaws.{no_room_lem, room}
use Rattle.tergyosul.proofs.converting.tergyosul_rows.Goals as goal

pub returns-then-answer-lt-ANSWER_WORDS : goal.returns-then-answer-lt-ANSWER_WORDS
unfolding list_rows first_trigger first_condition row_count row_words
returns-then-answer-lt-ANSWER_WORDS c = let short = c.if-answer-lt-ANSWER_WORDS.true in record { number = no_room_lem _ _ _ _ short; answer = entries.no_room_lem _ _ short }

pub returns : goal.returns
unfolding list_rows first_trigger first_condition row_count row_words
returns c = let a = c.args in
    let d = c.convert-a.ensures in
    record { number = room _ _ _ c.if-answer-lt-ANSWER_WORDS.false (ap (λ (x : Answer). x.number) d); answer = c.put_answer.ensures ∙ ap (flat a.answer.now) d }
