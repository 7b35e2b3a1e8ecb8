use mathlib.Core.Path.{◌∙◌, ap}
use Rattle.writing.specs.declared.Written.{Written}
use Rattle.tergyosul.specs.Writing.{written_flat}
use Rattle.tergyosul.proofs.RoomLaws.{no_room_lem, room}
use Rattle.tergyosul.proofs.WritingLaws.{unwritten}
use Rattle.tergyosul.proofs.converting.tergyosul_rows_back.Goals as goal

pub returns-then-answer-lt-WRITE_WORDS : goal.returns-then-answer-lt-WRITE_WORDS
returns-then-answer-lt-WRITE_WORDS c = let short = c.if-answer-lt-WRITE_WORDS.true in record { number = no_room_lem _ _ _ _ short; rows = no_room_lem _ _ _ _ short; answer = unwritten _ _ short }

pub returns : goal.returns
returns c = let long = c.if-answer-lt-WRITE_WORDS.false in
    let a = c.args in
    let d = c.back-w.ensures in
    record { number = room _ _ _ long (ap (λ (w : Written). w.number) d.value); rows = room _ _ _ long d.rows; answer = c.put_written.ensures ∙ ap (λ (w : Written). written_flat w a.answer.now) d.value }
