use mathlib.Core.Path.{◌≡◌, ◌∙◌, ap}
use borrow.Author.Rules.{rules}
use Rattle.writing.specs.declared.Lists.{Lists}
use Rattle.writing.specs.declared.Written.{Written}
use Rattle.writing.specs.Writing.{Outcome, write_of}
use Rattle.tergyosul.specs.Writing.{lists_in, written_flat}
use Rattle.tergyosul.proofs.RoomLaws.{no_room_lem, room}
use Rattle.tergyosul.proofs.WritingLaws.{unwritten}
use Rattle.tergyosul.proofs.written.tergyosul_write.Goals as goal

pub returns-then-answer-lt-WRITE_WORDS : goal.returns-then-answer-lt-WRITE_WORDS
returns-then-answer-lt-WRITE_WORDS c = let short = c.if-answer-lt-WRITE_WORDS.true in record { number = no_room_lem _ _ _ _ short; text = no_room_lem _ _ _ _ short; answer = unwritten _ _ short }

pub returns : goal.returns
returns c = let a = c.args in
    let of : Lists → Outcome = λ l. write_of a.party a.primary a.first.now a.second.now a.sheet.now l a.out.now in
    let l : c.lists_in-l.result ≡ lists_in a.lists.now = search rules in
    let d = c.write-w.ensures.value ∙ ap (λ (k : Lists). (of k).answer) l in
    let b = c.write-w.ensures.buffer ∙ ap (λ (k : Lists). (of k).buffer) l in
    let long = c.if-answer-lt-WRITE_WORDS.false in
    record { number = room _ _ _ long (ap (λ (w : Written). w.number) d); text = room _ _ _ long b; answer = c.put_written.ensures ∙ ap (λ (w : Written). written_flat w a.answer.now) d }
