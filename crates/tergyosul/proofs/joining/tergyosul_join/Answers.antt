use mathlib.Core.Path.{◌≡◌, ◌∙◌, ap}
use borrow.Author.Rules.{rules}
use Rattle.topics.specs.Topics.{lent_topics}
use Rattle.join.specs.Join.{join_of}
use Rattle.join.specs.declared.Joined.{Joined}
use Rattle.flat.specs.Flat.{list_rows, first_trigger, first_condition, row_count, row_words}
use Rattle.tergyosul.specs.Joining.{flat_joined}
use Rattle.tergyosul.proofs.RoomLaws.{no_room_lem, room}
use Rattle.tergyosul.proofs.JoiningLaws.{unwritten}
use Rattle.tergyosul.proofs.joining.tergyosul_join.Goals as goal

pub returns-then-answer-lt-ANSWER_WORDS : goal.returns-then-answer-lt-ANSWER_WORDS
unfolding list_rows first_trigger first_condition row_count row_words
returns-then-answer-lt-ANSWER_WORDS c = let short = c.if-answer-lt-ANSWER_WORDS.true in record { number = no_room_lem _ _ _ _ short; first = no_room_lem _ _ _ _ short; second = no_room_lem _ _ _ _ short; answer = unwritten _ _ short }

pub returns : goal.returns
unfolding list_rows first_trigger first_condition row_count row_words
returns c = let a = c.args in
    let x = join_of a.party a.primary a.first.now a.second.now a.sheet.now (lent_topics a.lent.now) a.words.now a.others.now in
    let d : c.join-j.result ≡ x.joined = search rules in
    let long = c.if-answer-lt-ANSWER_WORDS.false in
    record { number = room _ _ _ long (ap (λ (j : Joined). j.answer.number) d); first = room _ _ _ long (search rules); second = room _ _ _ long (search rules); answer = c.put_joined.ensures ∙ ap (flat_joined a.answer.now) d }
