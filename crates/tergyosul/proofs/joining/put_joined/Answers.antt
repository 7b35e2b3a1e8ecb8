use mathlib.Core.Path.{◌≡◌}
use lib.ListN.{length, length-set}
use borrow.Author.Rules.{rules}
use Rattle.flat.specs.Flat.{list_rows, first_trigger, first_condition, row_count, row_words}
use Rattle.tergyosul.proofs.JoiningLaws.{unwritten, written}
use Rattle.tergyosul.proofs.joining.put_joined.Goals as goal

pub returns-then-answer-lt-ANSWER_WORDS : goal.returns-then-answer-lt-ANSWER_WORDS
unfolding list_rows first_trigger first_condition row_count row_words
returns-then-answer-lt-ANSWER_WORDS c = unwritten _ _ c.if-answer-lt-ANSWER_WORDS.true

pub bounds-answer : goal.bounds-answer
bounds-answer c = simp length-set (search rules)

pub bounds-answer-2 : goal.bounds-answer-2
bounds-answer-2 c = simp length-set (search rules)

pub bounds-answer-3 : goal.bounds-answer-3
bounds-answer-3 c = simp length-set (search rules)

pub bounds-answer-4 : goal.bounds-answer-4
bounds-answer-4 c = simp length-set (search rules)

pub bounds-answer-5 : goal.bounds-answer-5
bounds-answer-5 c = simp length-set (search rules)

pub shape_of-answer : goal.shape_of-answer
shape_of-answer c = simp length-set (search rules)

pub returns : goal.returns
unfolding list_rows first_trigger first_condition row_count row_words
returns c = let a = c.args in
    let size : length a.j.from ≡ 4 = search rules in
    written a.answer.now a.j c.if-answer-lt-ANSWER_WORDS.false size c.put_answer.ensures c.conditions_from.ensures
