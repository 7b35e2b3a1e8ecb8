use mathlib.Core.Path.{refl, ◌∙◌}
use borrow.Author.Rules.{rules}
use Rattle.flat.specs.Flat.{row_words, row_count, first_condition, first_trigger, list_rows}
use Rattle.tergyosul.specs.Writing.{row_in}
use Rattle.tergyosul.proofs.WritingLaws.{one-filled, all-filled, row-length, row_word}
use Rattle.tergyosul.proofs.lists.row_in.Goals as goal

pub loop-i-init : goal.loop-i-init
unfolding row_words row_count first_condition first_trigger list_rows
loop-i-init c = (refl, refl)

pub word_in-requires : goal.word_in-requires
unfolding row_words row_count first_condition first_trigger list_rows
word_in-requires c = search rules

pub offset_bounds-out-i : goal.offset_bounds-out-i
unfolding row_words row_count first_condition first_trigger list_rows
offset_bounds-out-i c = search rules

pub loop-i-preserved : goal.loop-i-preserved
unfolding row_words
loop-i-preserved c = let a = c.args in
    let l = c.loop-i in
    let all = row_in a.words.now a.row in
    let there = c.word_in.ensures ∙ row_word a.words.now a.row l.i (search rules) in
    (search rules, one-filled all l.out l.i (row-length _ _) l.invariant.0 l.invariant.1 0 (search rules) there)

pub returns : goal.returns
unfolding row_words
returns c = let a = c.args in
    let l = c.loop-i in
    all-filled (row_in a.words.now a.row) l.out l.i (row-length _ _) l.invariant.0 l.invariant.1 (search rules)

pub overflow_mul-at : goal.overflow_mul-at
unfolding row_words row_count first_condition first_trigger list_rows
overflow_mul-at c = search rules

pub overflow_add-at : goal.overflow_add-at
unfolding row_words row_count first_condition first_trigger list_rows
overflow_add-at c = search rules
