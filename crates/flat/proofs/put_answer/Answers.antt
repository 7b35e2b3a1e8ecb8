use borrow.Author.Rules.{rules}
use native.Mathlib.Omega.{arith}
use Rattle.flat.specs.Flat.{list_rows, first_trigger, first_condition, row_count, row_words}
use Rattle.flat.proofs.EntryLaws.{no_room_lem, all-rows}
use Rattle.flat.proofs.put_answer.Goals as goal

pub returns-then-out-lt-ANSWER_WORDS : goal.returns-then-out-lt-ANSWER_WORDS
unfolding list_rows first_trigger first_condition row_count row_words
returns-then-out-lt-ANSWER_WORDS c = search (rules, no_room_lem)

pub returns : goal.returns
unfolding list_rows first_trigger first_condition row_count row_words
returns c = all-rows _ c.args.a _ _ (omega arith) c.head_row.ensures c.put_row.ensures c.put_rows.ensures c.trigger_row.ensures c.trigger_row-2.ensures c.trigger_row-3.ensures c.trigger_row-4.ensures c.put_rows-2.ensures c.condition_row.ensures c.condition_row-2.ensures c.condition_row-3.ensures c.condition_row-4.ensures
