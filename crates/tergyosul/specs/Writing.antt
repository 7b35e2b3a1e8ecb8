-- Writing out, for callers in C and Rust: the two lists that the words of an answer have, and the answer as words (include/tergyosul.h).
use Rattle.std.specs.Prelude.{ℕ, ◌+◌, ◌*◌, List, [], ◌∷◌, drop, eqb}
use Rattle.std.proofs.lemmas.List.Edits.{sets}
use Rattle.text.specs.Choice.{pick}
use Rattle.model.specs.declared.Condition.{Condition}
use Rattle.model.specs.declared.Trigger.{Trigger}
use Rattle.flat.specs.Flat.{row_words, first_trigger, first_condition, whole_row}
use Rattle.flat.specs.Back.{word, trigger_back, condition_back}
use Rattle.back.specs.Rows.{is_trigger_row, is_condition_row}
use Rattle.writing.specs.declared.ConditionFrom.{ConditionFrom}
use Rattle.writing.specs.declared.ConditionsFrom.{ConditionsFrom}
use Rattle.writing.specs.declared.Lists.{Lists}
use Rattle.writing.specs.declared.TriggerFrom.{TriggerFrom}
use Rattle.writing.specs.declared.TriggersFrom.{TriggersFrom}
use Rattle.writing.specs.declared.Written.{Written}
use Rattle.tergyosul.specs.Joining.{which_word}
use Rattle.tergyosul.specs.Room.{by_room}

-- ---- the lists

-- an entry whose names stand in a text, from its row; of words that are no entry's row one that stands in no text, which is refused with 55
unfoldable pub trigger_from : ℕ → List ℕ → TriggerFrom
trigger_from from row =
    pick (is_trigger_row row) (record { from = from; trigger = trigger_back row }) (record { from = 0; trigger = Trigger.HttpTrigger })

unfoldable pub condition_from : ℕ → List ℕ → ConditionFrom
condition_from from row =
    pick (is_condition_row row) (record { from = from; condition = condition_back row }) (record { from = 0; condition = Condition.ControllerActive })

-- a row of an answer; words past the answer's end count as 0
unfoldable pub row_in : List ℕ → ℕ → List ℕ
row_in words row = whole_row (drop (row * row_words) words)

-- the text that a word of row 0 names; 0, as an answer of a reading has it, counts as the first
unfoldable pub text_said : ℕ → ℕ
text_said n = pick (eqb n 0) 1 n

unfoldable pub trigger_in : List ℕ → ℕ → TriggerFrom
trigger_in words i = trigger_from (text_said (word words (which_word + 1 + i))) (row_in words (first_trigger + i))

unfoldable pub condition_in : List ℕ → ℕ → ConditionFrom
condition_in words i = condition_from (text_said (word words (which_word + 5))) (row_in words (first_condition + i))

-- all four rows, whatever the count: "Rows past a count are not looked at"
unfoldable pub triggers_in : List ℕ → TriggersFrom
triggers_in words =
    record { rows = trigger_in words 0 ∷ trigger_in words 1 ∷ trigger_in words 2 ∷ trigger_in words 3 ∷ []; count = word words 4 }

unfoldable pub conditions_in : List ℕ → ConditionsFrom
conditions_in words =
    record { rows = condition_in words 0 ∷ condition_in words 1 ∷ condition_in words 2 ∷ condition_in words 3 ∷ []; count = word words 5 }

unfoldable pub lists_in : List ℕ → Lists
lists_in words = record { triggers = triggers_in words; conditions = conditions_in words }

-- ---- the answer

-- "TERGYOSUL_WRITE_WORDS": number, line, column, detail, and how many bytes are written
abbrev pub write_answer_words : ℕ
write_answer_words = 5

-- these at the front of the lent ones, whose others stay; all are unchanged where there is no room
unfoldable pub written_flat : Written → List ℕ → List ℕ
written_flat w answer =
    by_room write_answer_words answer answer (sets answer 0 (w.number ∷ w.line ∷ w.column ∷ w.detail ∷ w.length ∷ []))
