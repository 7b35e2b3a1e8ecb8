-- The whole call: what it answers, and every byte of the buffer at exit (document 02, §7), as one function of the party and its primary adapter, the two
-- texts in which names stand, the sheet, the lists and the buffer.
use Rattle.std.specs.Prelude.{ℕ, ◌+◌, List, [], ◌∷◌, ◌++◌, map, Bool, true, false, length, take, drop, ltb, leb, eqb}
use Rattle.text.specs.Choice.{pick, within}
use Rattle.text.specs.Literal.{ascii}
use Rattle.sheet.specs.Sheet.{Sheet, well_formed, bad_line_rule, sheet_check}
use Rattle.sheet.specs.View.{View, seen, own_primary}
use Rattle.topics.specs.Ranges.{name_in}
use Rattle.language.specs.Limits.{most_triggers, most_ands}
use Rattle.language.specs.Read.{rule_call}
use Rattle.writing.specs.Pieces.{Piece, spaced}
use Rattle.writing.specs.Write.{trigger_pieces, condition_pieces}
use Rattle.writing.specs.Possible.{possible_trigger, possible_condition}
use Rattle.writing.specs.Reached.{reached_trigger, reached_condition}
use Rattle.writing.specs.declared.TriggerFrom.{TriggerFrom}
use Rattle.writing.specs.declared.ConditionFrom.{ConditionFrom}
use Rattle.writing.specs.declared.Lists.{Lists}
use Rattle.writing.specs.declared.Written.{Written}

-- "It refuses a buffer under 4,096 bytes with 54"
abbrev pub least_bytes : ℕ
least_bytes = 4096

-- ---- the text

-- each entry behind a word
unfoldable pub behind_each : List ℕ → List (List Piece) → List Piece
behind_each w [] = []
behind_each w (ps ∷ pss) = Piece.word w ∷ ps ++ behind_each w pss

-- "Text: one to four `when` TRIGGER, then perhaps `if` CONDITION with up to three `and` CONDITION."
unfoldable pub if_pieces : List (List Piece) → List Piece
if_pieces [] = []
if_pieces (ps ∷ pss) = Piece.word (ascii "if") ∷ ps ++ behind_each (ascii "and") pss

unfoldable pub rule_pieces : List (List Piece) → List (List Piece) → List Piece
rule_pieces triggers conditions = behind_each (ascii "when") triggers ++ if_pieces conditions

-- ---- the lists

-- those in use: "Rows past a count are not looked at"
abbrev pub triggers_in : Lists → List TriggerFrom
triggers_in l = take l.triggers.count l.triggers.rows

abbrev pub conditions_in : Lists → List ConditionFrom
conditions_in l = take l.conditions.count l.conditions.rows

-- "a count of triggers or conditions out of bounds"
unfoldable pub possible_counts : Lists → Bool
possible_counts l = pick (within 1 most_triggers l.triggers.count) (leb l.conditions.count (most_ands + 1)) false

-- "with the texts of their names": the first or the second
unfoldable pub is_text : ℕ → Bool
is_text from = pick (eqb from 1) true (eqb from 2)

-- the ordinal of the first that fails a test, from k on; 0 where all pass
unfoldable pub failing : {A : Type 0} → (A → Bool) → ℕ → List A → ℕ
failing test k [] = 0
failing test k (x ∷ xs) = pick (test x) (failing test (k + 1) xs) k

-- "the line is the first such entry's ordinal, triggers first"
unfoldable pub first_failing : (TriggerFrom → Bool) → (ConditionFrom → Bool) → Lists → ℕ
first_failing trigger condition l =
    pick (eqb (failing trigger 1 (triggers_in l)) 0)
    (failing condition (l.triggers.count + 1) (conditions_in l))
    (failing trigger 1 (triggers_in l))

module _ (first second : List ℕ) where
  unfoldable pub text_of : ℕ → List ℕ
  text_of from = pick (eqb from 1) first second

  unfoldable pub possible_trigger_from : TriggerFrom → Bool
  possible_trigger_from x = pick (is_text x.from) (possible_trigger (text_of x.from) x.trigger) false

  unfoldable pub possible_condition_from : ConditionFrom → Bool
  possible_condition_from y = pick (is_text y.from) (possible_condition (text_of y.from) y.condition) false

  -- the first entry that no text could give
  unfoldable pub first_impossible : Lists → ℕ
  first_impossible l = first_failing possible_trigger_from possible_condition_from l

  -- what is written for the lists
  abbrev pub trigger_from_pieces : ℕ → TriggerFrom → List Piece
  trigger_from_pieces primary x = trigger_pieces primary (name_in (text_of x.from)) x.trigger

  abbrev pub condition_from_pieces : ℕ → ConditionFrom → List Piece
  condition_from_pieces primary y = condition_pieces primary (name_in (text_of y.from)) y.condition

  unfoldable pub list_pieces : ℕ → Lists → List Piece
  list_pieces primary l =
      rule_pieces (map (trigger_from_pieces primary) (triggers_in l)) (map (condition_from_pieces primary) (conditions_in l))

-- the first entry that the call cannot name
unfoldable pub first_unreached : View → Lists → ℕ
first_unreached view l =
    first_failing (λ (x : TriggerFrom). reached_trigger view x.trigger) (λ (y : ConditionFrom). reached_condition view y.condition) l

-- ---- the call

-- the answer, and the bytes of the buffer at exit
pub record Outcome : Type 0 where
  pub answer : Written
  pub buffer : List ℕ

-- "the answer gives the length written (0 on refusal)"; "Bytes past the text, and all on refusal, stay."
unfoldable pub refused_at : ℕ → ℕ → List ℕ → Outcome
refused_at number line buffer =
    record { answer = record { number = number; line = line; column = 0; detail = 0; length = 0 }; buffer = buffer }

unfoldable pub written_with : List ℕ → List ℕ → Outcome
written_with bytes buffer =
    record {
      answer = record { number = 0; line = 0; column = 0; detail = 0; length = length bytes };
      buffer = bytes ++ drop (length bytes) buffer;
    }

-- "then an adapter that needs writing but is not listed, or a broadcast not on the primary, with 56"
unfoldable pub by_reached : View → List ℕ → List ℕ → Lists → List ℕ → Outcome
by_reached view first second l buffer =
    pick (eqb (first_unreached view l) 0) (written_with (spaced (list_pieces first second view.primary l)) buffer)
    (refused_at 56 (first_unreached view l) buffer)

-- "then a count of triggers or conditions out of bounds, a name outside its text, or an entry that by itself no text could give under any sheet, with 55";
-- "0 for a bad count, which comes first"
unfoldable pub by_possible : View → List ℕ → List ℕ → Lists → List ℕ → Outcome
by_possible view first second l buffer =
    pick (possible_counts l)
    (pick (eqb (first_impossible first second l) 0) (by_reached view first second l buffer)
    (refused_at 55 (first_impossible first second l) buffer))
    (refused_at 55 0 buffer)

-- "It refuses a buffer under 4,096 bytes with 54 at 0:0", behind 53
unfoldable pub by_room : View → List ℕ → List ℕ → Lists → List ℕ → Bool → Outcome
by_room view first second l buffer true =
    pick (ltb (length buffer) least_bytes) (refused_at 54 0 buffer) (by_possible view first second l buffer)
by_room view first second l buffer false = refused_at 53 0 buffer

unfoldable pub by_sheet : View → List ℕ → List ℕ → Lists → List ℕ → Bool → Sheet → Outcome
by_sheet view first second l buffer own well_formed = by_room view first second l buffer own
by_sheet view first second l buffer own (bad_line_rule n) = refused_at 3 n buffer

unfoldable pub write_of : ℕ → ℕ → List ℕ → List ℕ → List ℕ → Lists → List ℕ → Outcome
write_of party primary first second sheet l buffer =
    by_sheet (seen (rule_call party primary) sheet) first second l buffer (own_primary (rule_call party primary) sheet) (sheet_check sheet)
