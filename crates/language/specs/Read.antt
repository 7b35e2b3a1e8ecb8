-- The whole call: its answer and every word of the buffer at exit, as one function of what the call names (its habit, party and primary adapter), its
-- text, sheet, lent topics and buffer (document 01, "Questions put to a call, in this order").
use Rattle.std.specs.Prelude.{ℕ, List, Bool, true, false, length, ltb, Result, Ok, Err}
use Rattle.text.specs.Choice.{pick}
use Rattle.text.specs.Place.{check_of}
use Rattle.text.specs.declared.place.IllFormed.{IllFormed}
use Rattle.tokens.specs.Result.{Res, ok, no}
use Rattle.tokens.specs.Record.{capacity}
use Rattle.tokens.specs.Cursor.{tokens}
use Rattle.tokens.specs.Lexing.{Lexing, ended, refused, token, most_bytes, least_words}
use Rattle.tokens.specs.Lex.{lex_text, written_from}
use Rattle.tokens.specs.Ended.{record_words, token_line, token_column}
use Rattle.sheet.specs.Sheet.{Sheet, well_formed, bad_line_rule, sheet_check}
use Rattle.sheet.specs.View.{View, seen, own_primary}
use Rattle.sheet.specs.declared.Call.{Call}
use Rattle.sheet.specs.declared.Habit.TheVariants.{Rule, Archive, Shop}
use Rattle.topics.specs.Ranges.{name_in}
use Rattle.model.specs.Lists.{accepted_with, refused_with}
use Rattle.model.specs.declared.Answer.{Answer}
use Rattle.language.specs.Range.{range_of}
use Rattle.language.specs.Section.{Lists, Topics, rule_at}

-- what the parser answers on the tokens, with the refusal's place
unfoldable pub parsed : Lexing → Res Lists → Answer
parsed l (ok lists i) = accepted_with lists.triggers lists.conditions
parsed l (no r) = refused_with r.number (token_line l r.token) (token_column l r.token) r.detail

-- document 02, §12: "The caller lends the topics of earlier rules"; those of the text are shown as its parts
abbrev pub topics_with : List ℕ → List (List ℕ) → Topics
topics_with text lent = record { lent = lent; written = name_in text }

-- the rule in the records, with what is seen
abbrev pub rule_in : List ℕ → List ℕ → View → List (List ℕ) → Res Lists
rule_in text words view lent = rule_at (tokens text words) view (range_of words) (topics_with text lent) (capacity words)

-- document 02, §9: "Judge it on an accepted reading": what is answered, by what is answered if the forms that the profile leaves out may stand anywhere
unfoldable pub on_accepted : Res Lists → Res Lists → Res Lists
on_accepted (ok lists i) judged = judged
on_accepted (no r) judged = no r

abbrev pub anywhere : View → View
anywhere view =
    record { primary = view.primary; listed = view.listed; rows = view.rows; repeats = view.repeats; allows = λ i. true }

unfoldable pub rule_of : List ℕ → List ℕ → View → List (List ℕ) → Res Lists
rule_of text words view lent = on_accepted (rule_in text words (anywhere view) lent) (rule_in text words view lent)

-- "the whole text is lexed before any parsing": l is what is left of the lexing, whole the whole of it
unfoldable pub lexed_from : List ℕ → View → List (List ℕ) → Lexing → Lexing → Answer
lexed_from text view lent whole (ended p) = parsed whole (rule_of text (record_words whole) view lent)
lexed_from text view lent whole (refused number p) = refused_with number p.line p.column 0
lexed_from text view lent whole (token r l) = lexed_from text view lent whole l

-- the answer, and the words of the buffer at exit
pub record Outcome : Type 0 where
  pub answer : Answer
  pub buffer : List ℕ

-- document 02, §6: "It refuses a primary that is not the party's with 53, at 0:0, after question 4"; then the records are written
unfoldable pub by_primary : List ℕ → View → List (List ℕ) → List ℕ → Bool → Outcome
by_primary text view lent words true =
    record { answer = lexed_from text view lent (lex_text text) (lex_text text); buffer = written_from 0 words (lex_text text) }
by_primary text view lent words false = record { answer = refused_with 53 0 0 0; buffer = words }

-- "Text well-formed UTF-8 (RFC 3629)? 4"
unfoldable pub by_text : List ℕ → View → List (List ℕ) → List ℕ → Bool → Result Unit IllFormed → Outcome
by_text text view lent words own (Ok _) = by_primary text view lent words own
by_text text view lent words own (Err at) = record { answer = refused_with 4 at.line at.column 0; buffer = words }

-- "Name sheet well formed? 3, at its first bad line, column 0"
unfoldable pub by_sheet : List ℕ → View → List (List ℕ) → List ℕ → Bool → Sheet → Outcome
by_sheet text view lent words own well_formed = by_text text view lent words own (check_of text)
by_sheet text view lent words own (bad_line_rule n) = record { answer = refused_with 3 n 0 0; buffer = words }

-- "Text at most 16,384 bytes? 1." and, by document 02, §5, "the buffer at least 5,120 (question 2)"
unfoldable pub read_of : Call → List ℕ → List ℕ → List (List ℕ) → List ℕ → Outcome
read_of call text sheet lent words =
    pick (ltb most_bytes (length text)) (record { answer = refused_with 1 0 0 0; buffer = words })
    (pick (ltb (length words) least_words) (record { answer = refused_with 2 0 0 0; buffer = words })
    (by_sheet text (seen call sheet) lent words (own_primary call sheet) (sheet_check sheet)))

-- the default call of a party, the archive loader's, and the one under the shop profile
abbrev pub rule_call : ℕ → ℕ → Call
rule_call party primary = record { habit = Rule; party = party; primary = primary }

abbrev pub archive_call : ℕ → ℕ → Call
archive_call party primary = record { habit = Archive; party = party; primary = primary }

abbrev pub shop_call : ℕ → ℕ → Call
shop_call party primary = record { habit = Shop; party = party; primary = primary }
