-- The third demand of document 01, whole, in one place: "Demand 3 is one claim about whole texts, not one for each form". Of a call with a text,
-- a sheet, lent topics and a buffer of size words it says: the call is accepted exactly when the text has a reading with what the call sees of the sheet; then it
-- has that reading's lists; no text has two readings; and durations are exactly what is written. Document 02: "Demands 2 and 3 and the grammar now
-- speak of the party's rows and the call's primary, in calls whose primary is the party's" (§6), and "demand 3 covers each" habit with repeated
-- arguments (§11): the grammar has both from what the call sees, and so it has the shop profile (§9). proofs/Theorem.antt shows it of the definition of the
-- call (Read.antt), and `read` promises it of the code.
use Rattle.std.specs.Prelude.{ℕ, ◌≤◌, ◌≡◌, List, [], true, length}
use Rattle.text.specs.Rfc3629.{Utf8Octets}
use Rattle.tokens.specs.Cursor.{tokens}
use Rattle.tokens.specs.Kind.{DURATION}
use Rattle.tokens.specs.Record.{kind_at, number_at, bytes_at}
use Rattle.tokens.specs.Layout.{Duration}
use Rattle.tokens.specs.Lexing.{Lexing, most_tokens, most_bytes, least_words}
use Rattle.tokens.specs.Rules.{Lexes}
use Rattle.tokens.specs.Ended.{Ended, record_words}
use Rattle.sheet.specs.Sheet.{well_formed, sheet_check}
use Rattle.sheet.specs.View.{View, seen, own_primary}
use Rattle.sheet.specs.declared.Call.{Call}
use Rattle.topics.specs.Topics.{Allowed}
use Rattle.topics.specs.Ranges.{name_in}
use Rattle.model.specs.Lists.{accepted_with}
use Rattle.model.specs.Ranges.{InRange}
use Rattle.language.specs.Range.{range_of}
use Rattle.language.specs.Numbers.{NumbersInRange}
use Rattle.language.specs.Topics.{topics_of}
use Rattle.language.specs.grammar.Text.{ReadingWith}
use Rattle.model.specs.declared.Trigger.{Trigger}
use Rattle.model.specs.declared.Condition.{Condition}
use Rattle.model.specs.declared.Answer.{Answer}

-- "A text gives tokens if it passes 1, 4 and, throughout, 10 to 18."
pub record Gives (text : List ℕ) (l : Lexing) (count : ℕ) : Type 0 where
  -- 1: its length
  pub short : length text ≤ most_bytes
  -- 4: its bytes are those of some characters
  pub characters : List ℕ
  pub octets : Utf8Octets text characters
  -- 10 to 18: by the rules (tokens/specs/Rules.antt), with some number of tokens allowed, no refusal comes before the end
  pub most : ℕ
  pub lexed : Lexes most [] characters l
  pub finished : Ended l count

-- "A reading of a text's tokens with a sheet is a list of triggers and one of conditions": which ones the tokens have, the grammar says
-- (grammar/Text.antt). What else is asked of a call is met: 2, 3, 19, 53 and 66.
pub record HasReadingSeeing (view : View) (call : Call) (text sheet : List ℕ) (lent : List (List ℕ)) (size : ℕ) (xs : List Trigger) (ys : List Condition) : Type 0 where
  pub room : least_words ≤ size
  pub sheet_passes : sheet_check sheet ≡ well_formed
  pub own : own_primary call sheet ≡ true
  pub lexing : Lexing
  pub count : ℕ
  pub gives : Gives text lexing count
  pub few : count ≤ most_tokens
  pub reading : ReadingWith (tokens text (record_words lexing)) view (range_of (record_words lexing)) xs ys
  -- document 02, §12: "A reading needs this too": where the text names a topic that is not lent, its topics and the lent come to at most eight
  pub topics : Allowed lent (topics_of (name_in text) xs)

abbrev pub HasReading : Call → List ℕ → List ℕ → List (List ℕ) → ℕ → List Trigger → List Condition → Type 0
HasReading call text sheet lent size xs ys = HasReadingSeeing (seen call sheet) call text sheet lent size xs ys

-- an answer with number 0: it has the lists of a reading, and in these no reference is out of its kind's range
pub record Accepts (call : Call) (text sheet : List ℕ) (lent : List (List ℕ)) (size : ℕ) (answer : Answer) : Type 0 where
  pub triggers : List Trigger
  pub conditions : List Condition
  pub lists : answer ≡ accepted_with triggers conditions
  pub reads : HasReading call text sheet lent size triggers conditions
  pub ranges : InRange triggers conditions
  -- and no number that an integer, a time or a duration writes is out of its limits
  pub numbers : NumbersInRange triggers conditions

-- each duration among the tokens whose records these words are: its milliseconds are the written decimal times the unit, with nothing rounded
abbrev pub Durations : List ℕ → List ℕ → Type 0
Durations text words = (i : ℕ) → kind_at words i ≡ DURATION → Duration (bytes_at text words i) (number_at words i)

-- the third demand
pub record Exact (call : Call) (text sheet : List ℕ) (lent : List (List ℕ)) (size : ℕ) (answer : Answer) : Type 0 where
  -- what is accepted has a reading, and is answered with that reading's lists
  pub sound : answer.number ≡ 0 → Accepts call text sheet lent size answer
  -- what has a reading is accepted, with that reading's lists
  pub complete : (xs : List Trigger) (ys : List Condition) → HasReading call text sheet lent size xs ys → answer ≡ accepted_with xs ys
  -- "that there is only one is proved, not built in"
  pub one : (xs us : List Trigger) (ys vs : List Condition) → HasReading call text sheet lent size xs ys → HasReading call text sheet lent size us vs →
      (xs ≡ us) × (ys ≡ vs)
  -- the numbers that stand for durations in an accepted text's tokens, and so in its lists
  pub durations : answer.number ≡ 0 → (l : Lexing) (count : ℕ) → Gives text l count → Durations text (record_words l)
