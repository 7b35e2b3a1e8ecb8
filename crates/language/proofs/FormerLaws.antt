-- Document 02, §5: "for buffers of 6,144 words or more every place reported is the same as before". A call answers alike in all buffers that are
-- long enough, and in those that were long enough before as it did with records of six words (Rattle.tokens.proofs.FormerLaws).
use Rattle.std.specs.Prelude.{Result, Ok, Err}
use Prim.Native.Nat.{ℕ, ◌+◌, ◌≤◌}
use mathlib.Core.Path.{◌≡◌, refl, ap, fun_ext}
use mathlib.Core.Bool.{Bool, true, false}
use mathlib.Core.List.{List}
use lib.ListN.{length}
use lib.Dec.{ltb}
use borrow.Author.Tests.{le-ltb, ltb-false}
use Rattle.text.specs.Choice.{pick}
use Rattle.text.specs.Part.{part_of}
use Rattle.text.specs.Place.{check_of}
use Rattle.text.specs.declared.place.IllFormed.{IllFormed}
use Rattle.tokens.specs.Result.{Res}
use Rattle.tokens.specs.Record.{bytes_at}
use Rattle.tokens.specs.Cursor.{Tok, bytes_of, tokens}
use Rattle.tokens.specs.Lexing.{Lexing, ended, refused, token, most_bytes, least_words}
use Rattle.tokens.specs.Lex.{lex_text}
use Rattle.tokens.specs.Ended.{record_words}
use Rattle.tokens.specs.Placed.{record_at}
use Rattle.tokens.specs.declared.record.Record.{Record}
use Rattle.tokens.proofs.FormerLaws.{former_least_words, former_room, former_words, former_capacity, former_record_at, same-records, same_count}
use Rattle.sheet.specs.Sheet.{Sheet, well_formed, bad_line_rule, sheet_check}
use Rattle.sheet.specs.View.{View, seen, own_primary}
use Rattle.sheet.specs.declared.Call.{Call}
use Rattle.model.specs.Lists.{refused_with}
use Rattle.model.specs.declared.Name.{Name}
use Rattle.model.specs.declared.Answer.{Answer}
use Rattle.language.specs.Range.{range_of}
use Rattle.language.specs.Section.{Lists, rule_at}
use Rattle.language.specs.Read.{parsed, topics_with, on_accepted, anywhere, rule_of, lexed_from, by_primary, by_text, by_sheet, read_of}

-- ---- buffers of different lengths

module _ (call : Call) (text sheet : List ℕ) (lent : List (List ℕ)) (words other : List ℕ) where
  abbrev own : Bool
  own = own_primary call sheet

  same-own : (b : Bool) → (by_primary text (seen call sheet) lent words b).answer ≡ (by_primary text (seen call sheet) lent other b).answer
  unfolding by_primary
  same-own true = refl
  same-own false = refl

  same_text : (c : Result Unit IllFormed) → (by_text text (seen call sheet) lent words own c).answer ≡ (by_text text (seen call sheet) lent other own c).answer
  unfolding by_text
  same_text (Ok _) = same-own own
  same_text (Err at) = refl

  same-sheet : (x : Sheet) → (by_sheet text (seen call sheet) lent words own x).answer ≡ (by_sheet text (seen call sheet) lent other own x).answer
  unfolding by_sheet
  same-sheet well_formed = same_text (check_of text)
  same-sheet (bad_line_rule n) = refl

  same_asked : (long : Bool) →
      (pick long (record { answer = refused_with 1 0 0 0; buffer = words }) (by_sheet text (seen call sheet) lent words own (sheet_check sheet))).answer ≡
      (pick long (record { answer = refused_with 1 0 0 0; buffer = other }) (by_sheet text (seen call sheet) lent other own (sheet_check sheet))).answer
  same_asked true = refl
  same_asked false = same-sheet (sheet_check sheet)

  pub same_answer : least_words ≤ length words → least_words ≤ length other → (read_of call text sheet lent words).answer ≡ (read_of call text sheet lent other).answer
  unfolding read_of
  same_answer room space =
      rw (le-ltb (length words) least_words room, le-ltb (length other) least_words space) (same_asked (ltb most_bytes (length text)))

-- ---- the former call: what specs/Read.antt says, over records of six words

abbrev pub token_of : List ℕ → Record → Tok
token_of text r =
    record { kind = r.kind; number = r.number; bytes = bytes_of r.kind (part_of text r.start (r.start + r.length)) }

abbrev pub range_in : Record → Name
range_in r = record { start = r.start; length = r.length }

unfoldable pub former_rule_at : List ℕ → List ℕ → View → List (List ℕ) → Res Lists
former_rule_at text words view lent =
    rule_at (λ i. token_of text (former_record_at words i)) view (λ i. range_in (former_record_at words i)) (topics_with text lent) (former_capacity words)

unfoldable pub former_rule_of : List ℕ → List ℕ → View → List (List ℕ) → Res Lists
former_rule_of text words view lent = on_accepted (former_rule_at text words (anywhere view) lent) (former_rule_at text words view lent)

unfoldable pub former_lexed_from : List ℕ → View → List (List ℕ) → Lexing → Lexing → Answer
former_lexed_from text view lent whole (ended p) = parsed whole (former_rule_of text (former_words whole) view lent)
former_lexed_from text view lent whole (refused number p) = refused_with number p.line p.column 0
former_lexed_from text view lent whole (token r l) = former_lexed_from text view lent whole l

unfoldable pub former_by_primary : List ℕ → View → List (List ℕ) → Bool → Answer
former_by_primary text view lent true = former_lexed_from text view lent (lex_text text) (lex_text text)
former_by_primary text view lent false = refused_with 53 0 0 0

unfoldable pub former_by_text : List ℕ → View → List (List ℕ) → Bool → Result Unit IllFormed → Answer
former_by_text text view lent own (Ok _) = former_by_primary text view lent own
former_by_text text view lent own (Err at) = refused_with 4 at.line at.column 0

unfoldable pub former_by_sheet : List ℕ → View → List (List ℕ) → Bool → Sheet → Answer
former_by_sheet text view lent own well_formed = former_by_text text view lent own (check_of text)
former_by_sheet text view lent own (bad_line_rule n) = refused_with 3 n 0 0

unfoldable pub former_answer : Call → List ℕ → List ℕ → List (List ℕ) → ℕ → Answer
former_answer call text sheet lent size =
    pick (ltb most_bytes (length text)) (refused_with 1 0 0 0)
    (pick (ltb size former_least_words) (refused_with 2 0 0 0) (former_by_sheet text (seen call sheet) lent (own_primary call sheet) (sheet_check sheet)))

-- ---- it answered the same

module _ (text : List ℕ) (view : View) (lent : List (List ℕ)) (words : List ℕ) (short : length text ≤ most_bytes) where
  former_rule : rule_of text (record_words (lex_text text)) view lent ≡ former_rule_of text (former_words (lex_text text)) view lent
  unfolding rule_of tokens range_of bytes_at record_at former_rule_of former_rule_at
  former_rule =
      let now = record_words (lex_text text) in
      let then = former_words (lex_text text) in
      let toks : tokens text now ≡ (λ (i : ℕ). token_of text (former_record_at then i)) =
      fun_ext (λ i. ap (token_of text) (same-records text short i)) in
      let ranges : range_of now ≡ (λ (i : ℕ). range_in (former_record_at then i)) = fun_ext (λ i. ap range_in (same-records text short i)) in
      rw (toks, ranges, same_count (lex_text text))

  former_lexed : (l : Lexing) → lexed_from text view lent (lex_text text) l ≡ former_lexed_from text view lent (lex_text text) l
  unfolding lexed_from former_lexed_from
  former_lexed (ended p) = ap (parsed (lex_text text)) former_rule
  former_lexed (refused number p) = refl
  former_lexed (token r l) = former_lexed l

  former_own : (own : Bool) → (by_primary text view lent words own).answer ≡ former_by_primary text view lent own
  unfolding by_primary former_by_primary
  former_own true = former_lexed (lex_text text)
  former_own false = refl

  former_text : (own : Bool) (c : Result Unit IllFormed) → (by_text text view lent words own c).answer ≡ former_by_text text view lent own c
  unfolding by_text former_by_text
  former_text own (Ok _) = former_own own
  former_text own (Err at) = refl

  former_sheet : (own : Bool) (x : Sheet) → (by_sheet text view lent words own x).answer ≡ former_by_sheet text view lent own x
  unfolding by_sheet former_by_sheet
  former_sheet own well_formed = former_text own (check_of text)
  former_sheet own (bad_line_rule n) = refl

former_asked : (call : Call) (text sheet : List ℕ) (lent : List (List ℕ)) (words : List ℕ) (long : Bool) → (long ≡ false → length text ≤ most_bytes) →
    (pick long (record { answer = refused_with 1 0 0 0; buffer = words }) (by_sheet text (seen call sheet) lent words (own_primary call sheet) (sheet_check sheet))).answer ≡
    pick long (refused_with 1 0 0 0) (former_by_sheet text (seen call sheet) lent (own_primary call sheet) (sheet_check sheet))
former_asked call text sheet lent words true short = refl
former_asked call text sheet lent words false short = former_sheet text (seen call sheet) lent words (short refl) (own_primary call sheet) (sheet_check sheet)

pub as_before : (call : Call) (text sheet : List ℕ) (lent : List (List ℕ)) (words : List ℕ) → former_least_words ≤ length words →
    (read_of call text sheet lent words).answer ≡ former_answer call text sheet lent (length words)
unfolding read_of former_answer
as_before call text sheet lent words room =
    rw (le-ltb (length words) least_words (former_room room), le-ltb (length words) former_least_words room)
    (former_asked call text sheet lent words (ltb most_bytes (length text)) (ltb-false most_bytes (length text)))
