-- What the lent words hold after the whole call, word by word, whatever it answers (Rattle.tokens.specs.Buffer).
use Rattle.std.specs.Prelude.{Result, Ok, Err}
use Prim.Native.Nat.{ℕ, ◌≤◌}
use mathlib.Core.Path.{◌≡◌, refl}
use mathlib.Core.Bool.{Bool, true, false}
use mathlib.Core.List.{List}
use lib.ListN.{length}
use lib.Dec.{ltb}
use borrow.Author.Tests.{ltb-false}
use Rattle.text.specs.Choice.{pick}
use Rattle.text.specs.Utf8.{Character}
use Rattle.text.specs.Place.{check_of}
use Rattle.text.specs.declared.place.IllFormed.{IllFormed}
use Rattle.tokens.specs.Result.{Res, ok, no}
use Rattle.tokens.specs.Lexing.{Lexing, most_bytes, least_words}
use Rattle.tokens.specs.Lex.{lex_text}
use Rattle.tokens.specs.Ended.{record_words}
use Rattle.tokens.specs.Layout.{Laid, end, refusal, next}
use Rattle.tokens.specs.Buffer.{Holds, is_asked_first, front_of}
use Rattle.tokens.proofs.LayoutLaws.{laid}
use Rattle.tokens.proofs.HoldsLaws.{lexical-late, records-held, asked-held}
use Rattle.sheet.specs.Sheet.{Sheet, well_formed, bad_line_rule, sheet_check}
use Rattle.sheet.specs.View.{View, seen, own_primary}
use Rattle.sheet.specs.declared.Call.{Call}
use Rattle.model.specs.Lists.{accepted_with, refused_with}
use Rattle.model.specs.declared.Answer.{Answer}
use Rattle.references.proofs.NumberLaws.{Refuses, refusal-late}
use Rattle.language.specs.Section.{Lists}
use Rattle.language.specs.Read.{parsed, rule_of, lexed_from, by_primary, by_text, by_sheet, Outcome, read_of}
use Rattle.language.proofs.RefusalLaws.{call-refuses}

-- neither the parser nor the lexer answers with the number of a question that is asked first
parsed-late : (l : Lexing) (m : Res Lists) → Refuses m → is_asked_first (parsed l m).number ≡ false
unfolding parsed accepted_with refused_with Refuses
parsed-late l (ok lists j) h = refl
parsed-late l (no r) h =
    refusal-late r.number h

lexed-late : {text : List ℕ} {before : List Character} (view : View) (lent : List (List ℕ)) (whole : Lexing) {l : Lexing} → Laid text before l →
    is_asked_first (lexed_from text view lent whole l).number ≡ false
unfolding lexed_from refused_with
lexed-late {text} view lent whole (end gap t h) =
    let words = record_words whole in parsed-late whole (rule_of text words view lent) (call-refuses text words view lent)
lexed-late view lent whole (refusal gap c rest t h n) = lexical-late n
lexed-late view lent whole (next gap u rest t s h k) = lexed-late view lent whole k

module _ (call : Call) (text sheet : List ℕ) (lent : List (List ℕ)) (words : List ℕ) where
  abbrev Held : Outcome → Type 0
  Held o = Holds (front_of o.answer.number text) words o.buffer

  own_held : least_words ≤ length words → (own : Bool) → Held (by_primary text (seen call sheet) lent words own)
  unfolding by_primary refused_with front_of
  own_held room true = rw (lexed-late (seen call sheet) lent (lex_text text) (laid text)) (records-held text words room)
  own_held room false = asked-held 53 text words refl

  text-held : least_words ≤ length words → (own : Bool) (c : Result Unit IllFormed) → Held (by_text text (seen call sheet) lent words own c)
  unfolding by_text refused_with
  text-held room own (Ok _) = own_held room own
  text-held room own (Err at) = asked-held 4 text words refl

  sheet-held : least_words ≤ length words → (own : Bool) (x : Sheet) → Held (by_sheet text (seen call sheet) lent words own x)
  unfolding by_sheet refused_with
  sheet-held room own well_formed = text-held room own (check_of text)
  sheet-held room own (bad_line_rule n) = asked-held 3 text words refl

  asked-first : (t u : Bool) → (u ≡ false → least_words ≤ length words) →
      Held
      (pick t (record { answer = refused_with 1 0 0 0; buffer = words })
      (pick u (record { answer = refused_with 2 0 0 0; buffer = words }) (by_sheet text (seen call sheet) lent words (own_primary call sheet) (sheet_check sheet))))
  unfolding refused_with
  asked-first true u h = asked-held 1 text words refl
  asked-first false true h = asked-held 2 text words refl
  asked-first false false h = sheet-held (h refl) (own_primary call sheet) (sheet_check sheet)

  read_held : Held (read_of call text sheet lent words)
  unfolding read_of
  read_held = asked-first (ltb most_bytes (length text)) (ltb (length words) least_words) (ltb-false (length words) least_words)

-- of what a call that answers x left in the words
pub read-holds : (call : Call) (text sheet : List ℕ) (lent : List (List ℕ)) (words : List ℕ) {x : Answer} {exit : List ℕ} → x ≡ (read_of call text sheet lent words).answer →
    exit ≡ (read_of call text sheet lent words).buffer → Holds (front_of x.number text) words exit
read-holds call text sheet lent words e f = rw (e, f) (read_held call text sheet lent words)
