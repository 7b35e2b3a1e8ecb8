-- A row is answered as the rule text for it is (specs/Meaning.antt).
use Prim.Native.Nat.{ℕ, ◌≤◌}
use native.Mathlib.Omega.{arith}
use mathlib.Core.Path.{◌≡◌, refl}
use mathlib.Core.Bool.{true}
use mathlib.Core.List.{List}
use lib.ListN.{length}
use borrow.Author.Tests.{le-ltb}
use Rattle.std.specs.Prelude.{Result}
use Rattle.tokens.specs.Result.{Res}
use Rattle.tokens.specs.Ended.{record_words}
use Rattle.tokens.specs.Lexing.{Lexing, most_tokens, most_bytes, least_words}
use Rattle.tokens.specs.Record.{capacity}
use Rattle.model.specs.Lists.{refused_with}
use Rattle.model.specs.declared.Ref.{Ref}
use Rattle.sheet.specs.Sheet.{well_formed, sheet_check}
use Rattle.sheet.specs.View.{View, seen, own_primary}
use Rattle.sheet.specs.declared.Call.{Call}
use Rattle.sheet.specs.declared.resolve.Unfound.{Unfound}
use Rattle.sheet.specs.declared.resolve.Scope.{Scope}
use Rattle.language.specs.Demand.{Gives}
use Rattle.language.specs.Range.{range_of}
use Rattle.language.specs.Read.{parsed, topics_with, rule_in, on_accepted, anywhere, rule_of, by_primary, by_text, by_sheet, read_of}
use Rattle.language.specs.Section.{Lists}
use Rattle.language.proofs.AskedLaws.{lexed-complete}
use Rattle.language.proofs.Theorem.{passes, given}
use Rattle.writing.specs.Pieces.{spaced}
use Rattle.rereading.proofs.GoodLaws.{has-none}
use Rattle.rereading.proofs.LexLaws.{Lexed, pieces-lexed}
use Rattle.rereading.proofs.RoundTrip.{tokens-few}
use Rattle.old_rows.specs.Row.{row_name}
use Rattle.old_rows.specs.Convert.{found_of, onto, by_found, answered}
use Rattle.old_rows.specs.declared.row.Change.{Change}
use Rattle.row_meaning.specs.Meaning.{rule_for, SameVerdict, RowAsRule}
use Rattle.row_meaning.proofs.OneRow.{Kept, kept, same-found, row_answer, one-row}
use Rattle.row_meaning.proofs.NamedReads.{ByFound, one, none}
use Rattle.row_meaning.proofs.RowPieces.{rule-good, rule-short}
use Rattle.row_meaning.proofs.RuleFound.{ruled, rule_found}

-- a text whose tokens are few is parsed, where what is asked first is met
read-parsed : (call : Call) {text : List ℕ} (sheet : List ℕ) (lent : List (List ℕ)) (words : List ℕ) {l : Lexing} {count : ℕ} → Gives text l count →
    count ≤ most_tokens → sheet_check sheet ≡ well_formed → own_primary call sheet ≡ true → least_words ≤ length words →
    (read_of call text sheet lent words).answer ≡ parsed l (rule_of text (record_words l) (seen call sheet) lent)
unfolding read_of by_sheet by_text by_primary
read-parsed call {text} sheet lent words {l} g few well own room =
    rw (
      le-ltb most_bytes (length text) g.short,
      le-ltb (length words) least_words room,
      well,
      own,
      passes g.octets,
      given g few,
      lexed-complete text (seen call sheet) lent l g.finished,
    )

-- a rule that is answered alike where any form may stand is answered so by the call
both_found : {f : Ref → Lists} {j : ℕ} {found : Result Ref Unfound} {m n : Res Lists} → ByFound f j found m → ByFound f j found n →
    ByFound f j found (on_accepted m n)
unfolding on_accepted
both_found one h = h
both_found none h = none

-- what is found is answered alike of the row and of the text
same-verdict : (l : Lexing) (change : Change) {j : ℕ} {found : Result Ref Unfound} {m : Res Lists} → ByFound (ruled change) j found m →
    SameVerdict (row_answer change found) (parsed l m)
unfolding answered by_found onto parsed refused_with
same-verdict l change one = record { number = refl; detail = refl; triggers = refl; conditions = refl }
same-verdict l change none = record { number = refl; detail = refl; triggers = refl; conditions = refl }

-- what is parsed of the text: no profile leaves a reference by name out
module _ (view : View) (lent : List (List ℕ)) {name : List ℕ} {change : Change} {scope : Scope} (k : Kept name change scope)
    (x : Lexed (rule_for change scope name)) where
  abbrev text : List ℕ
  text = spaced (rule_for change scope name)

  abbrev records : List ℕ
  records = record_words x.lexing

  -- with any view of the same adapters and rows
  seeing : (v : View) → v.listed ≡ view.listed → v.rows ≡ view.rows →
      ByFound (ruled change) (length (rule_for change scope name)) (found_of view change scope name) (rule_in text records v lent)
  seeing v e f =
      rw (same-found v view e f change scope name)
      at (rule_found v (range_of records) (capacity records) (topics_with text lent) k x.stand x.at_end_rule)

  text-found : ByFound (ruled change) (length (rule_for change scope name)) (found_of view change scope name) (rule_of text records view lent)
  unfolding rule_of
  text-found = both_found (seeing (anywhere view) refl refl) (seeing view refl refl)

pub row_as_rule : RowAsRule
row_as_rule call l sheet lent words change scope e feed quoted well own room =
    let k = kept l e in
    let good = rule-good k quoted in
    let short = rule-short k in
    let few = tokens-few good in
    let lexed = pieces-lexed (rule_for change scope (row_name l)) good (omega arith) in
    rw (one-row call l sheet e (has-none 0x0A l feed) well own, read-parsed call sheet lent words lexed.gives (omega arith) well own room)
    (same-verdict lexed.lexing change (text-found (seen call sheet) lent k lexed))
