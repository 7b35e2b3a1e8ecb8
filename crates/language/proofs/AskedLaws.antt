-- The questions that are put before the parser's are answered alike whatever a call sees: one of them refuses the call, or all are met and the rule is
-- parsed.
use Rattle.std.specs.Prelude.{Result, Ok, Err}
use Prim.Native.Nat.{ℕ, ◌≤◌}
use native.Mathlib.Omega.{arith}
use mathlib.Core.Path.{◌≡◌, refl, ap}
use mathlib.Core.Bool.{Bool, true, false}
use mathlib.Core.List.{List}
use lib.ListN.{length}
use lib.Dec.{ltb}
use borrow.Author.Tests.{ltb-false}
use Rattle.text.specs.Choice.{pick}
use Rattle.text.specs.Rfc3629.{Utf8Octets}
use Rattle.text.specs.Utf8.{Character}
use Rattle.text.specs.Place.{check_of, Judged, well_formed as judged_well}
use Rattle.text.proofs.PlaceRules.{judged}
use Rattle.text.specs.declared.place.IllFormed.{IllFormed}
use Rattle.tokens.specs.declared.record.Record.{Record}
use Rattle.tokens.specs.Lexing.{Lexing, token, most_tokens, most_bytes, least_words}
use Rattle.tokens.specs.Lex.{lex_text, written_from}
use Rattle.tokens.specs.Ended.{Ended, at_end_rule, behind, record_words}
use Rattle.tokens.specs.Layout.{Laid, end, refusal, next}
use Rattle.tokens.proofs.LayoutLaws.{laid}
use Rattle.tokens.proofs.RulesLaws.{text-sound}
use Rattle.tokens.proofs.BufferLaws.{lexical}
use Rattle.sheet.specs.Sheet.{Sheet, well_formed, bad_line_rule, sheet_check}
use Rattle.sheet.specs.View.{View, own_primary}
use Rattle.sheet.specs.declared.Call.{Call}
use Rattle.model.specs.Lists.{refused_with}
use Rattle.model.specs.declared.Answer.{Answer}
use Rattle.language.specs.Read.{parsed, rule_of, lexed_from, by_primary, by_text, by_sheet, Outcome}
use Rattle.language.specs.Demand.{Gives}

-- a lexing that ends is parsed
pub lexed-complete : (text : List ℕ) (view : View) (lent : List (List ℕ)) (whole : Lexing) {l : Lexing} {count : ℕ} → Ended l count →
    lexed_from text view lent whole l ≡ parsed whole (rule_of text (record_words whole) view lent)
unfolding lexed_from
lexed-complete text view lent whole at_end_rule = refl
lexed-complete text view lent whole (behind e) = lexed-complete text view lent whole e

-- a lexing refuses the text, or ends
data Lexed (text : List ℕ) (lent : List (List ℕ)) (whole l : Lexing) : Type 0 where
  refused_by : {a : Answer} → ((view : View) → lexed_from text view lent whole l ≡ a) → (a.number ≡ 0 → ⊥) → Lexed text lent whole l
  ended_at : (count : ℕ) → Ended l count → Lexed text lent whole l

lexed-next : {text : List ℕ} {lent : List (List ℕ)} {whole l : Lexing} (r : Record) → Lexed text lent whole l → Lexed text lent whole (token r l)
unfolding lexed_from
lexed-next r (refused_by h n) = refused_by h n
lexed-next r (ended_at count h) = ended_at _ (behind h)

lexed : {text : List ℕ} (lent : List (List ℕ)) {whole l : Lexing} {before : List Character} → Laid text before l → Lexed text lent whole l
unfolding lexed_from refused_with
lexed lent (end gap t h) = ended_at 0 at_end_rule
lexed lent (refusal gap c rest t h n) = refused_by (λ view. refl) (lexical n)
lexed lent (next gap u rest t s h k) = lexed-next _ (lexed lent k)

-- what is asked first of a call is met: 1 to 4 and 53, and the lexical questions
pub record Passed (call : Call) (text sheet : List ℕ) (size : ℕ) : Type 0 where
  pub room : least_words ≤ size
  pub sheet_passes : sheet_check sheet ≡ well_formed
  pub own : own_primary call sheet ≡ true
  pub count : ℕ
  pub gives : Gives text (lex_text text) count

-- then the records are written, and the rule in them is parsed
abbrev pub parsing : List ℕ → List (List ℕ) → List ℕ → View → Outcome
parsing text lent words view =
    record { answer = parsed (lex_text text) (rule_of text (record_words (lex_text text)) view lent); buffer = written_from 0 words (lex_text text) }

module _ (call : Call) (text sheet : List ℕ) (lent : List (List ℕ)) (words : List ℕ) where
  -- what is answered, by what is seen
  abbrev pub answering : View → Outcome
  answering view =
      pick (ltb most_bytes (length text)) (record { answer = refused_with 1 0 0 0; buffer = words })
      (pick (ltb (length words) least_words) (record { answer = refused_with 2 0 0 0; buffer = words })
      (by_sheet text view lent words (own_primary call sheet) (sheet_check sheet)))

  -- it is refused, or the rule is parsed
  pub data Asked (f : View → Outcome) : Type 0 where
    before : {o : Outcome} → ((view : View) → f view ≡ o) → (o.answer.number ≡ 0 → ⊥) → Asked f
    reached : Passed call text sheet (length words) → ((view : View) → f view ≡ parsing text lent words view) → Asked f

  module _ (short : length text ≤ most_bytes) where
    gives_by : {characters : List ℕ} {count : ℕ} → Utf8Octets text characters → Ended (lex_text text) count → Gives text (lex_text text) count
    gives_by {characters} octets h =
        record { short = short; characters = characters; octets = octets; most = most_tokens; lexed = text-sound octets; finished = h }

    module _ (room : least_words ≤ length words) where
      module _ (sheet_passes : sheet_check sheet ≡ well_formed) where
        lexed_asked : {characters : List ℕ} → Utf8Octets text characters → own_primary call sheet ≡ true → Lexed text lent (lex_text text) (lex_text text) →
            Asked (λ view. by_primary text view lent words true)
        unfolding by_primary
        lexed_asked octets owns (refused_by h n) =
            before (λ view. ap (λ (x : Answer). record { answer = x; buffer = written_from 0 words (lex_text text) }) (h view)) n
        lexed_asked octets owns (ended_at count h) =
            reached (record { room = room; sheet_passes = sheet_passes; own = owns; count = count; gives = gives_by octets h })
            (λ view. ap (λ (x : Answer). record { answer = x; buffer = written_from 0 words (lex_text text) }) (lexed-complete text view lent (lex_text text) h))

        own_asked : {characters : List ℕ} → Utf8Octets text characters → (own : Bool) → own_primary call sheet ≡ own →
            Asked (λ view. by_primary text view lent words own)
        unfolding by_primary refused_with
        own_asked octets false e = before (λ view. refl) (λ z. omega arith)
        own_asked octets true e = lexed_asked octets e (lexed lent (laid text))

        text_asked : (c : Result Unit IllFormed) → Judged text c → Asked (λ view. by_text text view lent words (own_primary call sheet) c)
        unfolding by_text refused_with
        text_asked (Err at) j = before (λ view. refl) (λ z. omega arith)
        text_asked (Ok _) (judged_well octets) = own_asked octets (own_primary call sheet) refl

      sheet_asked : (x : Sheet) → sheet_check sheet ≡ x → Asked (λ view. by_sheet text view lent words (own_primary call sheet) x)
      unfolding by_sheet refused_with
      sheet_asked (bad_line_rule n) e = before (λ view. refl) (λ z. omega arith)
      sheet_asked well_formed e = text_asked e (check_of text) (judged text)

    room_asked : (b : Bool) → ltb (length words) least_words ≡ b →
        Asked
        (λ view.
        pick b (record { answer = refused_with 2 0 0 0; buffer = words }) (by_sheet text view lent words (own_primary call sheet) (sheet_check sheet)))
    unfolding refused_with
    room_asked true e = before (λ view. refl) (λ z. omega arith)
    room_asked false e = sheet_asked (ltb-false _ _ e) (sheet_check sheet) refl

  short_asked : (b : Bool) → ltb most_bytes (length text) ≡ b →
      Asked
      (λ view.
      pick b (record { answer = refused_with 1 0 0 0; buffer = words })
      (pick (ltb (length words) least_words) (record { answer = refused_with 2 0 0 0; buffer = words })
      (by_sheet text view lent words (own_primary call sheet) (sheet_check sheet))))
  unfolding refused_with
  short_asked true e = before (λ view. refl) (λ z. omega arith)
  short_asked false e = room_asked (ltb-false _ _ e) (ltb (length words) least_words) refl

  pub asked : Asked answering
  asked = short_asked (ltb most_bytes (length text)) refl
