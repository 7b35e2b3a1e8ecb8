-- The call's questions one after the other are the definition of the whole call: what the parser reads from the buffer is what the text gives.
use Rattle.std.specs.Prelude.{Result, Ok, Err}
use Prim.Native.Nat.{ℕ, ◌*◌, ◌<◌, ◌≤◌}
use native.Mathlib.Omega.{arith}
use mathlib.Core.Path.{◌≡◌, refl, sym, ap, ◌∙◌, subst}
use mathlib.Core.Bool.{Bool, true, false}
use mathlib.Core.List.{List}
use lib.ListN.{length, take}
use lib.Seq.{length-take-le}
use lib.Dec.{ltb}
use borrow.Author.Tests.{le-ltb, lt-ltb, ltb-true, ltb-false}
use mir.Syntax.{w8, w64}
use mir.Val.{Fits}
use Rattle.std.specs.Prelude.{Result, Ok, Err}
use Rattle.text.specs.Choice.{pick}
use Rattle.text.proofs.Tests.{lt_yes, lt_no}
use Rattle.text.specs.Place.{check_of}
use Rattle.text.specs.declared.place.IllFormed.{IllFormed}
use Rattle.tokens.specs.Result.{Res, ok, no}
use Rattle.tokens.specs.Record.{record_size, capacity, line_at, column_at}
use Rattle.tokens.specs.Lexing.{Lexing, ended, refused, token, most_tokens, most_bytes, least_words}
use Rattle.tokens.specs.Lex.{refusal, lex_text, answer_from, written_from, answer_by, words_by, lex_answer, lex_words}
use Rattle.tokens.specs.declared.cursor.Refusal.{Refusal}
use Rattle.tokens.specs.declared.lexer.Lexed.{Lexed}
use Rattle.tokens.specs.declared.lexer.Refusal.{Refusal as LexRefusal}
use Rattle.sheet.specs.Sheet.{sheet_check}
use Rattle.sheet.specs.Adapters.{has}
use Rattle.sheet.specs.Survey.{survey_of}
use Rattle.sheet.specs.View.{View, seen, own_primary, view_of}
use Rattle.sheet.specs.declared.Call.{Call}
use Rattle.sheet.specs.declared.rows.BadLine.{BadLine}
use Rattle.sheet.specs.declared.rows.Said.{Said}
use Rattle.sheet.proofs.CallLaws.{in_byte, sheet-bad, sheet-good, own_is, view-is}
use Rattle.topics.specs.Topics.{lent_topics}
use Rattle.topics.specs.Ranges.{lent_with}
use Rattle.topics.proofs.RangeLaws.{lent-alone}
use Rattle.language.specs.Section.{Lists}
use Rattle.tokens.specs.Ended.{Ended, record_words, token_line, token_column}
use Rattle.tokens.specs.Placed.{AllInWord}
use Rattle.model.specs.Lists.{refused_with}
use Rattle.language.specs.Read.{parsed, rule_of, lexed_from, by_primary, by_text, by_sheet, Outcome, read_of}
use Rattle.language.specs.Demand.{Exact}
use Rattle.tokens.specs.Buffer.{Holds, front_of}
use Rattle.model.specs.declared.Answer.{Answer}
use Rattle.language.proofs.AskedLaws.{lexed-complete}
use Rattle.language.proofs.Theorem.{few, exact}
use Rattle.language.proofs.HoldsLaws.{read-holds}
use Rattle.reader.specs.Parts.{placed, answered, not_own}
use Rattle.tokens.proofs.BufferLaws.{buffer-size, records-count, line_in, column_in, end_line, end-column, line-past, column-past, answer-ended, RefusedAt, answer-refused, buffer-records}
use Rattle.tokens.proofs.PlacedLaws.{all_in-word}

-- the place in the records is the token's or the end's
placed-parsed : {l : Lexing} {n : ℕ} → AllInWord l → Ended l n → (r : Refusal) → placed (record_words l) (end_line l) (end-column l) r ≡ parsed l (no r)
unfolding placed parsed
placed-parsed {l} {n} kept e r = by (ltb r.token (capacity (record_words l))) refl
  where
    by : (b : Bool) → ltb r.token (capacity (record_words l)) ≡ b →
        pick b (refused_with r.number (line_at (record_words l) r.token) (column_at (record_words l) r.token) r.detail)
        (refused_with r.number (end_line l) (end-column l) r.detail) ≡
        refused_with r.number (token_line l r.token) (token_column l r.token) r.detail
    by true h =
        let inside : r.token < n = let c = records-count e in let p = ltb-true r.token (capacity (record_words l)) h in omega arith in
        rw (line_in kept e r.token inside, column_in kept e r.token inside)
    by false h =
        let past : n ≤ r.token = let c = records-count e in let p = ltb-false r.token (capacity (record_words l)) h in omega arith in
        rw (line-past e r.token past, column-past e r.token past)

answered-parsed : {l : Lexing} {n : ℕ} → AllInWord l → Ended l n → (m : Res Lists) → answered (record_words l) (end_line l) (end-column l) m ≡ parsed l m
unfolding answered parsed
answered-parsed kept e (ok lists i) = refl
answered-parsed kept e (no r) = placed-parsed kept e r

-- questions 1 and 2 are passed
abbrev pub Asked : List ℕ → List ℕ → Type 0
Asked text words = (length text ≤ most_bytes) × (least_words ≤ length words)

-- what is answered once the text is lexed into these words
abbrev lexed_by : List ℕ → View → List (List ℕ) → List ℕ → Result Lexed LexRefusal → Answer
lexed_by text view lent words (Ok t) =
    answered (take (t.count * record_size) words) t.line t.column (rule_of text (take (t.count * record_size) words) view lent)
lexed_by text view lent words (Err r) = refused_with r.number r.line r.column 0

-- a lexing that was refused answers so, too
refused-same : (text : List ℕ) (view : View) (lent : List (List ℕ)) (whole l : Lexing) (number line column : ℕ) → RefusedAt number line column l →
    refused_with number line column 0 ≡ lexed_from text view lent whole l
unfolding lexed_from
refused-same text view lent whole (ended p) number line column r = absurd r
refused-same text view lent whole (refused n p) number line column r = rw (r.0, r.1, r.2)
refused-same text view lent whole (token r l) number line column h = refused-same text view lent whole l number line column h

-- lexed into a buffer with room, and parsed from it
module _ (text : List ℕ) (view : View) (lent : List (List ℕ)) (words : List ℕ) (short : length text ≤ most_bytes) (room : least_words ≤ length words) where
  by_answer : (x : Result Lexed LexRefusal) → answer_from 0 (lex_text text) ≡ x →
      lexed_by text view lent (written_from 0 words (lex_text text)) x ≡ lexed_from text view lent (lex_text text) (lex_text text)
  by_answer (Err r) e = refused-same text view lent (lex_text text) (lex_text text) r.number r.line r.column (answer-refused 0 (lex_text text) e)
  by_answer (Ok t) e =
      let a = answer-ended 0 (lex_text text) e in
      let n = a.0 in
      let same : n ≡ t.count = let s = a.2 in omega arith in
      let fits : n * record_size ≤ length words = let f = few text a.1 in omega arith in
      let records : take (t.count * record_size) (written_from 0 words (lex_text text)) ≡ record_words (lex_text text) =
      rw (← same) (buffer-records words a.1 fits) in
      rw (records, a.3, a.4) (answered-parsed (all_in-word text short) a.1 (rule_of text (record_words (lex_text text)) view lent)) ∙
      sym (lexed-complete text view lent (lex_text text) a.1)

  answer_by_lem : (x : Result Unit IllFormed) → lexed_by text view lent (words_by text words x) (answer_by text x) ≡ (by_text text view lent words true x).answer
  unfolding answer_by words_by by_text by_primary
  answer_by_lem (Ok _) = by_answer (answer_from 0 (lex_text text)) refl
  answer_by_lem (Err at) = refl

  pub lexed-same : lexed_by text view lent (lex_words text words) (lex_answer text words) ≡ (by_text text view lent words true (check_of text)).answer
  unfolding lex_answer lex_words
  lexed-same = rw (le-ltb most_bytes (length text) short, le-ltb (length words) least_words room) (answer_by_lem (check_of text))

  words_by_lem : (x : Result Unit IllFormed) → words_by text words x ≡ (by_text text view lent words true x).buffer
  unfolding words_by by_text by_primary
  words_by_lem (Ok _) = refl
  words_by_lem (Err at) = refl

  pub words_same : lex_words text words ≡ (by_text text view lent words true (check_of text)).buffer
  unfolding lex_words
  words_same = rw (le-ltb most_bytes (length text) short, le-ltb (length words) least_words room) (words_by_lem (check_of text))

-- an answer with tokens passed a question
abbrev is-tokens : Result Lexed LexRefusal → Bool
is-tokens (Ok t) = true
is-tokens (Err r) = false

passed : (b : Bool) (number : ℕ) (x : Result Lexed LexRefusal) {t : Lexed} → pick b (refusal number 0 0) x ≡ Ok t → (b ≡ false) × (x ≡ Ok t)
passed true number x e = absurd (let p = ap is-tokens e in let z : ◌≡◌ {A = ℕ} 0 1 = cc in omega arith)
passed false number x e = (refl, e)

passed-check : (text : List ℕ) (x : Result Unit IllFormed) {t : Lexed} → answer_by text x ≡ Ok t → answer_from 0 (lex_text text) ≡ Ok t
unfolding answer_by
passed-check text (Ok _) e = e
passed-check text (Err at) e = absurd (let p = ap is-tokens e in let z : ◌≡◌ {A = ℕ} 0 1 = cc in omega arith)

-- at most 1,024 records are counted, and they are in the buffer
counted-few : (text words : List ℕ) {t : Lexed} → lex_answer text words ≡ Ok t → t.count ≤ most_tokens
unfolding lex_answer
counted-few text words e =
    let p = passed (ltb most_bytes (length text)) 1 _ e in
    let q = passed (ltb (length words) least_words) 2 _ p.1 in
    let a = answer-ended 0 (lex_text text) (passed-check text (check_of text) q.1) in
    let f = few text a.1 in
    let s = a.2 in
    omega arith

counted-records : (text words : List ℕ) {t : Lexed} → lex_answer text words ≡ Ok t → t.count * record_size ≤ length words
unfolding lex_answer
counted-records text words e =
    let p = passed (ltb most_bytes (length text)) 1 _ e in
    let q = passed (ltb (length words) least_words) 2 _ p.1 in
    let f = counted-few text words e in
    let r = ltb-false (length words) least_words q.0 in
    omega arith

-- The code's steps. The lexer's answer x, and the buffer behind it:
module _ (text words : List ℕ) {x : Result Lexed LexRefusal} (answer : x ≡ lex_answer text words) where
  lexed-size : length (lex_words text words) ≡ length words
  unfolding lex_words words_by
  lexed-size = by (ltb most_bytes (length text)) (ltb (length words) least_words) (check_of text)
    where
      by : (a b : Bool) (x : Result Unit IllFormed) → length (pick a words (pick b words (words_by text words x))) ≡ length words
      by true b x = refl
      by false true x = refl
      by false false (Ok _) = buffer-size words (lex_text text)
      by false false (Err at) = refl

  module _ {t : Lexed} (was : x ≡ Ok t) where
    in_words : t.count * record_size ≤ length words
    in_words = counted-records text words (sym answer ∙ was)

    pub records-fit : Fits w64 (t.count * record_size)
    records-fit = record { fits = let f = counted-few text words (sym answer ∙ was) in omega arith }

    pub records_in : {buffer : List ℕ} → buffer ≡ lex_words text words → t.count * record_size ≤ length buffer
    records_in e = rw (e, lexed-size) in_words

    pub records-taken : {buffer : List ℕ} → buffer ≡ lex_words text words → t.count * record_size ≡ length (take (t.count * record_size) buffer)
    records-taken {buffer} e = sym (length-take-le (t.count * record_size) buffer (records_in e))

    by-tokens : (view : View) (lent : List (List ℕ)) {buffer : List ℕ} {r : Answer} → buffer ≡ lex_words text words →
        r ≡ answered (take (t.count * record_size) buffer) t.line t.column (rule_of text (take (t.count * record_size) buffer) view lent) →
        r ≡ lexed_by text view lent (lex_words text words) (lex_answer text words)
    by-tokens view lent e h = rw (← answer, was, ← e) h

    pub lexed-yes : (view : View) (lent : List (List ℕ)) {buffer : List ℕ} {r : Answer} → Asked text words → buffer ≡ lex_words text words →
        r ≡ answered (take (t.count * record_size) buffer) t.line t.column (rule_of text (take (t.count * record_size) buffer) view lent) →
        r ≡ (by_text text view lent words true (check_of text)).answer
    lexed-yes view lent q e h = by-tokens view lent e h ∙ lexed-same text view lent words q.0 q.1

  by-refusal : (view : View) (lent : List (List ℕ)) {no : LexRefusal} {r : Answer} → x ≡ Err no →
      r ≡ refused_with no.number no.line no.column 0 → r ≡ lexed_by text view lent (lex_words text words) (lex_answer text words)
  by-refusal view lent was h = rw (← answer, was) h

  pub lexed-no : (view : View) (lent : List (List ℕ)) {no : LexRefusal} {r : Answer} → Asked text words → x ≡ Err no →
      r ≡ refused_with no.number no.line no.column 0 → r ≡ (by_text text view lent words true (check_of text)).answer
  lexed-no view lent q was h = by-refusal view lent was h ∙ lexed-same text view lent words q.0 q.1

-- the words behind the lexer
pub lexed-words : (text : List ℕ) (view : View) (lent : List (List ℕ)) (words : List ℕ) {buffer : List ℕ} → Asked text words → buffer ≡ lex_words text words →
    buffer ≡ (by_text text view lent words true (check_of text)).buffer
lexed-words text view lent words q e = e ∙ words_same text view lent words q.0 q.1

-- a refusal's place
module _ (words : List ℕ) (line column : ℕ) (refusal : Refusal) {count : ℕ} (counted : count ≡ capacity words) {a : Answer} where
  pub placed_in : {l c : ℕ} → refusal.token < count → l ≡ line_at words refusal.token → c ≡ column_at words refusal.token →
      a ≡ refused_with refusal.number l c refusal.detail → a ≡ placed words line column refusal
  unfolding placed
  placed_in h x y e = lt_yes refusal.token (capacity words) _ _ (rw (← counted) h) (e ∙ rw (x, y))

  pub placed_past : count ≤ refusal.token → a ≡ refused_with refusal.number line column refusal.detail → a ≡ placed words line column refusal
  unfolding placed
  placed_past h e = lt_no refusal.token (capacity words) _ _ (rw (← counted) h) e

-- a call whose primary adapter is not its party's
pub not_own_by : (x : Result Unit IllFormed) {r v : Result Unit IllFormed} {a : Answer} → r ≡ x → r ≡ v → a ≡ not_own v → a ≡ not_own x
not_own_by x e m h = rw (← e, m) h

not_own-answer : (text : List ℕ) (view : View) (lent : List (List ℕ)) (words : List ℕ) (c : Result Unit IllFormed) → not_own c ≡ (by_text text view lent words false c).answer
unfolding not_own by_text by_primary
not_own-answer text view lent words (Ok _) = refl
not_own-answer text view lent words (Err at) = refl

not_own-buffer : (text : List ℕ) (view : View) (lent : List (List ℕ)) (words : List ℕ) (c : Result Unit IllFormed) → words ≡ (by_text text view lent words false c).buffer
unfolding by_text by_primary
not_own-buffer text view lent words (Ok _) = refl
not_own-buffer text view lent words (Err at) = refl

-- question 3's answer, taken apart: of a sheet that is well formed it says which adapters are the party's, and which are listed
module _ (call : Call) (text sheet : List ℕ) (lent : List (List ℕ)) (words : List ℕ) {survey : Result Said BadLine} (checked : survey ≡ survey_of call.party sheet) where
  abbrev outcome : Outcome
  outcome = by_sheet text (seen call sheet) lent words (own_primary call sheet) (sheet_check sheet)

  module _ {bad : BadLine} (is : survey ≡ Err bad) where
    bad-same : record { answer = refused_with 3 bad.line 0 0; buffer = words } ≡ outcome
    unfolding by_sheet
    bad-same = rw (sheet-bad call sheet checked is)

    pub bad-answer : {a : Answer} → a ≡ refused_with 3 bad.line 0 0 → a ≡ outcome.answer
    bad-answer e = e ∙ ap (λ (o : Outcome). o.answer) bad-same

    pub bad-buffer : words ≡ outcome.buffer
    bad-buffer = ap (λ (o : Outcome). o.buffer) bad-same

  module _ {said : Said} (good : survey ≡ Ok said) (byte : Fits w8 call.primary) {own : Bool} (has-own : own ≡ has said.own call.primary) where
    outcome-is : by_text text (seen call sheet) lent words own (check_of text) ≡ outcome
    unfolding by_sheet
    outcome-is = rw (sheet-good call sheet checked good, own_is call sheet checked good byte has-own)

    abbrev own-outcome : Outcome
    own-outcome =
        by_text text (view_of (record { primary = call.primary; habit = call.habit; own = said.own; listed = said.listed }) sheet) lent words true (check_of text)

    own_same : own ≡ true → own-outcome ≡ outcome
    own_same h = rw (view-is call sheet checked good) (rw h at outcome-is)

    pub own-answer : {a : Answer} → own ≡ true → a ≡ own-outcome.answer → a ≡ outcome.answer
    own-answer h e = e ∙ ap (λ (o : Outcome). o.answer) (own_same h)

    pub own-buffer : {b : List ℕ} → own ≡ true → b ≡ own-outcome.buffer → b ≡ outcome.buffer
    own-buffer h e = e ∙ ap (λ (o : Outcome). o.buffer) (own_same h)

    other-same : own ≡ false → by_text text (seen call sheet) lent words false (check_of text) ≡ outcome
    other-same h = rw h at outcome-is

    pub other-answer : {a : Answer} → own ≡ false → a ≡ not_own (check_of text) → a ≡ outcome.answer
    other-answer h e = e ∙ not_own-answer text (seen call sheet) lent words (check_of text) ∙ ap (λ (o : Outcome). o.answer) (other-same h)

    pub other-buffer : own ≡ false → words ≡ outcome.buffer
    other-buffer h = not_own-buffer text (seen call sheet) lent words (check_of text) ∙ ap (λ (o : Outcome). o.buffer) (other-same h)

-- questions 1 and 2, and what lies behind them
module _ (call : Call) (text sheet : List ℕ) (lent : List (List ℕ)) (words : List ℕ) where
  long_same : most_bytes < length text → record { answer = refused_with 1 0 0 0; buffer = words } ≡ read_of call text sheet lent words
  unfolding read_of
  long_same h = rw (lt-ltb most_bytes (length text) h)

  small_same : length text ≤ most_bytes → length words < least_words → record { answer = refused_with 2 0 0 0; buffer = words } ≡ read_of call text sheet lent words
  unfolding read_of
  small_same s h = rw (le-ltb most_bytes (length text) s, lt-ltb (length words) least_words h)

  asked-same : length text ≤ most_bytes → least_words ≤ length words → by_sheet text (seen call sheet) lent words (own_primary call sheet) (sheet_check sheet) ≡ read_of call text sheet lent words
  unfolding read_of
  asked-same s h = rw (le-ltb most_bytes (length text) s, le-ltb (length words) least_words h)

  module _ {a : Answer} where
    pub long-answer : most_bytes < length text → a ≡ refused_with 1 0 0 0 → a ≡ (read_of call text sheet lent words).answer
    long-answer h e = e ∙ ap (λ (o : Outcome). o.answer) (long_same h)

    pub small-answer : length text ≤ most_bytes → length words < least_words → a ≡ refused_with 2 0 0 0 → a ≡ (read_of call text sheet lent words).answer
    small-answer s h e = e ∙ ap (λ (o : Outcome). o.answer) (small_same s h)

    pub asked-answer : length text ≤ most_bytes → least_words ≤ length words → a ≡ (by_sheet text (seen call sheet) lent words (own_primary call sheet) (sheet_check sheet)).answer →
        a ≡ (read_of call text sheet lent words).answer
    asked-answer s h e = e ∙ ap (λ (o : Outcome). o.answer) (asked-same s h)

  pub long-buffer : most_bytes < length text → words ≡ (read_of call text sheet lent words).buffer
  long-buffer h = ap (λ (o : Outcome). o.buffer) (long_same h)

  pub small-buffer : length text ≤ most_bytes → length words < least_words → words ≡ (read_of call text sheet lent words).buffer
  small-buffer s h = ap (λ (o : Outcome). o.buffer) (small_same s h)

  pub asked-buffer : {b : List ℕ} → length text ≤ most_bytes → least_words ≤ length words → b ≡ (by_sheet text (seen call sheet) lent words (own_primary call sheet) (sheet_check sheet)).buffer →
      b ≡ (read_of call text sheet lent words).buffer
  asked-buffer s h e = e ∙ ap (λ (o : Outcome). o.buffer) (asked-same s h)

-- all that the call promises, by its answer and the words at exit
pub promised : (call : Call) → Fits w8 call.primary → (text sheet : List ℕ) (lent : List (List ℕ)) (words : List ℕ) {a : Answer} {exit : List ℕ} → a ≡ (read_of call text sheet lent words).answer → exit ≡ (read_of call text sheet lent words).buffer →
    ((a ≡ (read_of call text sheet lent words).answer) × (exit ≡ (read_of call text sheet lent words).buffer))
    × (Holds (front_of a.number text) words exit × Exact call text sheet lent (length words) a)
promised call byte text sheet lent words e f =
    ((e, f), (read-holds call text sheet lent words e f, subst (λ (x : Answer). Exact call text sheet lent (length words) x) (sym e) (exact call (in_byte byte) text sheet lent words)))

-- where no earlier rule is read with this one, the lent topics are all that count
module _ (call : Call) (text sheet lent first earlier words : List ℕ) (none : length earlier ≡ 0) where
  same-alone : read_of call text sheet (lent_with lent first earlier) words ≡ read_of call text sheet (lent_topics lent) words
  same-alone = ap (λ (topics : List (List ℕ)). read_of call text sheet topics words) (lent-alone lent first earlier none)

  pub alone-answer : {a : Answer} → a ≡ (read_of call text sheet (lent_with lent first earlier) words).answer →
      a ≡ (read_of call text sheet (lent_topics lent) words).answer
  alone-answer e = e ∙ ap (λ (o : Outcome). o.answer) same-alone

  pub alone-buffer : {b : List ℕ} → b ≡ (read_of call text sheet (lent_with lent first earlier) words).buffer →
      b ≡ (read_of call text sheet (lent_topics lent) words).buffer
  alone-buffer e = e ∙ ap (λ (o : Outcome). o.buffer) same-alone
