-- Lexings that come to the end of their text: limits on the number of tokens, the records' size, the places in them, and the words that lexing
-- leaves and answers.
use Rattle.std.specs.Prelude.{Option, Some, None, Result, Ok, Err}
use Prim.Native.Nat.{ℕ, zero, suc, ◌+◌, ◌*◌, ◌/◌, ◌%◌, ◌<◌, ◌≤◌}
use native.Mathlib.Omega.{arith}
use native.Mathlib.Decide.{dec_lt}
use native.Mathlib.Nat.{zero-add, add-zero}
use mathlib.Core.Path.{◌≡◌, refl, sym, ap, ◌∙◌}
use mathlib.Core.List.{List, ◌++◌, append_assoc, append-nil}
use lib.ListN.{length, get_or, take, drop, length-append}
use lib.Seq.{length-sets, sets-eq, length-take-le, take_at}
use lib.Dec.{ltb}
use borrow.Author.Tests.{lt-ltb, le-ltb}
use Rattle.text.specs.Utf8.{Character}
use Rattle.text.specs.declared.place.Place.{Place}
use Rattle.text.proofs.Tests.{picked}
use Rattle.tokens.specs.Record.{record_size, capacity, place_unit, words_of, written, word_at, kind_at, line_at, column_at}
use Rattle.tokens.specs.Cursor.{tokens}
use Rattle.tokens.specs.Lexing.{record_of, Lexing, ended, refused, token}
use Rattle.tokens.specs.Lex.{lexed, refusal, lex_text, answer_from, written_from, lexeme, lex_at, lex_no_more, behind as past-trivia, lex_from}
use Rattle.tokens.specs.Layout.{Laid, Lexical, no_token_rule, unterminated, too_large, no_time, places, no_unit, long, fine, too_many}
use Rattle.tokens.specs.declared.record.Record.{Record}
use Rattle.tokens.specs.declared.lexer.Lexed.{Lexed}
use Rattle.tokens.specs.declared.lexer.Refusal.{Refusal}
use Rattle.tokens.specs.Ended.{Ended, at_end_rule, behind, record_words, token_line, token_column}
use Rattle.tokens.specs.Placed.{Each, AllInWord}
use Rattle.tokens.specs.Token.{look, token_at}
use Rattle.tokens.specs.declared.lexer.Lexeme.{Lexeme}
use Rattle.tokens.proofs.RecordLaws.{place_kept}
use Rattle.tokens.proofs.LayoutLaws.{laid}
use Rattle.tokens.proofs.SpelledLaws.{kind-some}

-- ---- limits on the number of tokens, and refusals

-- what ends is no refusal
abbrev Unrefused : Lexing → Type 0
Unrefused (ended p) = Unit {0}
Unrefused (refused number p) = ⊥
Unrefused (token r l) = Unit {0}

unrefused : {l : Lexing} {count : ℕ} → Ended l count → Unrefused l
unrefused at_end_rule = tt
unrefused (behind e) = tt

-- Lexing that comes to an end with at most so many tokens does so under any such limit: at a token, at a step, at any place.
token-left : (q : Place) (x : Result Lexeme ℕ) (rest : Place → Lexing) {count : ℕ} → Ended (lexeme q x rest) count → 1 ≤ count
token-left q (Ok t) rest (behind e) = omega arith
token-left q (Err number) rest e = absurd (unrefused e)

same-token : (q : Place) (x : Result Lexeme ℕ) (rest other : Place → Lexing) (m : ℕ) {count : ℕ} → Ended (lexeme q x rest) count → count ≤ suc m →
    ((p : Place) (count : ℕ) → Ended (rest p) count → count ≤ m → other p ≡ rest p) → lexeme q x other ≡ lexeme q x rest
same-token q (Ok t) rest other m (behind e) l h = ap (token (record_of t.kind t.number t.start t.end q)) (h t.next _ e (omega arith))
same-token q (Err number) rest other m e l h = refl

no_token-left : (s : List ℕ) (q : Place) (x : Option (ℕ × Place)) (rest : Place → Lexing) {count : ℕ} → Ended (lex_at s q x rest) count → count ≤ 0 →
    lex_no_more q x ≡ lex_at s q x rest
no_token-left s q None rest e l = refl
no_token-left s q (Some (c, next)) rest e l = absurd (let some = token-left q (token_at s q c next) rest e in omega arith)

same_step : (s : List ℕ) (q : Place) (x : Option (ℕ × Place)) (rest other : Place → Lexing) (m : ℕ) {count : ℕ} → Ended (lex_at s q x rest) count →
    count ≤ suc m → ((p : Place) (count : ℕ) → Ended (rest p) count → count ≤ m → other p ≡ rest p) → lex_at s q x other ≡ lex_at s q x rest
same_step s q None rest other m e l h = refl
same_step s q (Some (c, next)) rest other m e l h = same-token q (token_at s q c next) rest other m e l h

none-ended : (s : List ℕ) (q : Place) (x : Option (ℕ × Place)) (rest : Place → Lexing) {count : ℕ} → Ended (lex_no_more q x) count →
    lex_at s q x rest ≡ lex_no_more q x
none-ended s q None rest e = refl
none-ended s q (Some (c, next)) rest e = absurd (unrefused e)

pub same-lexing : (n m : ℕ) (s : List ℕ) (p : Place) {count : ℕ} → Ended (lex_from n s p) count → count ≤ m → lex_from m s p ≡ lex_from n s p
unfolding lex_from
same-lexing zero zero s p e l = refl
same-lexing zero (suc m) s p e l = none-ended s (past-trivia s p) (look s (past-trivia s p)) (lex_from m s) e
same-lexing (suc n) zero s p e l = no_token-left s (past-trivia s p) (look s (past-trivia s p)) (lex_from n s) e l
same-lexing (suc n) (suc m) s p e l =
    same_step s (past-trivia s p) (look s (past-trivia s p)) (lex_from n s) (lex_from m s) m e l (λ q c f k. same-lexing n m s q f k)

-- under a limit there are never more tokens
few-tokens : (m : ℕ) (q : Place) (x : Result Lexeme ℕ) (rest : Place → Lexing) {count : ℕ} → Ended (lexeme q x rest) count →
    ((p : Place) (count : ℕ) → Ended (rest p) count → count ≤ m) → count ≤ suc m
few-tokens m q (Ok t) rest (behind e) h = let few = h t.next _ e in omega arith
few-tokens m q (Err number) rest e h = absurd (unrefused e)

few-steps : (m : ℕ) (s : List ℕ) (q : Place) (x : Option (ℕ × Place)) (rest : Place → Lexing) {count : ℕ} → Ended (lex_at s q x rest) count →
    ((p : Place) (count : ℕ) → Ended (rest p) count → count ≤ m) → count ≤ suc m
few-steps m s q None rest at_end_rule h = omega arith
few-steps m s q (Some (c, next)) rest e h = few-tokens m q (token_at s q c next) rest e h

none_more : (q : Place) (x : Option (ℕ × Place)) {count : ℕ} → Ended (lex_no_more q x) count → count ≤ 0
none_more q None at_end_rule = omega arith
none_more q (Some (c, next)) e = absurd (unrefused e)

pub most_tokens_lem : (n : ℕ) (s : List ℕ) (p : Place) {count : ℕ} → Ended (lex_from n s p) count → count ≤ n
unfolding lex_from
most_tokens_lem zero s p e = none_more (past-trivia s p) (look s (past-trivia s p)) e
most_tokens_lem (suc n) s p e = few-steps n s (past-trivia s p) (look s (past-trivia s p)) (lex_from n s) e (λ q c f. most_tokens_lem n s q f)

-- no refusal of the lexer has the number 0
pub lexical : {number : ℕ} → Lexical number → number ≡ 0 → ⊥
lexical no_token_rule e = omega arith
lexical unterminated e = omega arith
lexical too_large e = omega arith
lexical no_time e = omega arith
lexical places e = omega arith
lexical no_unit e = omega arith
lexical long e = omega arith
lexical fine e = omega arith
lexical too_many e = omega arith

-- ---- the records

-- the records of n tokens are so many words
pub records-size : {l : Lexing} {n : ℕ} → Ended l n → length (record_words l) ≡ n * record_size
unfolding record_words words_of
records-size at_end_rule = omega arith
records-size (behind e) = let s = records-size e in omega arith

pub records-count : {l : Lexing} {n : ℕ} → Ended l n → capacity (record_words l) ≡ n
unfolding capacity
records-count e = let s = records-size e in omega arith

-- two tests that hold alike are the same
pub same_test : (a b c d : ℕ) → (a < b → c < d) → (b ≤ a → d ≤ c) → ltb c d ≡ ltb a b
same_test a b c d f g = by (dec_lt a b)
  where
    by : Dec (a < b) → ltb c d ≡ ltb a b
    by (yes h) = lt-ltb c d (f h) ∙ sym (lt-ltb a b h)
    by (no h) = le-ltb c d (g (omega arith)) ∙ sym (le-ltb a b (omega arith))

-- the words of the first record, and those of the records behind it
pub first_word : (r : Record) (words : List ℕ) (k : ℕ) → word_at (words_of r ++ words) 0 k ≡ get_or (words_of r ++ words) k 0
unfolding word_at capacity words_of
first_word r words k =
    rw (lt-ltb 0 (length (words_of r ++ words) / record_size) (omega arith), zero-add k)

pub next_word : (r : Record) (words : List ℕ) (i k : ℕ) → word_at (words_of r ++ words) (suc i) k ≡ word_at words i k
unfolding word_at capacity words_of
next_word r words i k =
    let at : suc i * record_size + k ≡ suc (suc (suc (suc (suc (i * record_size + k))))) = omega arith in
    let inside = same_test i (length words / record_size) (suc i) (length (words_of r ++ words) / record_size) (λ h. omega arith) (λ h. omega arith) in
    rw (inside, at)

-- the place of a token is in its record, if a word holds it
pub line_in : {l : Lexing} {n : ℕ} → AllInWord l → (e : Ended l n) (i : ℕ) → i < n → line_at (record_words l) i ≡ token_line l i
unfolding record_words line_at token_line words_of
line_in a at_end_rule i h = absurd (omega arith)
line_in (Each.at_token p a) (behind {r} {l} e) zero h =
    ap (λ (w : ℕ). w / place_unit) (first_word r (record_words l) 4) ∙ (place_kept r.line r.column p.line_below p.column_below).1
line_in (Each.at_token p a) (behind {r} {l} e) (suc i) h =
    ap (λ (w : ℕ). w / place_unit) (next_word r (record_words l) i 4) ∙ line_in a e i (omega arith)

pub column_in : {l : Lexing} {n : ℕ} → AllInWord l → (e : Ended l n) (i : ℕ) → i < n → column_at (record_words l) i ≡ token_column l i
unfolding record_words column_at token_column words_of
column_in a at_end_rule i h = absurd (omega arith)
column_in (Each.at_token p a) (behind {r} {l} e) zero h =
    ap (λ (w : ℕ). w % place_unit) (first_word r (record_words l) 4) ∙ (place_kept r.line r.column p.line_below p.column_below).2
column_in (Each.at_token p a) (behind {r} {l} e) (suc i) h =
    ap (λ (w : ℕ). w % place_unit) (next_word r (record_words l) i 4) ∙ column_in a e i (omega arith)

-- the place at which lexing ends
abbrev pub end_line : Lexing → ℕ
end_line (ended p) = p.line
end_line (refused number p) = p.line
end_line (token r l) = end_line l

abbrev pub end-column : Lexing → ℕ
end-column (ended p) = p.column
end-column (refused number p) = p.column
end-column (token r l) = end-column l

-- past the tokens it is the end's
pub line-past : {l : Lexing} {n : ℕ} (e : Ended l n) (i : ℕ) → n ≤ i → token_line l i ≡ end_line l
unfolding token_line
line-past at_end_rule i h = refl
line-past (behind e) zero h = absurd (omega arith)
line-past (behind e) (suc i) h = line-past e i (omega arith)

pub column-past : {l : Lexing} {n : ℕ} (e : Ended l n) (i : ℕ) → n ≤ i → token_column l i ≡ end-column l
unfolding token_column
column-past at_end_rule i h = refl
column-past (behind e) zero h = absurd (omega arith)
column-past (behind e) (suc i) h = column-past e i (omega arith)

-- the three numbers of an answer, and which of the two it is
abbrev which : Result Lexed Refusal → ℕ
which (Ok t) = 0
which (Err r) = 1

abbrev first_in_lem : Result Lexed Refusal → ℕ
first_in_lem (Ok t) = t.count
first_in_lem (Err r) = r.number

abbrev line_of : Result Lexed Refusal → ℕ
line_of (Ok t) = t.line
line_of (Err r) = r.line

abbrev column-of : Result Lexed Refusal → ℕ
column-of (Ok t) = t.column
column-of (Err r) = r.column

-- what lexing answers: count and the end's place, for a lexing that ended
pub answer-ended : (k : ℕ) (l : Lexing) {count line column : ℕ} → answer_from k l ≡ lexed count line column →
    (n : ℕ) × Ended l n × (k + n ≡ count) × (line ≡ end_line l) × (column ≡ end-column l)
unfolding answer_from
answer-ended k (ended p) e = (0, at_end_rule, add-zero k ∙ ap first_in_lem e, sym (ap line_of e), sym (ap column-of e))
answer-ended k (refused number p) e = absurd (let z : ◌≡◌ {A = ℕ} 1 0 = ap which e in omega arith)
answer-ended k (token r l) e =
    let a = answer-ended (k + 1) l e in
    let n = a.0 in
    let c = a.2 in
    (suc n, behind a.1, omega arith, a.3, a.4)

-- what it answers for one that was refused, with the place of the refusal
abbrev pub RefusedAt : ℕ → ℕ → ℕ → Lexing → Type 0
RefusedAt number line column (ended p) = ⊥
RefusedAt number line column (refused n p) = (n ≡ number) × (p.line ≡ line) × (p.column ≡ column)
RefusedAt number line column (token r l) = RefusedAt number line column l

pub answer-refused : (k : ℕ) (l : Lexing) {number line column : ℕ} → answer_from k l ≡ refusal number line column → RefusedAt number line column l
unfolding answer_from
answer-refused k (ended p) e = absurd (let z : ◌≡◌ {A = ℕ} 0 1 = ap which e in omega arith)
answer-refused k (refused number p) e = (ap first_in_lem e, ap line_of e, ap column-of e)
answer-refused k (token r l) e = answer-refused (k + 1) l e

-- a record that is written leaves as many words
pub written-size : (words : List ℕ) (i : ℕ) (r : Record) → length (written words i r) ≡ length words
unfolding written
written-size words i r =
    picked (λ (ws : List ℕ). length ws ≡ length words) (ltb i (capacity words)) (λ h. length-sets words (i * record_size) (words_of r)) (λ h. refl)

buffer-size-from : (i : ℕ) (words : List ℕ) (l : Lexing) → length (written_from i words l) ≡ length words
unfolding written_from
buffer-size-from i words (ended p) = refl
buffer-size-from i words (refused number p) = refl
buffer-size-from i words (token r l) = buffer-size-from (i + 1) (written words i r) l ∙ written-size words i r

-- the buffer keeps its size
pub buffer-size : (words : List ℕ) (l : Lexing) → length (written_from 0 words l) ≡ length words
buffer-size words l = buffer-size-from 0 words l

-- where there is room, the words before a record stay, and behind them stands the record
pub written-front : (words : List ℕ) (i : ℕ) (r : Record) → (i + 1) * record_size ≤ length words →
    take ((i + 1) * record_size) (written words i r) ≡ take (i * record_size) words ++ words_of r
unfolding written capacity words_of
written-front words i r h =
    let front = take (i * record_size) words ++ words_of r in
    let rest = drop (i * record_size + record_size) words in
    let a = length-append (take (i * record_size) words) (words_of r) in
    let b = length-take-le (i * record_size) words (omega arith) in
    let size : length front ≡ (i + 1) * record_size = omega arith in
    rw (lt-ltb i (length words / record_size) (omega arith))
    (ap (λ (ws : List ℕ). take ((i + 1) * record_size) ws) (sets-eq (words_of r) words (i * record_size) (omega arith)) ∙ take_at front rest ((i + 1) * record_size) size)

-- from an index on: the words before it stay, and behind them stand the records
records-from : {l : Lexing} {n : ℕ} (i : ℕ) (words : List ℕ) → Ended l n → (i + n) * record_size ≤ length words →
    take ((i + n) * record_size) (written_from i words l) ≡ take (i * record_size) words ++ record_words l
unfolding written_from record_words
records-from i words at_end_rule h = rw (add-zero i, append-nil (take (i * record_size) words))
records-from i words (behind {r} {l} {count} e) h =
    let size = written-size words i r in
    let at : i + suc count ≡ i + 1 + count = omega arith in
    ap (λ (k : ℕ). take (k * record_size) (written_from (i + 1) (written words i r) l)) at
    ∙ records-from (i + 1) (written words i r) e (omega arith)
    ∙ ap (λ (ws : List ℕ). ws ++ record_words l) (written-front words i r (omega arith))
    ∙ append_assoc (take (i * record_size) words) (words_of r) (record_words l)

-- the words that are written are the records, one after the other
pub buffer-records : {l : Lexing} {n : ℕ} (words : List ℕ) → Ended l n → n * record_size ≤ length words →
    take (n * record_size) (written_from 0 words l) ≡ record_words l
buffer-records {l} {n} words e h =
    ap (λ (k : ℕ). take (k * record_size) (written_from 0 words l)) (sym (zero-add n)) ∙ records-from 0 words e (omega arith)

-- kinds of tokens are above 0
first-kind : (r : Record) (l : Lexing) → 1 ≤ r.kind → 1 ≤ kind_at (record_words (token r l)) 0
unfolding record_words kind_at words_of
first-kind r l some =
    let w = first_word r (record_words l) 0 in
    omega arith

next-kind : (r : Record) (l : Lexing) (i : ℕ) → 1 ≤ kind_at (record_words l) i → 1 ≤ kind_at (record_words (token r l)) (suc i)
unfolding record_words kind_at words_of
next-kind r l i some =
    let w = next_word r (record_words l) i 0 in
    omega arith

-- one token, and those behind it
record Behind (l : Lexing) (n : ℕ) : Type 0 where
  count : ℕ
  is : n ≡ suc count
  rest : Ended l count

behind_one : {r : Record} {l : Lexing} {n : ℕ} → Ended (token r l) n → Behind l n
behind_one (behind {count} e) = record { count = count; is = refl; rest = e }

at_none : {p : Place} {n : ℕ} → Ended (ended p) n → n ≡ 0
at_none at_end_rule = refl

kinds-some : {s : List ℕ} {before : List Character} {l : Lexing} {n : ℕ} → Laid s before l → Ended l n → (i : ℕ) → i < n →
    1 ≤ kind_at (record_words l) i
unfolding record_of
kinds-some (Laid.end gap a b) e i h =
    let z = at_none e in
    absurd (omega arith)
kinds-some (Laid.refusal gap c rest a b d) e i h = elim e [ ]
kinds-some (Laid.next gap u rest t s c x) e zero h = first-kind _ _ (kind-some s)
kinds-some {before = before} (Laid.next gap u rest t s c x) e (suc i) h =
    let b = behind_one e in
    next-kind _ _ i (kinds-some {before = before ++ (gap ++ u)} x b.rest i (omega (arith, b.is)))

-- so kind 0 stands only past the tokens: forms that end at kind 0 use up all of them
pub used-up : (text : List ℕ) {n : ℕ} → Ended (lex_text text) n → (i : ℕ) →
    (tokens text (record_words (lex_text text)) i).kind ≡ 0 → n ≤ i
unfolding tokens
used-up text {n} e i z = by (dec_lt i n)
  where
    by : Dec (i < n) → n ≤ i
    by (yes h) = absurd (let some = kinds-some (laid text) e i h in omega arith)
    by (no h) = omega arith
