-- What lexing leaves in the lent words, word by word (specs/Buffer.antt).
use Rattle.std.specs.Prelude.{Option, Some, None, Result, Ok, Err}
use mathlib.Core.Path.{◌≡◌, ◌∙◌, refl, ap, sym}
use mathlib.Core.Bool.{Bool, true, false}
use Prim.Native.Nat.{ℕ, zero, suc, ◌+◌, ◌-◌, ◌*◌, ◌/◌, ◌≤◌}
use native.Mathlib.Omega.{arith}
use native.Mathlib.Nat.{add-zero, zero-add}
use mathlib.Core.List.{List, [], ◌++◌, append_assoc}
use lib.ListN.{length, get_or, take, drop, take-append-drop, length-append, length-drop, get_or-append}
use lib.Seq.{length-take-le, sets-eq, drop-drop, drop-append-add, get_or-append-add, get_or-drop}
use lib.Dec.{ltb}
use borrow.Author.Tests.{lt-ltb, ltb-false}
use Rattle.text.specs.Choice.{pick}
use Rattle.text.specs.Utf8.{Character}
use Rattle.text.specs.Place.{start, check_of}
use Rattle.text.specs.declared.place.IllFormed.{IllFormed}
use Rattle.text.specs.declared.place.Place.{Place}
use Rattle.tokens.specs.Record.{record_size, capacity, words_of, written}
use Rattle.tokens.specs.Token.{look, token_at}
use Rattle.tokens.specs.Lexing.{Lexing, ended, refused, token, most_tokens, most_bytes, least_words}
use Rattle.tokens.specs.Lex.{refusal, lexeme, lex_at, lex_no_more, behind, lex_from, lex_text, answer_from, written_from, answer_by, words_by, lex_answer, lex_words}
use Rattle.tokens.specs.Layout.{Laid, Lexical, no_token_rule, unterminated, too_large, no_time, places, no_unit, long, fine, too_many}
use Rattle.tokens.specs.Ended.{record_words}
use Rattle.tokens.specs.Buffer.{Holds, lex_number, is_asked_first, front_of}
use Rattle.tokens.specs.declared.record.Record.{Record}
use Rattle.tokens.specs.declared.lexer.Lexeme.{Lexeme}
use Rattle.tokens.specs.declared.lexer.Lexed.{Lexed}
use Rattle.tokens.specs.declared.lexer.Refusal.{Refusal}
use Rattle.tokens.proofs.LayoutLaws.{laid}
use Rattle.tokens.proofs.BufferLaws.{written-front, written-size}

-- ---- at most 1,024 records, also where the lexer refuses

few_words : (n : ℕ) (q : Place) (x : Result Lexeme ℕ) (rest : Place → Lexing) → ((p : Place) → length (record_words (rest p)) ≤ n * record_size) →
    length (record_words (lexeme q x rest)) ≤ suc n * record_size
unfolding record_words words_of
few_words n q (Ok t) rest h = let few = h t.next in omega arith
few_words n q (Err number) rest h = omega arith

few-at : (n : ℕ) (s : List ℕ) (q : Place) (x : Option (ℕ × Place)) (rest : Place → Lexing) → ((p : Place) → length (record_words (rest p)) ≤ n * record_size) →
    length (record_words (lex_at s q x rest)) ≤ suc n * record_size
unfolding record_words
few-at n s q (Some (c, next)) rest h = few_words n q (token_at s q c next) rest h
few-at n s q None rest h = omega arith

none-at : (q : Place) (x : Option (ℕ × Place)) → length (record_words (lex_no_more q x)) ≤ 0
unfolding record_words
none-at q (Some (c, next)) = omega arith
none-at q None = omega arith

most-words_from : (n : ℕ) (s : List ℕ) (p : Place) → length (record_words (lex_from n s p)) ≤ n * record_size
unfolding lex_from
most-words_from zero s p = none-at (behind s p) (look s (behind s p))
most-words_from (suc n) s p = few-at n s (behind s p) (look s (behind s p)) (lex_from n s) (most-words_from n s)

-- the records fit into the fewest words that are lent
pub most-words : (s : List ℕ) → length (record_words (lex_text s)) ≤ least_words
unfolding lex_text
most-words s = most-words_from most_tokens s start

-- ---- the words at exit

-- where there is room, what is behind a record stays
written_back : (words : List ℕ) (i : ℕ) (r : Record) (n : ℕ) → (i + 1) * record_size ≤ length words →
    drop ((i + 1) * record_size + n) (written words i r) ≡ drop ((i + 1) * record_size + n) words
unfolding written capacity words_of
written_back words i r n h =
    let front = take (i * record_size) words ++ words_of r in
    let end = i * record_size + record_size in
    let a = length-append (take (i * record_size) words) (words_of r) in
    let b = length-take-le (i * record_size) words (omega arith) in
    let size : (i + 1) * record_size + n ≡ length front + n = omega arith in
    let same : end + n ≡ (i + 1) * record_size + n = omega arith in
    rw (lt-ltb i (length words / record_size) (omega arith))
    (ap (λ (ws : List ℕ). drop ((i + 1) * record_size + n) ws)
    (sets-eq (words_of r) words (i * record_size) (omega arith))
    ∙ ap (λ (k : ℕ). drop k (front ++ drop end words)) size
    ∙ drop-append-add front (drop end words) n
    ∙ drop-drop n end words
    ∙ ap (λ (k : ℕ). drop k words) same)

none_written : (k : ℕ) (words : List ℕ) → words ≡ take k words ++ drop (k + 0) words
none_written k words = sym (ap (λ (n : ℕ). take k words ++ drop n words) (add-zero k) ∙ take-append-drop k words)

-- from an index on: before it what was there, then the records, then what was there
written_all : (i : ℕ) (words : List ℕ) (l : Lexing) → i * record_size + length (record_words l) ≤ length words →
    written_from i words l ≡ take (i * record_size) words ++ (record_words l ++ drop (i * record_size + length (record_words l)) words)
unfolding written_from record_words words_of
written_all i words (ended p) h = none_written (i * record_size) words
written_all i words (refused number p) h = none_written (i * record_size) words
written_all i words (token r l) h =
    let before = take (i * record_size) words in
    let next = written words i r in
    let rest = record_words l in
    let end = (i + 1) * record_size + length rest in
    let size = written-size words i r in
    let same : end ≡ i * record_size + length (words_of r ++ rest) = omega arith in
    written_all (i + 1) next l (omega arith)
    ∙ ap (λ (ws : List ℕ). ws ++ (rest ++ drop end next)) (written-front words i r (omega arith))
    ∙ ap (λ (ws : List ℕ). (before ++ words_of r) ++ (rest ++ ws)) (written_back words i r (length rest) (omega arith))
    ∙ append_assoc before (words_of r) (rest ++ drop end words)
    ∙ ap (λ (n : ℕ). before ++ (words_of r ++ (rest ++ drop n words))) same

-- the records, and behind them what was there
pub buffer-all : (words : List ℕ) (l : Lexing) → length (record_words l) ≤ length words →
    written_from 0 words l ≡ record_words l ++ drop (length (record_words l)) words
buffer-all words l h = written_all 0 words l (omega arith) ∙ rw (zero-add (length (record_words l)))

joined-holds : (front entry : List ℕ) → length front ≤ length entry → Holds front entry (front ++ drop (length front) entry)
joined-holds front entry h =
    let back = drop (length front) entry in
    record {
      size = simp (length-append, length-drop) (omega arith);
      first = λ k i. get_or-append front back 0 k i;
      others =
          λ k i.
          let e : length front + (k - length front) ≡ k = omega arith in
          ap (λ (n : ℕ). get_or (front ++ back) n 0) (sym e) ∙ get_or-append-add front back (k - length front) 0
          ∙ get_or-drop (length front) entry (k - length front) 0 ∙ ap (λ (n : ℕ). get_or entry n 0) e;
    }

unchanged : (words : List ℕ) → Holds [] words words
unchanged words = record { size = refl; first = λ k i. absurd (omega arith); others = λ k i. refl }

-- the records are the first words, and no other word changes
pub records-held : (s words : List ℕ) → least_words ≤ length words → Holds (record_words (lex_text s)) words (written_from 0 words (lex_text s))
records-held s words h =
    let few = most-words s in
    rw (buffer-all words (lex_text s) (omega arith)) (joined-holds (record_words (lex_text s)) words (omega arith))

-- ---- by the number of the answer

-- no refusal of the lexer is a question that is asked first
pub lexical-late : {number : ℕ} → Lexical number → is_asked_first number ≡ false
lexical-late no_token_rule = refl
lexical-late unterminated = refl
lexical-late too_large = refl
lexical-late no_time = refl
lexical-late places = refl
lexical-late no_unit = refl
lexical-late long = refl
lexical-late fine = refl
lexical-late too_many = refl

answer-late : {s : List ℕ} {before : List Character} {l : Lexing} → Laid s before l → (n : ℕ) → is_asked_first (lex_number (answer_from n l)) ≡ false
unfolding lex_number answer_from
answer-late (Laid.end gap t e) n = refl
answer-late (Laid.refusal gap c rest t e h) n = lexical-late h
answer-late (Laid.next gap u rest t h e x) n = answer-late x (n + 1)

-- the part under the questions that are asked first, and those questions
pub lexed-held : (s words : List ℕ) → least_words ≤ length words →
    Holds (front_of (lex_number (answer_from 0 (lex_text s))) s) words (written_from 0 words (lex_text s))
unfolding front_of
lexed-held s words h = rw (answer-late (laid s) 0) (records-held s words h)

pub asked-held : (number : ℕ) (s words : List ℕ) → is_asked_first number ≡ true → Holds (front_of number s) words words
unfolding front_of
asked-held number s words e = rw e (unchanged words)

checked-held : (s words : List ℕ) → least_words ≤ length words → (c : Result Unit IllFormed) → Holds (front_of (lex_number (answer_by s c)) s) words (words_by s words c)
unfolding answer_by words_by lex_number
checked-held s words h (Ok _) = lexed-held s words h
checked-held s words h (Err at) = asked-held 4 s words refl

held_by : (s words : List ℕ) (t u : Bool) → (u ≡ false → least_words ≤ length words) →
    Holds (front_of (lex_number (pick t (refusal 1 0 0) (pick u (refusal 2 0 0) (answer_by s (check_of s))))) s) words
    (pick t words (pick u words (words_by s words (check_of s))))
unfolding lex_number
held_by s words true u h = asked-held 1 s words refl
held_by s words false true h = asked-held 2 s words refl
held_by s words false false h = checked-held s words (h refl) (check_of s)

-- for every text and all words
lex-held : (s words : List ℕ) → Holds (front_of (lex_number (lex_answer s words)) s) words (lex_words s words)
unfolding lex_answer lex_words
lex-held s words = held_by s words (ltb most_bytes (length s)) (ltb (length words) least_words) (ltb-false (length words) least_words)

-- the same of what a call that answers x left in the words, beside what it promises
pub with_holds : (s words : List ℕ) {x : Result Lexed Refusal} {exit : List ℕ} → (x ≡ lex_answer s words) × (exit ≡ lex_words s words) →
    ((x ≡ lex_answer s words) × (exit ≡ lex_words s words)) × Holds (front_of (lex_number x) s) words exit
with_holds s words h = (h, rw (h.0, h.1) (lex-held s words))
