-- Every place of a lexing lies within its text, and in a text that passes question 1 nothing is cut: lines, columns, starts and lengths are the
-- numbers themselves (specs/Placed.antt), in the words of the records, too.
use Rattle.std.specs.Prelude.{Result, Ok, Err}
use mathlib.Core.Path.{◌≡◌, ◌∙◌, refl, sym, subst}
use Prim.Native.Nat.{ℕ, zero, suc, ◌+◌, ◌-◌, ◌≤◌}
use native.Mathlib.Omega.{arith}
use mathlib.Core.List.{List, [], ◌∷◌, ◌++◌, append_assoc, append-nil}
use lib.ListN.{length}
use lib.Dec.{eqb}
use borrow.Author.Tests.{eqb-true, le-ltb}
use Rattle.text.specs.Utf8.{Character, codes, chars}
use Rattle.text.specs.Place.{start, walked, Within}
use Rattle.text.proofs.Tests.{picked}
use Rattle.text.proofs.WithinLaws.{counted-most, counted-exact, row_fits, walked-inside, walked-within, walked-counts}
use Rattle.tokens.specs.Kind.{STRING}
use Rattle.tokens.specs.Record.{capacity, half_word, words_of, word_at, kind_at, number_at, start_at, length_at, line_at, column_at}
use Rattle.tokens.specs.Lexing.{Lexing, ended, refused, token, record_of, most_bytes}
use Rattle.tokens.specs.Lex.{lexed, refusal, lex_text, answer_from}
use Rattle.tokens.specs.Rules.{first_byte, end_byte}
use Rattle.tokens.specs.Layout.{Spelled, Laid}
use Rattle.tokens.specs.Ended.{record_words, token_line, token_column}
use Rattle.tokens.specs.Placed.{Each, at_end_rule, at_refusal, at_token, record_at, zeros, token_record, InWord, AllInWord, RecordWithin, EndExact, RefusalExact, RecordExact}
use Rattle.tokens.specs.declared.record.Record.{Record}
use Rattle.tokens.specs.declared.lexer.Lexed.{Lexed}
use Rattle.tokens.specs.declared.lexer.Refusal.{Refusal}
use Rattle.tokens.proofs.LayoutReads.{walked_on, row}
use Rattle.tokens.proofs.LayoutLaws.{laid}
use Rattle.tokens.proofs.SpelledLaws.{string-some}
use Rattle.tokens.proofs.RecordLaws.{half-most, half-exact, line-half, column-half}
use Rattle.tokens.proofs.BufferLaws.{first_word, next_word}

-- ---- one token

module _ (s : List ℕ) (a u rest : List Character) (text : chars s 0 ≡ a ++ (u ++ rest)) where
  -- each of its characters has a byte at least, and the last ends within the text
  pub spaced : ((walked start a).at + length (codes u) ≤ (walked start (a ++ u)).at) × ((walked start (a ++ u)).at ≤ length s)
  spaced =
      rw (walked_on start a u)
      (row_fits s (walked start a) u rest (row s start a (u ++ rest) text).rest (walked-inside s a (u ++ rest) text))

  module _ {kind number : ℕ} (spelled : Spelled (codes u) kind number) where
    first-inside : first_byte kind (walked start a) ≤ length s
    unfolding first_byte
    first-inside =
        let i = spaced in
        picked (λ (n : ℕ). n ≤ length s) (eqb kind STRING)
        (λ h. omega (arith, string-some spelled (eqb-true kind STRING h), i.0, i.1))
        (λ h. omega (arith, i.0, i.1))

    end-inside : end_byte kind (walked start (a ++ u)) ≤ length s
    unfolding end_byte
    end-inside =
        let i = spaced in
        picked (λ (n : ℕ). n ≤ length s) (eqb kind STRING) (λ h. omega (arith, i.1)) (λ h. i.1)

    abbrev its_record : Record
    its_record = record_of kind number (first_byte kind (walked start a)) (end_byte kind (walked start (a ++ u))) (walked start a)

    token-within : RecordWithin s its_record
    unfolding record_of
    token-within =
        let f = first_byte kind (walked start a) in
        let e = end_byte kind (walked start (a ++ u)) in
        record {
          place = walked-within s a (u ++ rest) text;
          bytes = omega (arith, counted-most f, counted-most (e - f), first-inside, end-inside);
        }

    token-exact : length s ≤ most_bytes → RecordExact s its_record
    unfolding record_of
    token-exact short =
        let f = first_byte kind (walked start a) in
        let e = end_byte kind (walked start (a ++ u)) in
        record {
          before = a;
          spelling = u;
          rest = rest;
          text = text;
          spelled = spelled;
          counts = walked-counts s a (u ++ rest) text (omega arith);
          start_is = counted-exact f (omega (arith, first-inside));
          length_is = counted-exact (e - f) (omega (arith, end-inside));
        }

-- ---- a whole lexing

-- what holds of the place behind all characters of s, of that before any of them, and of any token's record holds of the lexing
module _
    (s : List ℕ) (E F : ℕ → ℕ → Type 0) (T : Record → Type 0)
    (of_end : E (walked start (chars s 0)).line (walked start (chars s 0)).column)
    (of-refusal : (cs : List Character) (c : Character) (rest : List Character) → chars s 0 ≡ cs ++ (c ∷ rest) →
    F (walked start cs).line (walked start cs).column)
    (of-token : (a u rest : List Character) (e : chars s 0 ≡ a ++ (u ++ rest)) (kind number : ℕ) (h : Spelled (codes u) kind number) →
    T (its_record s a u rest e h))
  where
    each_in : {before : List Character} {l : Lexing} → Laid s before l → Each E F T l
    each_in {before} (Laid.end gap t e) = at_end_rule (rw e at of_end)
    each_in {before} (Laid.refusal gap c rest t e n) = at_refusal (of-refusal (before ++ gap) c rest (e ∙ sym (append_assoc before gap (c ∷ rest))))
    each_in {before} (Laid.next {kind} {number} gap u rest t h e x) =
        let k = of-token (before ++ gap) u rest (e ∙ sym (append_assoc before gap (u ++ rest))) kind number h in
        at_token (rw append_assoc at k) (each_in x)

-- all of a text's characters, and none behind them
all_of : (s : List ℕ) → chars s 0 ≡ chars s 0 ++ []
all_of s = sym (append-nil (chars s 0))

-- every place of every text lies within it
pub placed : (s : List ℕ) → Each (Within s) (Within s) (RecordWithin s) (lex_text s)
placed s =
    each_in s (Within s) (Within s) (RecordWithin s)
    (walked-within s (chars s 0) [] (all_of s))
    (λ cs c rest e. walked-within s cs (c ∷ rest) e)
    (λ a u rest e kind number h. token-within s a u rest e h)
    (laid s)

-- "Text at most 16,384 bytes? 1.": what passes it has each number exactly
pub placed_exactly : (s : List ℕ) → length s ≤ most_bytes → Each (EndExact s) (RefusalExact s) (RecordExact s) (lex_text s)
placed_exactly s short =
    each_in s (EndExact s) (RefusalExact s) (RecordExact s)
    (walked-counts s (chars s 0) [] (all_of s) (omega arith))
    (λ cs c rest e. record { before = cs; first = c; rest = rest; text = e; counts = walked-counts s cs (c ∷ rest) e (omega arith) })
    (λ a u rest e kind number h. token-exact s a u rest e h short)
    (laid s)

-- ---- in the words of the records

-- the record as its words hold it
held : Record → Record
held r =
    record {
      kind = r.kind;
      number = r.number;
      start = r.start;
      length = r.length;
      line = half_word r.line;
      column = half_word r.column;
    }

record-first : (r : Record) (words : List ℕ) → record_at (words_of r ++ words) 0 ≡ held r
unfolding record_at kind_at number_at start_at length_at line_at column_at words_of held
record-first r words =
    rw (
      first_word r words 0,
      first_word r words 1,
      first_word r words 2,
      first_word r words 3,
      first_word r words 4,
      line-half r.line r.column,
      column-half r.line r.column,
    )

record-next : (r : Record) (words : List ℕ) (i : ℕ) → record_at (words_of r ++ words) (suc i) ≡ record_at words i
unfolding record_at kind_at number_at start_at length_at line_at column_at
record-next r words i =
    rw (next_word r words i 0, next_word r words i 1, next_word r words i 2, next_word r words i 3, next_word r words i 4)

record-none : (i : ℕ) → record_at [] i ≡ held zeros
unfolding record_at kind_at number_at start_at length_at line_at column_at word_at capacity zeros held half_word
record-none i = rw (le-ltb i 0 (omega arith))

held_at : (l : Lexing) (i : ℕ) → record_at (record_words l) i ≡ held (token_record l i)
unfolding record_words token_record
held_at (ended p) i = record-none i
held_at (refused number p) i = record-none i
held_at (token r l) zero = record-first r (record_words l)
held_at (token r l) (suc i) = record-next r (record_words l) i ∙ held_at l i

-- what holds of each record, and of zeros, holds of the record at any index
each_at : {E F : ℕ → ℕ → Type 0} {T : Record → Type 0} {l : Lexing} → T zeros → Each E F T l → (i : ℕ) → T (token_record l i)
unfolding token_record
each_at z (at_end_rule p) i = z
each_at z (at_refusal p) i = z
each_at z (at_token t e) zero = t
each_at z (at_token t e) (suc i) = each_at z e i

-- every record lies within the text
held-within : (s : List ℕ) (r : Record) → RecordWithin s r → RecordWithin s (held r)
unfolding held
held-within s r w =
    let p = w.place in
    record {
      place =
          record {
            line_most = omega (arith, half-most r.line, p.line_most);
            column_most = omega (arith, half-most r.column, p.column_most);
          };
      bytes = w.bytes;
    }

zeros_within : (s : List ℕ) → RecordWithin s zeros
unfolding zeros
zeros_within s = record { place = record { line_most = omega arith; column_most = omega arith }; bytes = omega arith }

pub within-at : (s : List ℕ) (i : ℕ) → RecordWithin s (record_at (record_words (lex_text s)) i)
within-at s i = rw (held_at (lex_text s) i) (held-within s (token_record (lex_text s) i) (each_at (zeros_within s) (placed s) i))

-- ---- "no place, the end's included, loses anything"

each_so : {E F G H : ℕ → ℕ → Type 0} {T U : Record → Type 0} {l : Lexing} → ((line column : ℕ) → E line column → G line column) →
    ((line column : ℕ) → F line column → H line column) → ((r : Record) → T r → U r) → Each E F T l → Each G H U l
each_so f g h (at_end_rule p) = at_end_rule (f _ _ p)
each_so f g h (at_refusal p) = at_refusal (g _ _ p)
each_so f g h (at_token t e) = at_token (h _ t) (each_so f g h e)

-- "A text of 16,384 bytes cannot pass line or column 16,385"
in_word : {s : List ℕ} → length s ≤ most_bytes → (line column : ℕ) → Within s line column → InWord line column
in_word short line column w = record { line_below = omega (arith, w.line_most); column_below = omega (arith, w.column_most) }

pub all_in-word : (s : List ℕ) → length s ≤ most_bytes → AllInWord (lex_text s)
all_in-word s short = each_so (in_word short) (in_word short) (λ r t. in_word short r.line r.column t.place) (placed s)

held-exact : (r : Record) → InWord r.line r.column → held r ≡ r
unfolding held
held-exact r w = rw (half-exact r.line w.line_below, half-exact r.column w.column_below)

zeros_in_word : InWord zeros.line zeros.column
unfolding zeros
zeros_in_word = record { line_below = omega arith; column_below = omega arith }

-- the words give back each record as it was lexed
pub records-back : (s : List ℕ) → length s ≤ most_bytes → (i : ℕ) → record_at (record_words (lex_text s)) i ≡ token_record (lex_text s) i
records-back s short i =
    held_at (lex_text s) i
    ∙ held-exact
    (token_record (lex_text s) i)
    (each_at {T = λ (r : Record). InWord r.line r.column} zeros_in_word (all_in-word s short) i)

-- where there is a token, its record is exact
abbrev SomeExact : List ℕ → Record → Type 0
SomeExact s r = (r.kind ≡ 0 → ⊥) → RecordExact s r

pub exact-at : (s : List ℕ) → length s ≤ most_bytes → (i : ℕ) → (kind_at (record_words (lex_text s)) i ≡ 0 → ⊥) →
    RecordExact s (record_at (record_words (lex_text s)) i)
unfolding zeros record_at
exact-at s short i h =
    subst (SomeExact s) (sym (records-back s short i))
    (each_at {T = SomeExact s} (λ k. absurd (k refl)) (each_so (λ l c p. p) (λ l c p. p) (λ r t k. t) (placed_exactly s short)) i)
    h

-- ---- in the answers

-- the line and the column of an answer
unfoldable OfAnswer : (ℕ → ℕ → Type 0) → (ℕ → ℕ → Type 0) → Result Lexed Refusal → Type 0
OfAnswer E F (Ok t) = E t.line t.column
OfAnswer E F (Err r) = F r.line r.column

answer_in : {E F : ℕ → ℕ → Type 0} {T : Record → Type 0} {l : Lexing} → Each E F T l → (n : ℕ) → OfAnswer E F (answer_from n l)
unfolding answer_from OfAnswer
answer_in (at_end_rule p) n = p
answer_in (at_refusal p) n = p
answer_in (at_token t e) n = answer_in e (n + 1)

module _ (s : List ℕ) {count line column : ℕ} (is : answer_from 0 (lex_text s) ≡ lexed count line column) where
  pub ended-within : Within s line column
  unfolding OfAnswer
  ended-within = rw is at (answer_in (placed s) 0)

  pub ended_in_word : length s ≤ most_bytes → InWord line column
  ended_in_word short = in_word short line column ended-within

  pub ended_exactly : length s ≤ most_bytes → EndExact s line column
  unfolding OfAnswer
  ended_exactly short = rw is at (answer_in (placed_exactly s short) 0)

module _ (s : List ℕ) {number line column : ℕ} (is : answer_from 0 (lex_text s) ≡ refusal number line column) where
  pub refused-within : Within s line column
  unfolding OfAnswer
  refused-within = rw is at (answer_in (placed s) 0)

  pub refused_in_word : length s ≤ most_bytes → InWord line column
  refused_in_word short = in_word short line column refused-within

  pub refused_exactly : length s ≤ most_bytes → RefusalExact s line column
  unfolding OfAnswer
  refused_exactly short = rw is at (answer_in (placed_exactly s short) 0)

-- "at the token in hand or at the end of text": the place of a refusal by the parser
place_in : {s : List ℕ} {l : Lexing} → Each (Within s) (Within s) (RecordWithin s) l → (i : ℕ) → Within s (token_line l i) (token_column l i)
unfolding token_line token_column
place_in (at_end_rule p) i = p
place_in (at_refusal p) i = p
place_in (at_token t e) zero = t.place
place_in (at_token t e) (suc i) = place_in e i

pub place-within : (s : List ℕ) (i : ℕ) → Within s (token_line (lex_text s) i) (token_column (lex_text s) i)
place-within s i = place_in (placed s) i

pub place_in-word : (s : List ℕ) → length s ≤ most_bytes → (i : ℕ) → InWord (token_line (lex_text s) i) (token_column (lex_text s) i)
place_in-word s short i = in_word short (token_line (lex_text s) i) (token_column (lex_text s) i) (place-within s i)
