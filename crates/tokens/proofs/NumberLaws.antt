-- Every token has a number that its kind can have (specs/Numbers.antt), by the rules of lexing (specs/Rules.antt).
use Prim.Native.Nat.{ℕ, zero, suc}
use native.Mathlib.Omega.{arith}
use mathlib.Core.List.{List, [], ◌++◌}
use borrow.Author.Tests.{le-ltb}
use Rattle.tokens.specs.Record.{capacity, words_of, word_at, kind_at, number_at}
use Rattle.tokens.specs.Lexing.{Lexing, record_of}
use Rattle.tokens.specs.Ended.{record_words}
use Rattle.tokens.specs.Cursor.{tokens}
use Rattle.tokens.specs.Rules.{Shape, DigitRun, worth, Judged, Lexes}
use Rattle.tokens.specs.Numbers.{NumberOfKind, TokenNumbers}
use Rattle.tokens.specs.declared.record.Record.{Record}
use Rattle.tokens.proofs.BufferLaws.{first_word, next_word}

-- every kind can have 0
zero_in : {kind : ℕ} → NumberOfKind kind 0
zero_in = record { integer = λ e. omega arith; time = λ e. omega arith; duration = λ e. omega arith }

-- what a shape is worth
judged_in : {shape : Shape} {kind number : ℕ} → Judged shape (worth kind number) → NumberOfKind kind number
judged_in Judged.word = zero_in
judged_in Judged.string = zero_in
judged_in Judged.sign = zero_in
judged_in (Judged.integer s) =
    record { integer = λ e. s.runs _ DigitRun.integer; time = λ e. omega arith; duration = λ e. omega arith }
judged_in (Judged.time t) =
    record { integer = λ e. omega arith; time = λ e. omega (arith, t.hour, t.minute); duration = λ e. omega arith }
judged_in (Judged.decimal s n few) =
    record { integer = λ e. omega arith; time = λ e. omega arith; duration = λ e. omega arith }
judged_in (Judged.duration s u a few) =
    record { integer = λ e. omega arith; time = λ e. omega arith; duration = λ e. few }

-- ---- in the words of the records

abbrev InWords : List ℕ → ℕ → Type 0
InWords words i = NumberOfKind (kind_at words i) (number_at words i)

none_in : (i : ℕ) → InWords [] i
unfolding kind_at number_at word_at capacity
none_in i = rw (le-ltb i 0 (omega arith)) zero_in

first_in_lem : (r : Record) (words : List ℕ) → NumberOfKind r.kind r.number → InWords (words_of r ++ words) 0
unfolding kind_at number_at words_of
first_in_lem r words h = rw (first_word r words 0, first_word r words 1) h

next_in : (r : Record) (words : List ℕ) (i : ℕ) → InWords words i → InWords (words_of r ++ words) (suc i)
unfolding kind_at number_at
next_in r words i h = rw (next_word r words i 0, next_word r words i 1) h

words_in_lem : {n : ℕ} {before rest : List ℕ} {l : Lexing} → Lexes n before rest l → (i : ℕ) → InWords (record_words l) i
unfolding record_words record_of
words_in_lem (Lexes.end t) i = none_in i
words_in_lem (Lexes.too_many t b) i = none_in i
words_in_lem (Lexes.refusal t b s j) i = none_in i
words_in_lem (Lexes.next t b s j x) zero = first_in_lem _ _ (judged_in j)
words_in_lem (Lexes.next t b s j x) (suc i) = next_in _ _ i (words_in_lem x i)

-- the tokens of any text with these records, as the definitions above this layer see them
pub token-numbers : (text : List ℕ) {n : ℕ} {before rest : List ℕ} {l : Lexing} → Lexes n before rest l → TokenNumbers (tokens text (record_words l))
unfolding tokens
token-numbers text x i = words_in_lem x i
