-- Records had six words before document 02, §5: "every place reported is the same as before". What is read from five words is what was read
-- from six.
use mathlib.Core.Path.{◌≡◌, ◌∙◌, refl, sym}
use Prim.Native.Nat.{ℕ, zero, suc, ◌+◌, ◌*◌, ◌/◌, ◌≤◌}
use native.Mathlib.Omega.{arith}
use native.Mathlib.Nat.{zero-add}
use mathlib.Core.List.{List, [], ◌∷◌, ◌++◌}
use lib.ListN.{length, get_or}
use lib.Dec.{ltb}
use borrow.Author.Tests.{lt-ltb, le-ltb}
use Rattle.text.specs.Choice.{pick}
use Rattle.tokens.specs.Record.{capacity, words_of}
use Rattle.tokens.specs.Lexing.{Lexing, ended, refused, token, most_tokens, most_bytes, least_words}
use Rattle.tokens.specs.Lex.{lex_text}
use Rattle.tokens.specs.Ended.{record_words}
use Rattle.tokens.specs.Placed.{record_at, zeros, token_record}
use Rattle.tokens.specs.declared.record.Record.{Record}
use Rattle.tokens.proofs.BufferLaws.{same_test}
use Rattle.tokens.proofs.PlacedLaws.{records-back}

-- ---- the former layout

abbrev pub former_size : ℕ
former_size = 6

abbrev pub former_least_words : ℕ
former_least_words = most_tokens * former_size

-- the words that were asked for have room now
pub former_room : {size : ℕ} → former_least_words ≤ size → least_words ≤ size
former_room h = omega arith

abbrev pub former_words_of : Record → List ℕ
former_words_of r = r.kind ∷ r.number ∷ r.start ∷ r.length ∷ r.line ∷ r.column ∷ []

unfoldable pub former_words : Lexing → List ℕ
former_words (ended p) = []
former_words (refused number p) = []
former_words (token r l) = former_words_of r ++ former_words l

unfoldable pub former_capacity : List ℕ → ℕ
former_capacity words = length words / former_size

unfoldable pub former_word_at : List ℕ → ℕ → ℕ → ℕ
former_word_at words i k = pick (ltb i (former_capacity words)) (get_or words (i * former_size + k) 0) 0

unfoldable pub former_record_at : List ℕ → ℕ → Record
former_record_at words i =
    record {
      kind = former_word_at words i 0;
      number = former_word_at words i 1;
      start = former_word_at words i 2;
      length = former_word_at words i 3;
      line = former_word_at words i 4;
      column = former_word_at words i 5;
    }

-- ---- what was read from it

former_first : (r : Record) (words : List ℕ) (k : ℕ) → former_word_at (former_words_of r ++ words) 0 k ≡ get_or (former_words_of r ++ words) k 0
unfolding former_word_at former_capacity
former_first r words k = rw (lt-ltb 0 (length (former_words_of r ++ words) / former_size) (omega arith), zero-add k)

former_next : (r : Record) (words : List ℕ) (i k : ℕ) → former_word_at (former_words_of r ++ words) (suc i) k ≡ former_word_at words i k
unfolding former_word_at former_capacity
former_next r words i k =
    let at : suc i * former_size + k ≡ suc (suc (suc (suc (suc (suc (i * former_size + k)))))) = omega arith in
    let inside =
    same_test i (length words / former_size) (suc i) (length (former_words_of r ++ words) / former_size) (λ h. omega arith) (λ h. omega arith)
    in
    rw (inside, at)

former_none : (i : ℕ) → former_record_at [] i ≡ zeros
unfolding former_record_at former_word_at former_capacity zeros
former_none i = rw (le-ltb i 0 (omega arith))

-- the records as they were lexed
former_at : (l : Lexing) (i : ℕ) → former_record_at (former_words l) i ≡ token_record l i
unfolding former_words former_record_at token_record
former_at (ended p) i = former_none i
former_at (refused number p) i = former_none i
former_at (token r l) zero =
    let ws = former_words l in
    rw
    (former_first r ws 0, former_first r ws 1, former_first r ws 2, former_first r ws 3, former_first r ws 4, former_first r ws 5)
former_at (token r l) (suc i) =
    let ws = former_words l in
    rw
    (former_next r ws i 0, former_next r ws i 1, former_next r ws i 2, former_next r ws i 3, former_next r ws i 4, former_next r ws i 5)
    (former_at l i)

-- ---- the two layouts

-- kind, number, start, length, line and column of every token are read as before
pub same-records : (s : List ℕ) → length s ≤ most_bytes → (i : ℕ) →
    record_at (record_words (lex_text s)) i ≡ former_record_at (former_words (lex_text s)) i
same-records s short i = records-back s short i ∙ sym (former_at (lex_text s) i)

-- and there are as many
pub same_count : (l : Lexing) → capacity (record_words l) ≡ former_capacity (former_words l)
unfolding capacity former_capacity record_words former_words words_of
same_count (ended p) = refl
same_count (refused number p) = refl
same_count (token r l) = let c = same_count l in omega arith
