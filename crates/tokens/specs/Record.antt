-- Token records in the lent words: five words each, kind, number, start, length and the place (document 01, "Tokens and places"; document 02, §5:
-- "Keep both in one word, line × 65,536 + column. A record is then five words").
-- Among the definitions only this file knows their order, in the code src/record.rt, and for callers include/tergyosul.h has it.
use Rattle.std.specs.Prelude.{ℕ, ◌+◌, ◌-◌, ◌*◌, ◌/◌, ◌%◌, List, [], ◌∷◌, length, get_or, ltb}
use Rattle.std.proofs.lemmas.List.Edits.{sets}
use Rattle.text.specs.Choice.{pick}
use Rattle.text.specs.Part.{part_of}
use Rattle.tokens.specs.declared.record.Record.{Record}

-- how many words a record has
abbrev pub record_size : ℕ
record_size = 5

-- how many whole records the words hold
unfoldable pub capacity : List ℕ → ℕ
capacity words = length words / record_size

-- the unit of the line in the word of a place
abbrev pub place_unit : ℕ
place_unit = 65536

-- a line or column that is held in 16 bits: it stops at the greatest number, which only a text that question 1 refuses reaches
unfoldable pub half_word : ℕ → ℕ
half_word n = pick (ltb n place_unit) n (place_unit - 1)

-- the word of a place: "line × 65,536 + column"
unfoldable pub place_word : ℕ → ℕ → ℕ
place_word line column = half_word line * place_unit + half_word column

-- the five words of a record
unfoldable pub words_of : Record → List ℕ
words_of r = r.kind ∷ r.number ∷ r.start ∷ r.length ∷ place_word r.line r.column ∷ []

-- the words with a record written at an index; unchanged where there is no room
unfoldable pub written : List ℕ → ℕ → Record → List ℕ
written words i r = pick (ltb i (capacity words)) (sets words (i * record_size) (words_of r)) words

-- the word k of the record at an index; 0 where there is none
unfoldable pub word_at : List ℕ → ℕ → ℕ → ℕ
word_at words i k = pick (ltb i (capacity words)) (get_or words (i * record_size + k) 0) 0

unfoldable pub kind_at : List ℕ → ℕ → ℕ
kind_at words i = word_at words i 0

unfoldable pub number_at : List ℕ → ℕ → ℕ
number_at words i = word_at words i 1

unfoldable pub start_at : List ℕ → ℕ → ℕ
start_at words i = word_at words i 2

unfoldable pub length_at : List ℕ → ℕ → ℕ
length_at words i = word_at words i 3

unfoldable pub line_at : List ℕ → ℕ → ℕ
line_at words i = word_at words i 4 / place_unit

unfoldable pub column_at : List ℕ → ℕ → ℕ
column_at words i = word_at words i 4 % place_unit

-- the part of the text that a token's record names: of a string, what stands between its quotes
unfoldable pub bytes_at : List ℕ → List ℕ → ℕ → List ℕ
bytes_at text words i = part_of text (start_at words i) (start_at words i + length_at words i)
