-- The tokens of the vocabulary, as the lexer gives them.
use Prim.Native.Nat.{ℕ, zero, suc, ◌+◌, ◌<◌}
use Prim.Native.String.{String}
use native.Mathlib.Omega.{arith}
use native.Mathlib.Nat.{add-zero, zero-add}
use mathlib.Core.Path.{◌≡◌, refl, sym, ap, ◌∙◌}
use mathlib.Core.Bool.{Bool, true, false}
use mathlib.Core.List.{List, [], ◌∷◌}
use lib.Dec.{T, leb, eqb}
use lib.ListN.{length, get_or}
use Rattle.text.specs.Choice.{pick}
use Rattle.text.specs.Literal.{ascii}
use Rattle.text.specs.White.{is_white, white_space, among as white-among}
use Rattle.text.specs.Utf8.{chars, chars_from, front, sized, sequence_length}
use Rattle.text.specs.Part.{part_of, same_bytes}
use Rattle.text.specs.Place.{step_of, after, counted}
use Rattle.text.specs.Ascii.{is_digit, is_alpha, is_word_start, is_word_part}
use Rattle.tokens.specs.Kind.{WORD, INTEGER, OPEN, CLOSE, POINT, POINTS, EQ, PLUS, MINUS}
use Rattle.tokens.specs.Record.{capacity, half_word, place_word, words_of, word_at, kind_at, number_at, start_at, length_at, bytes_at}
use Rattle.tokens.specs.Scan.{passed, trivia_mode, trivia, with_digit, digits}
use Rattle.tokens.specs.Token.{single_kind, pair_kind, single, punct, point, number_at as tokens-number_at, number, word as word_token, token_at}
use Rattle.tokens.specs.Lexing.{record_of}
use Rattle.tokens.specs.Lex.{lex_from, lex_text}
use Rattle.tokens.specs.Ended.{record_words}
use Rattle.tokens.specs.Cursor.{Tok, bytes_of, tokens}
use Rattle.text.proofs.Computed.{under, below}
use Rattle.model.specs.Limits.{last_short_address}
use Rattle.chains.specs.Vocabulary.{piece_count, piece_token}
use Rattle.chains.proofs.TableLaws.{same, same_true}

abbrev word : String → Tok
word s = record { kind = WORD; number = 0; bytes = ascii s }

abbrev integer : ℕ → Tok
integer n = record { kind = INTEGER; number = n; bytes = [] }

abbrev sign : ℕ → Tok
sign kind = record { kind = kind; number = 0; bytes = [] }

abbrev pub piece_tokens : List Tok
piece_tokens =
    word "lamp"
    ∷ word "sun"
    ∷ word "time"
    ∷ word "is"
    ∷ word "in"
    ∷ word "on"
    ∷ word "off"
    ∷ word "up"
    ∷ word "down"
    ∷ word "sunrise"
    ∷ word "sunset"
    ∷ word "level"
    ∷ word "and"
    ∷ integer 0
    ∷ integer 63
    ∷ integer 64
    ∷ sign OPEN
    ∷ sign CLOSE
    ∷ sign POINT
    ∷ sign POINTS
    ∷ sign EQ
    ∷ sign PLUS
    ∷ sign MINUS
    ∷ []

abbrev pub no_token : Tok
no_token = sign 0

-- the lexer gives them
abbrev Given : List Tok → ℕ → Type 0
Given [] q = Unit {0}
Given (t ∷ ts) q = (piece_token q ≡ t) × Given ts (suc q)

given : Given piece_tokens 0
unfolding piece_token tokens bytes_of kind_at number_at bytes_at start_at length_at word_at capacity words_of place_word half_word record_words lex_text lex_from record_of
    chars chars_from front sized sequence_length step_of after counted trivia trivia_mode is_white white_space white-among is_digit is_alpha is_word_start
    is_word_part passed with_digit digits part_of same_bytes single_kind pair_kind single punct point tokens-number_at number word_token token_at
given = (refl, (refl, (refl, (refl, (refl, (refl, (refl, (refl, (refl, (refl, (refl, (refl, (refl, (refl, (refl, (refl, (refl, (refl, (refl, (refl, (refl, (refl, (refl, tt)))))))))))))))))))))))

given-at : (ts : List Tok) (q k : ℕ) → Given ts q → k < length ts → piece_token (q + k) ≡ get_or ts k no_token
given-at [] q k g h = elim h [ ]
given-at (t ∷ ts) q zero g h = rw add-zero g.0
given-at (t ∷ ts) q (suc k) g h = let e : q + suc k ≡ suc q + k = omega arith in rw e (given-at ts (suc q) k g.1 (omega arith))

pub lexed : (q : ℕ) → q < piece_count → piece_token q ≡ get_or piece_tokens q no_token
lexed q h = rw zero-add at (given-at piece_tokens 0 q given h)

-- the tests on a token
abbrev pub spells : List ℕ → Tok → Bool
spells w t = pick (eqb t.kind WORD) (same_bytes t.bytes w) false

abbrev pub of-kind : ℕ → Tok → Bool
of-kind kind t = eqb t.kind kind

abbrev pub is_id : Tok → Bool
is_id t = pick (eqb t.kind INTEGER) (leb t.number last_short_address) false

-- a test holds of these pieces and of no others, computed over the vocabulary
abbrev pub among : List ℕ → ℕ → Bool
among [] q = false
among (k ∷ ks) q = pick (eqb q k) true (among ks q)

abbrev pub Only : (Tok → Bool) → List ℕ → Type 0
Only f ks = T (under (λ q. same (f (get_or piece_tokens q no_token)) (among ks q)) piece_count)

pub only : (f : Tok → Bool) (ks : List ℕ) → Only f ks → (q : ℕ) → q < piece_count → f (piece_token q) ≡ true → among ks q ≡ true
only f ks x q h e =
    sym (same_true _ _ (below (λ q. same (f (get_or piece_tokens q no_token)) (among ks q)) piece_count x q h)) ∙ (ap f (sym (lexed q h)) ∙ e)
