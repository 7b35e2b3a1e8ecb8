-- What tokens a text gives, and how that ends (document 01, questions 1, 2, 4 and 10 to 19).
use Rattle.std.specs.Prelude.{ℕ, zero, suc, ◌+◌, List, length, ltb, Option, Some, None, Result, Ok, Err}
use Rattle.text.specs.Choice.{pick}
use Rattle.text.specs.Utf8.{chars}
use Rattle.text.specs.Place.{start, check_of}
use Rattle.text.specs.declared.place.Place.{Place}
use Rattle.text.specs.declared.place.IllFormed.{IllFormed}
use Rattle.tokens.specs.Lexing.{most_tokens, most_bytes, least_words, record_of, Lexing, ended, refused, token}
use Rattle.tokens.specs.Scan.{trivia}
use Rattle.tokens.specs.Token.{look, token_at}
use Rattle.tokens.specs.Record.{written}
use Rattle.tokens.specs.declared.lexer.Lexeme.{Lexeme}
use Rattle.tokens.specs.declared.lexer.Lexed.{Lexed}
use Rattle.tokens.specs.declared.lexer.Refusal.{Refusal}

abbrev pub lexeme : Place → Result Lexeme ℕ → (Place → Lexing) → Lexing
lexeme p (Ok t) rest = token (record_of t.kind t.number t.start t.end p) (rest t.next)
lexeme p (Err number) rest = refused number p

abbrev pub lex_at : List ℕ → Place → Option (ℕ × Place) → (Place → Lexing) → Lexing
lex_at s p (Some (c, next)) rest = lexeme p (token_at s p c next) rest
lex_at s p None rest = ended p

-- "A 1,025th token absent? 19, asked before that token is read."
abbrev pub lex_no_more : Place → Option (ℕ × Place) → Lexing
lex_no_more p (Some (c, next)) = refused 19 p
lex_no_more p None = ended p

-- behind white space and comments
abbrev pub behind : List ℕ → Place → Place
behind s p = trivia 0 p (chars s p.at)

-- the tokens of s from p on, of which n may still come
unfoldable pub lex_from : ℕ → List ℕ → Place → Lexing
lex_from zero s p = lex_no_more (behind s p) (look s (behind s p))
lex_from (suc n) s p = lex_at s (behind s p) (look s (behind s p)) (lex_from n s)

unfoldable pub lex_text : List ℕ → Lexing
lex_text s = lex_from most_tokens s start

-- how lexing ends: with the count of the tokens and the end's line and column, or with a refusal
abbrev pub lexed : ℕ → ℕ → ℕ → Result Lexed Refusal
lexed count line column = Ok (record { count = count; line = line; column = column })

abbrev pub refusal : ℕ → ℕ → ℕ → Result Lexed Refusal
refusal number line column = Err (record { number = number; line = line; column = column })

-- the answer to a caller: with the count of the tokens and the end's place, or the refusal; n tokens came before
unfoldable pub answer_from : ℕ → Lexing → Result Lexed Refusal
answer_from n (ended p) = lexed n p.line p.column
answer_from n (refused number p) = refusal number p.line p.column
answer_from n (token r l) = answer_from (n + 1) l

-- the words with the records written from the index i on
unfoldable pub written_from : ℕ → List ℕ → Lexing → List ℕ
written_from i words (ended p) = words
written_from i words (refused number p) = words
written_from i words (token r l) = written_from (i + 1) (written words i r) l

-- "Text well-formed UTF-8 (RFC 3629)? 4": the answer and the words at exit once that is asked
unfoldable pub answer_by : List ℕ → Result Unit IllFormed → Result Lexed Refusal
answer_by s (Ok _) = answer_from 0 (lex_text s)
answer_by s (Err at) = refusal 4 at.line at.column

unfoldable pub words_by : List ℕ → List ℕ → Result Unit IllFormed → List ℕ
words_by s words (Ok _) = written_from 0 words (lex_text s)
words_by s words (Err at) = words

-- "A text gives tokens if it passes 1, 4 and, throughout, 10 to 18": the answer and the words at exit. Question 2 is asked behind 1.
unfoldable pub lex_answer : List ℕ → List ℕ → Result Lexed Refusal
lex_answer s words =
    pick (ltb most_bytes (length s)) (refusal 1 0 0)
    (pick (ltb (length words) least_words) (refusal 2 0 0) (answer_by s (check_of s)))

unfoldable pub lex_words : List ℕ → List ℕ → List ℕ
lex_words s words =
    pick (ltb most_bytes (length s)) words
    (pick (ltb (length words) least_words) words (words_by s words (check_of s)))
