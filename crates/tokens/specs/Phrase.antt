-- Fixed words, in a row or to choose from. A list of them is written as one text, in which a space parts one from the next.
use Rattle.std.specs.Prelude.{ℕ, ◌+◌, List, [], ◌∷◌, Bool, false, length, ltb}
use Rattle.text.specs.Choice.{pick}
use Rattle.text.specs.Part.{part_of, same_bytes}
use Rattle.text.specs.Find.{first_at}
use Rattle.text.specs.Split.{split}
use Rattle.tokens.specs.Kind.{WORD, POINT}
use Rattle.tokens.specs.Result.{Res, ok, bind, refuse}
use Rattle.tokens.specs.Cursor.{Tok, is_word, take_kind, take_word}

-- the words of a list
unfoldable pub words_in : List ℕ → List (List ℕ)
words_in list = split 0x20 list

-- the offset behind the word of a list that begins at an offset, and behind its space, if that word is w; else 0
unfoldable pub behind_word : List ℕ → ℕ → List ℕ → ℕ
behind_word list at w =
    pick (ltb at (length list)) (pick (same_bytes w (part_of list at (first_at 0x20 list at))) (first_at 0x20 list at + 1) 0) 0

-- the place of the first word that is w, from 0; their count if none is
unfoldable pub position : List ℕ → List (List ℕ) → ℕ
position w [] = 0
position w (x ∷ xs) = pick (same_bytes w x) 0 (position w xs + 1)

-- whether one of the words has that place, which is held in 32 bits
abbrev pub has_place : List (List ℕ) → ℕ → Bool
has_place ws n = pick (ltb n (length ws)) (ltb n 4294967296) false

-- which word of a list is w, a word at the token i; j is behind it. One that is none of them is refused with a number.
unfoldable pub choice_by : List ℕ → ℕ → ℕ → ℕ → List ℕ → Res ℕ
choice_by list number i j w =
    pick (has_place (words_in list) (position w (words_in list))) (ok (position w (words_in list)) j) (refuse number i)

-- "any word is taken and then compared": no word is refused with 20, one that is none of the list with the number
unfoldable pub choice_at : (ℕ → Tok) → List ℕ → ℕ → ℕ → Res ℕ
choice_at t list number i = bind (take_kind t WORD i) (λ a j. choice_by list number i j (t i).bytes)

-- these words, one after the other? 20
unfoldable pub take_words : (ℕ → Tok) → List (List ℕ) → ℕ → Res ℕ
take_words t [] i = ok 0 i
take_words t (w ∷ ws) i = bind (take_word t w i) (λ a j. take_words t ws j)

unfoldable pub phrase_at : (ℕ → Tok) → List ℕ → ℕ → Res ℕ
phrase_at t list i = take_words t (words_in list) i

unfoldable pub head_of : List (List ℕ) → List ℕ
head_of [] = []
head_of (w ∷ ws) = w

-- one of two phrases, 0 or 1: the first if its first word stands here. All of it must then stand here, else all of the second? 20
unfoldable pub either_at : (ℕ → Tok) → List ℕ → List ℕ → ℕ → Res ℕ
either_at t first second i =
    pick (is_word t (head_of (words_in first)) i) (bind (phrase_at t first i) (λ a j. ok 0 j)) (bind (phrase_at t second i) (λ a j. ok 1 j))

-- a point and a word of a list
unfoldable pub point_choice : (ℕ → Tok) → List ℕ → ℕ → Res ℕ
point_choice t list i = bind (take_kind t POINT i) (λ a j. choice_at t list 21 j)

-- a phrase and a word of a list
unfoldable pub phrase_choice : (ℕ → Tok) → List ℕ → List ℕ → ℕ → Res ℕ
phrase_choice t phrase list i = bind (phrase_at t phrase i) (λ a j. choice_at t list 21 j)

-- a point and a phrase
unfoldable pub point_phrase : (ℕ → Tok) → List ℕ → ℕ → Res ℕ
point_phrase t list i = bind (take_kind t POINT i) (λ a j. phrase_at t list j)
