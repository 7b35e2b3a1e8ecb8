-- What the grammar's forms are made of (document 01, "Grammar"). `Form t … i v j`: the tokens from i up to j read as v.
use Rattle.std.specs.Prelude.{ℕ, ◌+◌, ◌≤◌, ◌≡◌, List, [], ◌∷◌}
use Rattle.tokens.specs.Kind.{WORD, INTEGER}
use Rattle.tokens.specs.Cursor.{Tok}
use Rattle.tokens.specs.Phrase.{words_in}

-- a token of a kind, with its number
pub data Token (t : ℕ → Tok) (kind : ℕ) : ℕ → ℕ → ℕ → Type 0 where
  token : {i : ℕ} → (t i).kind ≡ kind → Token t kind i (t i).number (i + 1)

-- this word
pub data Word (t : ℕ → Tok) (word : List ℕ) : ℕ → ℕ → Type 0 where
  a_word : {i : ℕ} → (t i).kind ≡ WORD → (t i).bytes ≡ word → Word t word i (i + 1)

-- an integer from 0 to most
pub data UpTo (t : ℕ → Tok) (most : ℕ) : ℕ → ℕ → ℕ → Type 0 where
  up_to : {i n j : ℕ} → Token t INTEGER i n j → n ≤ most → UpTo t most i n j

-- these words, one after the other
pub data Words (t : ℕ → Tok) : List (List ℕ) → ℕ → ℕ → Type 0 where
  none : {i : ℕ} → Words t [] i i
  next : {w : List ℕ} {ws : List (List ℕ)} {i j k : ℕ} → Word t w i j → Words t ws j k → Words t (w ∷ ws) i k

-- the words of a list, one after the other
pub data Phrase (t : ℕ → Tok) (list : List ℕ) : ℕ → ℕ → Type 0 where
  phrase : {i j : ℕ} → Words t (words_in list) i j → Phrase t list i j

-- one of two words, of which `first` stands for a, `second` for b
pub data EitherWord (t : ℕ → Tok) {A : Type 0} (first : List ℕ) (a : A) (second : List ℕ) (b : A) : ℕ → A → ℕ → Type 0 where
  the_first : {i j : ℕ} → Word t first i j → EitherWord t first a second b i a j
  the_second : {i j : ℕ} → Word t second i j → EitherWord t first a second b i b j
