-- Fixed words, in a row or to choose from: what is accepted of them, and the grammar's readings.
use Prim.Native.Nat.{ℕ, ◌+◌, ◌<◌}
use native.Mathlib.Omega.{arith}
use native.Mathlib.Nat.{add-zero, zero-add}
use mathlib.Core.Path.{◌≡◌, refl, subst}
use mathlib.Core.Bool.{Bool, true, false}
use mathlib.Core.List.{List, [], ◌∷◌}
use lib.ListN.{length}
use lib.Dec.{ltb, eqb}
use borrow.Author.Tests.{ltb-true}
use Rattle.text.specs.Choice.{pick}
use Rattle.text.specs.Part.{same_bytes}
use Rattle.text.proofs.PartLaws.{same-eq, same_refl}
use Rattle.text.proofs.Tests.{both}
use Rattle.tokens.specs.Result.{Res, ok, bind}
use Rattle.tokens.specs.Cursor.{Tok, is_word, take_kind, take_word}
use Rattle.tokens.specs.Phrase.{words_in, position, has_place, choice_by, choice_at, take_words, phrase_at, head_of, either_at, point_choice, phrase_choice, point_phrase}
use Rattle.tokens.specs.Grammar.{Token, token, Word, a_word, Words, none, next, Phrase, phrase, EitherWord, the_first, the_second}
use Rattle.tokens.proofs.Okay.{Okay, bind_ok, pick-ok, mapped, kind-sound, kind-complete, word_sound, word-complete, word-yes, word-no, word-taken, word_bytes}

-- what holds behind each word of a list, by its place; the first has the place n
abbrev pub Places : (t : ℕ → Tok) (i : ℕ) → (ℕ → ℕ → Type 0) → ℕ → List (List ℕ) → Type 0
Places t i P n [] = Unit {0}
Places t i P n (w ∷ ws) = ((j : ℕ) → Word t w i j → P n j) × Places t i P (n + 1) ws

-- behind each word of a list a form goes on with f, by the word's place
abbrev pub Each : {A : Type 0} (t : ℕ → Tok) (i : ℕ) → (A → ℕ → Type 0) → (ℕ → ℕ → Res A) → ℕ → List (List ℕ) → Type 0
Each t i G f n ws = Places t i (λ (m j : ℕ). Okay G (f m j)) n ws

-- what each value goes on with
then_ok : {A : Type 0} (G : A → ℕ → Type 0) (m : Res ℕ) (f : ℕ → ℕ → Res A) → Okay (λ n j. Okay G (f n j)) m → Okay G (bind m f)
then_ok G m f h = bind_ok G m f h (λ n j k. k)

module _ (t : ℕ → Tok) where
  -- ---- these words, one after the other

  words-sound : (ws : List (List ℕ)) (i : ℕ) → Okay (λ n j. Words t ws i j) (take_words t ws i)
  unfolding take_words
  words-sound [] i = none
  words-sound (w ∷ ws) i =
      let G : ℕ → ℕ → Type 0 = λ n j. Words t (w ∷ ws) i j in
      bind_ok G (take_word t w i) _ (word_sound t w i)
      (λ a j h. mapped G (take_words t ws j) (words-sound ws j) (λ n k g. next h g))

  words-complete : {ws : List (List ℕ)} {i j : ℕ} → Words t ws i j → take_words t ws i ≡ ok 0 j
  unfolding take_words
  words-complete none = refl
  words-complete (next w ws) = rw (word-complete t w) (words-complete ws)

  pub phrase-sound : (list : List ℕ) (i : ℕ) → Okay (λ n j. Phrase t list i j) (phrase_at t list i)
  unfolding phrase_at
  phrase-sound list i =
      mapped (λ n j. Phrase t list i j) (take_words t (words_in list) i) (words-sound (words_in list) i) (λ n j h. phrase h)

  pub phrase-complete : {list : List ℕ} {i j : ℕ} → Phrase t list i j → phrase_at t list i ≡ ok 0 j
  unfolding phrase_at
  phrase-complete (phrase h) = words-complete h

  -- ---- one of these words

  module _ (P : ℕ → ℕ → Type 0) {i j : ℕ} {w : List ℕ} (h : Word t w i j) where
    place-by : (x : List ℕ) (n m : ℕ) (b : Bool) → same_bytes w x ≡ b → ((k : ℕ) → Word t x i k → P n k) → (b ≡ false → P (n + 1 + m) j) →
        P (n + pick b 0 (m + 1)) j
    place-by x n m true e f g =
        rw add-zero (f j (subst (λ (v : List ℕ). Word t v i j) (same-eq w x e) h))
    place-by x n m false e f g =
        let k : n + (m + 1) ≡ n + 1 + m = omega arith in
        rw k (g refl)

    place-behind : (b : Bool) (m n : ℕ) → b ≡ false → pick b 0 (m + 1) < n + 1 → m < n
    place-behind true m n e l = absurd (let z : ◌≡◌ {A = ℕ} 0 1 = cc in omega arith)
    place-behind false m n e l = omega arith

    place_ok : (ws : List (List ℕ)) (n : ℕ) → position w ws < length ws → Places t i P n ws → P (n + position w ws) j
    unfolding position
    place_ok [] n l each = absurd (omega arith)
    place_ok (x ∷ ws) n l each =
        place-by x n (position w ws) (same_bytes w x) refl each.0
        (λ e. place_ok ws (n + 1) (place-behind (same_bytes w x) (position w ws) (length ws) e (omega arith)) each.1)

  pub choice-sound : (P : ℕ → ℕ → Type 0) (list : List ℕ) (number i : ℕ) → Places t i P 0 (words_in list) → Okay P (choice_at t list number i)
  unfolding choice_at choice_by
  choice-sound P list number i each =
      bind_ok P (take_kind t 1 i) _ (kind-sound t 1 i) (λ a j h. by_word a j h)
    where
      by_word : (a j : ℕ) → Token t 1 i a j → Okay P (choice_by list number i j (t i).bytes)
      by_word a j (token p) =
          let ws = words_in list in
          let n = position (t i).bytes ws in
          pick-ok P (has_place ws n) _ _
          (λ e. rw zero-add at (place_ok P (a_word p refl) ws 0 (ltb-true n (length ws) (both (ltb n (length ws)) e).0) each))
          (λ e. tt)

  pub choice-ok : {A : Type 0} (G : A → ℕ → Type 0) (list : List ℕ) (number i : ℕ) (f : ℕ → ℕ → Res A) → Each t i G f 0 (words_in list) →
      Okay G (bind (choice_at t list number i) f)
  choice-ok G list number i f each = then_ok G (choice_at t list number i) f (choice-sound _ list number i each)

  -- callers have the word's place computed: refl
  pub choice-complete : (list : List ℕ) (number : ℕ) {w : List ℕ} {i j n : ℕ} → Word t w i j → position w (words_in list) ≡ n →
      has_place (words_in list) n ≡ true → choice_at t list number i ≡ ok n j
  unfolding choice_at choice_by
  choice-complete list number w e h = rw (word-taken t w, word_bytes t w, e, h)

  -- ---- one of two words

  pub two-sound : {A : Type 0} (list : List ℕ) (number : ℕ) (a b : A) (i : ℕ) {first second : List ℕ} → words_in list ≡ first ∷ second ∷ [] →
      Okay (λ n j. EitherWord t first a second b i (pick (eqb n 0) a b) j) (choice_at t list number i)
  two-sound {A} list number a b i {first} {second} e =
      let P : ℕ → ℕ → Type 0 = λ n j. EitherWord t first a second b i (pick (eqb n 0) a b) j in
      choice-sound P list number i (rw e ((λ j w. the_first w), ((λ j w. the_second w), tt)))

  -- the answer's place, and what it stands for
  pub record Paired {A : Type 0} (list : List ℕ) (number : ℕ) (a b : A) (i : ℕ) (x : A) (j : ℕ) : Type 0 where
    pub place : ℕ
    pub answered : choice_at t list number i ≡ ok place j
    pub meant : pick (eqb place 0) a b ≡ x

  pub two_complete : {A : Type 0} (list : List ℕ) (number : ℕ) {first second : List ℕ} {a b x : A} {i j : ℕ} →
      words_in list ≡ first ∷ second ∷ [] → same_bytes second first ≡ false → EitherWord t first a second b i x j →
      Paired list number a b i x j
  unfolding position
  two_complete list number {first} e n (the_first w) =
      record { place = 0; answered = choice-complete list number w (rw (e, same_refl first)) (rw e); meant = refl }
  two_complete list number {second = second} e n (the_second w) =
      record { place = 1; answered = choice-complete list number w (rw (e, n, same_refl second)) (rw e); meant = refl }

  -- ---- one of two phrases

  pub either_ok : {A : Type 0} (G : A → ℕ → Type 0) (first second : List ℕ) (i : ℕ) (f : ℕ → ℕ → Res A) →
      ((j : ℕ) → Phrase t first i j → Okay G (f 0 j)) → ((j : ℕ) → Phrase t second i j → Okay G (f 1 j)) →
      Okay G (bind (either_at t first second i) f)
  unfolding either_at
  either_ok G first second i f g h =
      let P : ℕ → ℕ → Type 0 = λ n j. Okay G (f n j) in
      then_ok G (either_at t first second i) f
      (pick-ok P (is_word t (head_of (words_in first)) i) _ _
      (λ e. bind_ok P (phrase_at t first i) _ (phrase-sound first i) (λ a j p. g j p))
      (λ e. bind_ok P (phrase_at t second i) _ (phrase-sound second i) (λ a j p. h j p)))

  words_head : {w : List ℕ} {ws : List (List ℕ)} {i j : ℕ} → Words t (w ∷ ws) i j → Word t w i (i + 1)
  words_head (next (a_word p q) ws) = a_word p q

  head_word : (list : List ℕ) {w : List ℕ} {ws : List (List ℕ)} {i j : ℕ} → words_in list ≡ w ∷ ws → Phrase t list i j → Word t w i (i + 1)
  head_word list e (phrase h) = words_head (rw e at h)

  -- callers have the words computed: refl
  pub either_first : (first second : List ℕ) {w : List ℕ} {ws : List (List ℕ)} {i j : ℕ} → words_in first ≡ w ∷ ws → Phrase t first i j →
      either_at t first second i ≡ ok 0 j
  unfolding either_at head_of
  either_first first second e h = rw (e, word-yes t (head_word first e h), phrase-complete h)

  pub either_second : (first second : List ℕ) {w v : List ℕ} {ws vs : List (List ℕ)} {i j : ℕ} → words_in first ≡ w ∷ ws →
      words_in second ≡ v ∷ vs → same_bytes v w ≡ false → Phrase t second i j → either_at t first second i ≡ ok 1 j
  unfolding either_at head_of
  either_second first second {w} e d n h = rw (e, word-no t w n (head_word second d h), phrase-complete h)

  -- ---- with a point or a phrase before them

  pub point_choice_sound : (P : ℕ → ℕ → Type 0) (list : List ℕ) (i : ℕ) → ((a j : ℕ) → Token t 12 i a j → Places t j P 0 (words_in list)) →
      Okay P (point_choice t list i)
  unfolding point_choice
  point_choice_sound P list i each =
      bind_ok P (take_kind t 12 i) _ (kind-sound t 12 i) (λ a j h. choice-sound P list 21 j (each a j h))

  pub point_choice_ok : {A : Type 0} (G : A → ℕ → Type 0) (list : List ℕ) (i : ℕ) (f : ℕ → ℕ → Res A) →
      ((a j : ℕ) → Token t 12 i a j → Each t j G f 0 (words_in list)) → Okay G (bind (point_choice t list i) f)
  point_choice_ok G list i f each = then_ok G (point_choice t list i) f (point_choice_sound _ list i each)

  pub point_choice_complete : (list : List ℕ) {w : List ℕ} {i a j k n : ℕ} → Token t 12 i a j → Word t w j k → position w (words_in list) ≡ n →
      has_place (words_in list) n ≡ true → point_choice t list i ≡ ok n k
  unfolding point_choice
  point_choice_complete list p w e h = rw (kind-complete t refl p, choice-complete list 21 w e h)

  pub phrase_choice_sound : (P : ℕ → ℕ → Type 0) (words list : List ℕ) (i : ℕ) → ((j : ℕ) → Phrase t words i j → Places t j P 0 (words_in list)) →
      Okay P (phrase_choice t words list i)
  unfolding phrase_choice
  phrase_choice_sound P words list i each =
      bind_ok P (phrase_at t words i) _ (phrase-sound words i) (λ a j h. choice-sound P list 21 j (each j h))

  pub phrase_choice_ok : {A : Type 0} (G : A → ℕ → Type 0) (words list : List ℕ) (i : ℕ) (f : ℕ → ℕ → Res A) →
      ((j : ℕ) → Phrase t words i j → Each t j G f 0 (words_in list)) → Okay G (bind (phrase_choice t words list i) f)
  phrase_choice_ok G words list i f each = then_ok G (phrase_choice t words list i) f (phrase_choice_sound _ words list i each)

  pub phrase_choice_complete : (words list : List ℕ) {w : List ℕ} {i j k n : ℕ} → Phrase t words i j → Word t w j k →
      position w (words_in list) ≡ n → has_place (words_in list) n ≡ true → phrase_choice t words list i ≡ ok n k
  unfolding phrase_choice
  phrase_choice_complete words list p w e h = rw (phrase-complete p, choice-complete list 21 w e h)

  pub point_phrase_ok : {A : Type 0} (G : A → ℕ → Type 0) (list : List ℕ) (i : ℕ) (f : ℕ → ℕ → Res A) →
      ((a j n k : ℕ) → Token t 12 i a j → Phrase t list j k → Okay G (f n k)) → Okay G (bind (point_phrase t list i) f)
  unfolding point_phrase
  point_phrase_ok G list i f g =
      let P : ℕ → ℕ → Type 0 = λ n j. Okay G (f n j) in
      then_ok G (point_phrase t list i) f
      (bind_ok P (take_kind t 12 i) _ (kind-sound t 12 i) (λ a j p. mapped P (phrase_at t list j) (phrase-sound list j) (λ n k h. g a j n k p h)))

  pub point_phrase_complete : {list : List ℕ} {i a j k : ℕ} → Token t 12 i a j → Phrase t list j k → point_phrase t list i ≡ ok 0 k
  unfolding point_phrase
  point_phrase_complete p h = rw (kind-complete t refl p, phrase-complete h)
