-- Laws of steps that several forms share, and what may stand behind a form.
use Prim.Native.Nat.{ℕ, ◌+◌, ◌≤◌}
use mathlib.Core.Path.{◌≡◌, refl}
use mathlib.Core.Bool.{true, false}
use mathlib.Core.List.{List}
use lib.Dec.{eqb}
use Rattle.text.specs.Literal.{ascii}
use Rattle.tokens.specs.Kind.{COMMA, POINTS, PLUS, MINUS}
use Rattle.tokens.specs.Result.{Res, ok, bind, perhaps}
use Rattle.tokens.specs.Cursor.{Tok, is_word, take_kind, take_word, take_in}
use Rattle.tokens.specs.Phrase.{words_in, position, has_place, choice_at, phrase_at}
use Rattle.tokens.specs.Grammar.{Token, token, Word, a_word, UpTo, Phrase}
use Rattle.tokens.proofs.Okay.{Okay, not-kind, bind_ok, mapped, perhaps-ok, kind-sound, kind-complete, word_sound, word-complete, is_word_lem, up_to-sound}
use Rattle.tokens.proofs.PhraseLaws.{phrase-sound, phrase-complete, choice-complete}
use Rattle.sheet.specs.View.{View}
use Rattle.references.specs.Refs.{quoted_name, light_target}
use Rattle.references.specs.Grammar.{Q, Target}
use Rattle.references.proofs.RefSound.{quoted-sound, target_sound}
use Rattle.references.proofs.RefComplete.{quoted-complete, target-complete}
use Rattle.model.specs.declared.LightTarget.{LightTarget}
use Rattle.days.proofs.GrammarComplete.{StopsDays}
use Rattle.language.specs.Words.{named_phrase, target_for, property_word}

-- past the tokens, of which there are at most fuel, the kind is 0
abbrev pub End : (ℕ → Tok) → ℕ → Type 0
End t fuel = (k : ℕ) → fuel ≤ k → (t k).kind ≡ 0

-- no sign stands here, so an optional offset before it was left out
pub record Unsigned (t : ℕ → Tok) (i : ℕ) : Type 0 where
  pub no_plus : (t i).kind ≡ PLUS → ⊥
  pub no_minus : (t i).kind ≡ MINUS → ⊥

-- what may stand behind a condition: no sign, no comma and no `..`, which would go on with it
pub record StopsCondition (t : ℕ → Tok) (i : ℕ) : Type 0 where
  pub unsigned : Unsigned t i
  pub days : StopsDays t i

-- and behind a trigger: neither `on` nor `is` either
pub record StopsTrigger (t : ℕ → Tok) (i : ℕ) : Type 0 where
  pub unsigned : Unsigned t i
  pub days : StopsDays t i
  pub no_on : is_word t (ascii "on") i ≡ false
  pub no_is : is_word t (ascii "is") i ≡ false

-- none of these stands where a token of another kind does
pub other-unsigned : (t : ℕ → Tok) {kind i : ℕ} → eqb kind PLUS ≡ false → eqb kind MINUS ≡ false → (t i).kind ≡ kind → Unsigned t i
other-unsigned t p m e = record { no_plus = not-kind t PLUS p e; no_minus = not-kind t MINUS m e }

pub other-days : (t : ℕ → Tok) {kind i : ℕ} → eqb kind COMMA ≡ false → eqb kind POINTS ≡ false → (t i).kind ≡ kind → StopsDays t i
other-days t c p e = record { no_comma = not-kind t COMMA c e; no_points = not-kind t POINTS p e }

-- One step, for any form G that goes on with it.
module _ (t : ℕ → Tok) {B : Type 0} (G : B → ℕ → Type 0) where
  pub then-kind : (kind i : ℕ) (f : ℕ → ℕ → Res B) → ((n j : ℕ) → Token t kind i n j → Okay G (f n j)) → Okay G (bind (take_kind t kind i) f)
  then-kind kind i f g = bind_ok G (take_kind t kind i) f (kind-sound t kind i) g

  pub then-word : (word : List ℕ) (i : ℕ) (f : ℕ → ℕ → Res B) → ((n j : ℕ) → Word t word i j → Okay G (f n j)) →
      Okay G (bind (take_word t word i) f)
  then-word word i f g = bind_ok G (take_word t word i) f (word_sound t word i) g

  pub then-up_to : (most i : ℕ) (f : ℕ → ℕ → Res B) → ((n j : ℕ) → UpTo t most i n j → Okay G (f n j)) →
      Okay G (bind (take_in t 0 most i) f)
  then-up_to most i f g = bind_ok G (take_in t 0 most i) f (up_to-sound t most i) g

  pub then-phrase : (list : List ℕ) (i : ℕ) (f : ℕ → ℕ → Res B) → ((n j : ℕ) → Phrase t list i j → Okay G (f n j)) →
      Okay G (bind (phrase_at t list i) f)
  then-phrase list i f g = bind_ok G (phrase_at t list i) f (phrase-sound t list i) g

  -- a word that may stand here
  pub perhaps-word : (word : List ℕ) (i : ℕ) (f : ℕ → Res B) (other : Res B) → (Word t word i (i + 1) → Okay G (f (i + 1))) →
      Okay G other → Okay G (perhaps (is_word t word i) i f other)
  perhaps-word word i f other g h = perhaps-ok G (is_word t word i) i f other (λ e. g (is_word_lem t word i e)) (λ e. h)

-- Q and a phrase
pub data NamedPhrase (t : ℕ → Tok) (list : List ℕ) (i : ℕ) : ℕ → ℕ → Type 0 where
  named_phrase_rule : {n j k : ℕ} → Q t i n j → Phrase t list j k → NamedPhrase t list i n k

-- `for` and TARGET
pub data ForTarget (t : ℕ → Tok) (view : View) (i : ℕ) : LightTarget → ℕ → Type 0 where
  for_target : {target : LightTarget} {j k : ℕ} → Word t (ascii "for") i j → Target t view j target k → ForTarget t view i target k

-- a point and any word
pub data PointWord (t : ℕ → Tok) (i : ℕ) : ℕ → ℕ → Type 0 where
  point_word : {a p n j : ℕ} → Token t 12 i a p → Token t 1 p n j → PointWord t i p j

module _ (t : ℕ → Tok) where
  -- a word is one token
  pub one_token : {word : List ℕ} {i j : ℕ} → Word t word i j → Word t word i (i + 1)
  one_token (a_word p q) = a_word p q

  -- a word's place among the words ws of a list; callers have it computed: refl
  pub chosen : (list : List ℕ) (number : ℕ) {ws : List (List ℕ)} → words_in list ≡ ws → {word : List ℕ} (n : ℕ) {i j : ℕ} → Word t word i j →
      position word ws ≡ n → has_place ws n ≡ true → choice_at t list number i ≡ ok n j
  chosen list number e n w p h = choice-complete t list number w (rw e p) (rw e h)

  pub named-sound : (list : List ℕ) (i : ℕ) → Okay (NamedPhrase t list i) (named_phrase t list i)
  unfolding named_phrase
  named-sound list i =
      let G = NamedPhrase t list i in
      bind_ok G (quoted_name t i) _ (quoted-sound t i) (λ n j h. then-phrase t G list j _ (λ a k p. named_phrase_rule h p))

  pub named_complete : {list : List ℕ} {i n j k : ℕ} → Q t i n j → Phrase t list j k → named_phrase t list i ≡ ok n k
  unfolding named_phrase
  named_complete h p = rw (quoted-complete h, phrase-complete t p)

  pub for_sound : (view : View) (i : ℕ) → Okay (ForTarget t view i) (target_for t view i)
  unfolding target_for
  for_sound view i =
      let G = ForTarget t view i in
      then-word t G (ascii "for") i _
      (λ a j w. mapped G (light_target t view j) (target_sound t view j) (λ target k h. for_target w h))

  pub for_complete : {view : View} {target : LightTarget} {i j k : ℕ} → Word t (ascii "for") i j → Target t view j target k →
      target_for t view i ≡ ok target k
  unfolding target_for
  for_complete w h = rw (word-complete t w, target-complete h)

  -- a point and any word
  pub point-sound : (i : ℕ) → Okay (PointWord t i) (property_word t i)
  unfolding property_word
  point-sound i =
      let G = PointWord t i in
      then-kind t G 12 i _ (λ a p point. then-kind t G 1 p _ (λ n j word. point_word point word))

  pub point-complete : {i a p j : ℕ} {word : List ℕ} → Token t 12 i a p → Word t word p j → property_word t i ≡ ok p j
  unfolding property_word
  point-complete point (a_word p q) = rw (kind-complete t refl point, kind-complete t refl (token p))
