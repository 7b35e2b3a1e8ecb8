-- An answer's index is not before the one that the definition was asked at: one rule for each way in which a definition is built, and what a search
-- with these rules shows of the steps over tokens.
use Prim.Native.Nat.{ℕ, ◌+◌, ◌≤◌}
use native.Mathlib.Omega.{arith}
use mathlib.Core.Bool.{Bool, true, false}
use mathlib.Core.List.{List, [], ◌∷◌}
use Rattle.text.specs.Choice.{pick}
use Rattle.tokens.specs.declared.cursor.Refusal.{Refusal}
use Rattle.tokens.specs.Result.{Res, ok, no, bind, perhaps}
use Rattle.tokens.specs.Cursor.{Tok, take_kind, take_word, take_in}
use Rattle.tokens.specs.Phrase.{choice_by, choice_at, take_words, phrase_at, either_at, point_choice, phrase_choice, point_phrase, words_in}
use Rattle.tokens.proofs.Okay.{Okay}
use Rattle.model.specs.declared.Ref.{Ref}
use Rattle.sheet.specs.declared.resolve.Unfound.{Unfound}
use Rattle.model.specs.declared.Selector.{Selector}
use Rattle.references.specs.Refs.{checked_name, closed_name, quoted_name, dev_name, found_at}
use Rattle.references.specs.Args.{key_slot, named_slot, unnamed_slot, slot_at, input_type_value, one_instance}
use Rattle.std.specs.Prelude.{Result, Ok, Err}

-- the next index, if there is a value, is i or behind it
unfoldable pub Ends : {A : Type 0} → ℕ → Res A → Type 0
Ends i m = Okay (λ a j. i ≤ j) m

pub ends-earlier : {A : Type 0} {i j : ℕ} (m : Res A) → i ≤ j → Ends j m → Ends i m
unfolding Ends
ends-earlier (ok a k) l h = omega arith
ends-earlier (no r) l h = tt

pub ends-here : {A : Type 0} (a : A) (i : ℕ) → Ends i (ok a i)
unfolding Ends
ends-here a i = omega arith

pub ends_next : {A : Type 0} (a : A) (i : ℕ) → Ends i (ok a (i + 1))
unfolding Ends
ends_next a i = omega arith

pub ends-no : (A : Type 0) (r : Refusal) (i : ℕ) → Ends {A = A} i (no r)
unfolding Ends
ends-no A r i = tt

pub ends-bind : {A B : Type 0} (i : ℕ) (m : Res A) (f : A → ℕ → Res B) → Ends i m → ((a : A) (j : ℕ) → Ends j (f a j)) → Ends i (bind m f)
unfolding Ends
ends-bind i (ok a j) f h k = ends-earlier (f a j) h (k a j)
ends-bind i (no r) f h k = tt

-- behind an answer whose index is not looked at
pub ends-after : {A B : Type 0} (i : ℕ) (m : Res A) (f : A → ℕ → Res B) → ((a : A) (j : ℕ) → Ends i (f a j)) → Ends i (bind m f)
unfolding Ends
ends-after i (ok a j) f k = k a j
ends-after i (no r) f k = tt

pub ends-pick : {A : Type 0} (i : ℕ) (b : Bool) (x y : Res A) → Ends i x → Ends i y → Ends i (pick b x y)
ends-pick i true x y h k = h
ends-pick i false x y h k = k

pub ends-perhaps : {A : Type 0} (b : Bool) (i : ℕ) (f : ℕ → Res A) (other : Res A) → Ends (i + 1) (f (i + 1)) → Ends i other →
    Ends i (perhaps b i f other)
ends-perhaps true i f other h k = ends-earlier (f (i + 1)) (omega arith) h
ends-perhaps false i f other h k = k

-- the ways in which a definition is built
pub ruleset end-parts = (ends-here, ends_next, ends-no, ends-bind, ends-pick, ends-perhaps)

module _ (t : ℕ → Tok) where
  pub ends-kind : (kind i : ℕ) → Ends i (take_kind t kind i)
  unfolding take_kind
  ends-kind kind i = search end-parts

  pub ends-word : (word : List ℕ) (i : ℕ) → Ends i (take_word t word i)
  unfolding take_word
  ends-word word i = search end-parts

  pub ends_in : (low high i : ℕ) → Ends i (take_in t low high i)
  unfolding take_in
  ends_in low high i = search (end-parts, ends-kind)

  pub ends-choice : (list : List ℕ) (number i : ℕ) → Ends i (choice_at t list number i)
  unfolding choice_at choice_by
  ends-choice list number i = search (end-parts, ends-kind)

  ends_words : (ws : List (List ℕ)) (i : ℕ) → Ends i (take_words t ws i)
  unfolding take_words
  ends_words [] i = search end-parts
  ends_words (w ∷ ws) i = search (end-parts, ends-word, ends_words ws)

  pub ends-phrase : (list : List ℕ) (i : ℕ) → Ends i (phrase_at t list i)
  unfolding phrase_at
  ends-phrase list i = ends_words (words_in list) i

  pub ends-either : (first second : List ℕ) (i : ℕ) → Ends i (either_at t first second i)
  unfolding either_at
  ends-either first second i = search (end-parts, ends-phrase)

  pub ends-point_choice : (list : List ℕ) (i : ℕ) → Ends i (point_choice t list i)
  unfolding point_choice
  ends-point_choice list i = search (end-parts, ends-kind, ends-choice)

  pub ends-phrase_choice : (words list : List ℕ) (i : ℕ) → Ends i (phrase_choice t words list i)
  unfolding phrase_choice
  ends-phrase_choice words list i = search (end-parts, ends-phrase, ends-choice)

  pub ends-point_phrase : (list : List ℕ) (i : ℕ) → Ends i (point_phrase t list i)
  unfolding point_phrase
  ends-point_phrase list i = search (end-parts, ends-kind, ends-phrase)

  -- what references have that no sheet is asked for
  pub ends-name : (i : ℕ) → Ends i (checked_name t i)
  unfolding checked_name
  ends-name i = search (end-parts, ends-kind)

  pub ends-quoted : (i : ℕ) → Ends i (quoted_name t i)
  unfolding quoted_name closed_name
  ends-quoted i = search (end-parts, ends-kind, ends-name)

  pub ends-dev : (i : ℕ) → Ends i (dev_name t i)
  unfolding dev_name
  ends-dev i = search (end-parts, ends-kind)

  pub ends-slot : (count i : ℕ) → Ends i (slot_at t count i)
  unfolding slot_at named_slot key_slot unnamed_slot
  ends-slot count i = search (end-parts, ends-kind)

  pub ends-type : (i : ℕ) → Ends i (input_type_value t i)
  unfolding input_type_value
  ends-type i = search (end-parts, ends_in)

pub ends_found : (i j : ℕ) (x : Result Ref Unfound) → Ends j (found_at i j x)
unfolding found_at
ends_found i j (Ok ref) = search end-parts
ends_found i j (Err e) = search end-parts

pub ends-one : (paren i : ℕ) (s : Selector) → Ends i (one_instance paren i s)
unfolding one_instance
ends-one paren i (Selector.Instance r n) = search end-parts
ends-one paren i (Selector.Group a g k) = search end-parts

-- those, and the steps over tokens
pub ruleset ends = (
  end-parts,
  ends-kind,
  ends-word,
  ends_in,
  ends-choice,
  ends-phrase,
  ends-either,
  ends-point_choice,
  ends-phrase_choice,
  ends-point_phrase,
  ends-name,
  ends-quoted,
  ends-dev,
  ends-slot,
  ends-type,
  ends_found,
  ends-one,
)
