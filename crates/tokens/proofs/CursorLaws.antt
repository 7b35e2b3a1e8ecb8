-- A token that is there stands within the words, so a step of the cursor passes it. And the tests on the token in hand.
use Prim.Native.Nat.{ℕ, ◌+◌, ◌<◌, ◌≤◌}
use mathlib.Core.Bool.{Bool, true, false, false≢true}
use mathlib.Core.Path.{◌≡◌, ◌∙◌, refl, ap, sym}
use mathlib.Core.List.{List}
use native.Mathlib.Omega.{arith}
use native.Mathlib.Decide.{dec_lt}
use lib.ListN.{length}
use lib.Dec.{eqb}
use borrow.Author.Tests.{lt-ltb, le-ltb, eqb-true}
use Rattle.std.specs.Prelude.{Some, Ok}
use Rattle.text.specs.Choice.{pick}
use Rattle.text.specs.Part.{same_bytes}
use Rattle.tokens.specs.Record.{capacity, word_at, kind_at, number_at}
use Rattle.tokens.specs.Cursor.{Tok, tokens, is_word, is_kind, take_kind, take_word, to_taken, accepted, at, advanced}
use Rattle.tokens.specs.Result.{ok, refuse}
use Rattle.tokens.specs.declared.cursor.Cursor.{Cursor}
use Rattle.tokens.proofs.Chain.{taken-ok, accepted-yes}
use Rattle.text.proofs.Tests.{told-yes, eq-told-yes, eq-told-no}

-- past the last record the kind is 0
pub no_kind_lem : (words : List ℕ) (i : ℕ) → capacity words ≤ i → kind_at words i ≡ 0
unfolding kind_at word_at
no_kind_lem words i h = rw (le-ltb i (capacity words) h)

some-by : (words : List ℕ) (i : ℕ) → (kind_at words i ≡ 0 → ⊥) → Dec (i < capacity words) → i < length words
unfolding capacity
some-by words i h (yes p) = omega arith
some-by words i h (no p) = absurd (h (no_kind_lem words i (omega arith)))

pub some-kind : (words : List ℕ) (i : ℕ) → (kind_at words i ≡ 0 → ⊥) → i < length words
some-kind words i h = some-by words i h (dec_lt i (capacity words))

-- a step past the last token, and one before it
pub stays : (words : List ℕ) (i : ℕ) → capacity words ≤ i → advanced words i ≡ i
unfolding advanced
stays words i h = rw (le-ltb i (capacity words) h)

pub grows : (words : List ℕ) (i : ℕ) → i < capacity words → advanced words i ≡ i + 1
unfolding advanced
grows words i h = rw (lt-ltb i (capacity words) h)

-- the kind behind the token in hand: the step stays at the end, where no kind is read either way
kind-by : (words : List ℕ) (i : ℕ) → Dec (i < capacity words) → kind_at words (advanced words i) ≡ kind_at words (i + 1)
kind-by words i (yes h) = rw (grows words i h)
kind-by words i (no h) = rw (stays words i (omega arith), no_kind_lem words i (omega arith), no_kind_lem words (i + 1) (omega arith))

pub kind-advanced : (words : List ℕ) (i : ℕ) → kind_at words (advanced words i) ≡ kind_at words (i + 1)
kind-advanced words i = kind-by words i (dec_lt i (capacity words))

-- a token that is there is passed
over_by : (words : List ℕ) (i : ℕ) → (kind_at words i ≡ 0 → ⊥) → Dec (i < capacity words) → advanced words i ≡ i + 1
over_by words i h (yes p) = grows words i p
over_by words i h (no p) = absurd (h (no_kind_lem words i (omega arith)))

pub over-token : (words : List ℕ) (i : ℕ) → (kind_at words i ≡ 0 → ⊥) → advanced words i ≡ i + 1
over-token words i h = over_by words i h (dec_lt i (capacity words))

over-kind : (text words : List ℕ) (kind i : ℕ) {r : Bool} → r ≡ is_kind (tokens text words) kind i → r ≡ true → advanced words i ≡ i + 1
unfolding is_kind tokens
over-kind text words kind i d h =
    over-token words i (λ e. false≢true (rw e at (sym d ∙ h)))

first-true : (t u : Bool) → pick t u false ≡ true → t ≡ true
first-true true u e = refl
first-true false u e = absurd (false≢true e)

over_word : (text words word : List ℕ) (i : ℕ) {r : Bool} → r ≡ is_word (tokens text words) word i → r ≡ true → advanced words i ≡ i + 1
unfolding is_word tokens
over_word text words word i d h =
    over-token words i (λ e. omega (arith, eqb-true (kind_at words i) 1 (first-true (eqb (kind_at words i) 1) _ (sym d ∙ h))))

-- the tests on the token in hand, by the kind that was read
pub kind-none : (t : ℕ → Tok) (kind i : ℕ) {r : ℕ} → r ≡ (t i).kind → r ≡ 0 → false ≡ is_kind t kind i
unfolding is_kind
kind-none t kind i d h = eq-told-yes (t i).kind 0 false (eqb (t i).kind kind) d h refl

pub kind-some : (t : ℕ → Tok) (kind i : ℕ) {r : ℕ} → r ≡ (t i).kind → (r ≡ 0 → ⊥) → eqb r kind ≡ is_kind t kind i
unfolding is_kind
kind-some t kind i d h = eq-told-no (t i).kind 0 false (eqb (t i).kind kind) d h (ap (λ (k : ℕ). eqb k kind) d)

pub word_none : (t : ℕ → Tok) (word : List ℕ) (i : ℕ) {r : ℕ} → r ≡ (t i).kind → (r ≡ 1 → ⊥) → false ≡ is_word t word i
unfolding is_word
word_none t word i d h = eq-told-no (t i).kind 1 (same_bytes (t i).bytes word) false d h refl

pub word_same : (t : ℕ → Tok) (word : List ℕ) (i : ℕ) {r : ℕ} {b : List ℕ} {s : Bool} → r ≡ (t i).kind → r ≡ 1 →
    b ≡ (t i).bytes → s ≡ same_bytes b word → s ≡ is_word t word i
unfolding is_word
word_same t word i d h e g =
    eq-told-yes (t i).kind 1 (same_bytes (t i).bytes word) false d h (g ∙ ap (λ (l : List ℕ). same_bytes l word) e)

-- the token in hand, which the cursor c stands behind, is accepted or taken
module _ (text words : List ℕ) (i : ℕ) {r : Bool} {c : Cursor} where
  pub accepted-kind : (kind : ℕ) → r ≡ is_kind (tokens text words) kind i → r ≡ true → c ≡ at (advanced words i) →
      Some c ≡ accepted (is_kind (tokens text words) kind i) i
  accepted-kind kind d h e = rw (e, over-kind text words kind i d h) (accepted-yes (is_kind (tokens text words) kind i) i d h)

  pub accepted-word : (word : List ℕ) → r ≡ is_word (tokens text words) word i → r ≡ true → c ≡ at (advanced words i) →
      Some c ≡ accepted (is_word (tokens text words) word i) i
  accepted-word word d h e = rw (e, over_word text words word i d h) (accepted-yes (is_word (tokens text words) word i) i d h)

  pub taken-kind : (kind : ℕ) {n : ℕ} → r ≡ is_kind (tokens text words) kind i → r ≡ true → n ≡ number_at words i → c ≡ at (advanced words i) →
      Ok (n, c) ≡ to_taken (take_kind (tokens text words) kind i)
  unfolding tokens take_kind
  taken-kind kind d h g e =
      taken-ok
      (take_kind (tokens text words) kind i)
      (told-yes
      (is_kind (tokens text words) kind i)
      (ok (number_at words i) (i + 1))
      (refuse 20 i)
      d
      h
      (rw (e, over-kind text words kind i d h, g)))

  pub taken_word : (word : List ℕ) → r ≡ is_word (tokens text words) word i → r ≡ true → c ≡ at (advanced words i) →
      Ok (0, c) ≡ to_taken (take_word (tokens text words) word i)
  unfolding take_word
  taken_word word d h e =
      taken-ok
      (take_word (tokens text words) word i)
      (told-yes (is_word (tokens text words) word i) (ok 0 (i + 1)) (refuse 20 i) d h (rw (e, over_word text words word i d h)))
