-- What a definition accepts, and the grammar's readings: the rules for every reader over tokens. Soundness goes by Okay, one rule for each
-- way in which a definition is built; completeness rewrites by the tests and steps below.
use Prim.Native.Nat.{ℕ, ◌+◌, ◌≤◌, ◌<◌}
use native.Mathlib.Omega.{arith}
use native.Mathlib.Decide.{dec_le}
use mathlib.Core.Path.{◌≡◌, refl, sym, ◌∙◌, subst}
use mathlib.Core.Bool.{Bool, true, false}
use mathlib.Core.List.{List}
use lib.Dec.{leb, eqb}
use borrow.Author.Tests.{eqb-true, eqb-false, leb-true, eq-eqb, ne_eqb, le-leb}
use Rattle.text.specs.Choice.{pick, within}
use Rattle.text.specs.Part.{same_bytes}
use Rattle.text.proofs.PartLaws.{same_refl, same-eq}
use Rattle.tokens.specs.Result.{Res, ok, no, bind, perhaps}
use Rattle.tokens.specs.Cursor.{Tok, is_kind, is_word, take_kind, take_word, take_in}
use Rattle.tokens.specs.Grammar.{Token, token, Word, a_word, UpTo, up_to}

-- P of the value and the next index, if there is a value
abbrev pub Okay : {A : Type 0} → (A → ℕ → Type 0) → Res A → Type 0
Okay P (ok v j) = P v j
Okay P (no r) = Unit {0}

pub bind_ok : {A B : Type 0} {P : A → ℕ → Type 0} (Q : B → ℕ → Type 0) (m : Res A) (f : A → ℕ → Res B) → Okay P m →
    ((a : A) (j : ℕ) → P a j → Okay Q (f a j)) → Okay Q (bind m f)
bind_ok Q (ok a j) f h k = k a j h
bind_ok Q (no r) f h k = tt

pub pick-ok : {A : Type 0} (Q : A → ℕ → Type 0) (b : Bool) (x y : Res A) → (b ≡ true → Okay Q x) → (b ≡ false → Okay Q y) →
    Okay Q (pick b x y)
pick-ok Q true x y f g = f refl
pick-ok Q false x y f g = g refl

pub perhaps-ok : {A : Type 0} (Q : A → ℕ → Type 0) (b : Bool) (i : ℕ) (f : ℕ → Res A) (other : Res A) →
    (b ≡ true → Okay Q (f (i + 1))) → (b ≡ false → Okay Q other) → Okay Q (perhaps b i f other)
perhaps-ok Q true i f other g h = g refl
perhaps-ok Q false i f other g h = h refl

-- a weaker fact
pub mapped : {A : Type 0} {P : A → ℕ → Type 0} (Q : A → ℕ → Type 0) (m : Res A) → Okay P m → ((a : A) (j : ℕ) → P a j → Q a j) → Okay Q m
mapped Q (ok a j) h f = f a j h
mapped Q (no r) h f = tt

-- of a value that is known
pub okay : {A : Type 0} (P : A → ℕ → Type 0) {m : Res A} {v : A} {j : ℕ} → Okay P m → m ≡ ok v j → P v j
okay P h e = subst (λ m. Okay P m) e h

-- two ways to go on that answer alike behind whatever is answered first, or behind a token that may stand here
pub bind-alike : {A B : Type 0} {P : A → ℕ → Type 0} (m : Res A) (f g : A → ℕ → Res B) → Okay P m →
    ((a : A) (j : ℕ) → P a j → f a j ≡ g a j) → bind m f ≡ bind m g
bind-alike (ok a j) f g h e = e a j h
bind-alike (no r) f g h e = refl

pub perhaps-alike : {A : Type 0} (b : Bool) (i : ℕ) (f g : ℕ → Res A) (other : Res A) → (b ≡ true → f (i + 1) ≡ g (i + 1)) →
    perhaps b i f other ≡ perhaps b i g other
perhaps-alike true i f g other e = e refl
perhaps-alike false i f g other e = refl

-- the two ways in which tests are joined
pub both_true : (x y : Bool) → pick x y false ≡ true → (x ≡ true) × (y ≡ true)
both_true true y e = (refl, e)
both_true false y e = absurd (let z : ◌≡◌ {A = ℕ} 0 1 = cc in omega arith)

other-true : (x y : Bool) → pick x false y ≡ true → y ≡ true
other-true true y e = absurd (let z : ◌≡◌ {A = ℕ} 0 1 = cc in omega arith)
other-true false y e = e

-- what a reading says of its first token
pub token-kind : {t : ℕ → Tok} {kind i n j : ℕ} → Token t kind i n j → (t i).kind ≡ kind
token-kind (token p) = p

pub word-kind : {t : ℕ → Tok} {word : List ℕ} {i j : ℕ} → Word t word i j → (t i).kind ≡ 1
word-kind (a_word p q) = p

-- where no token stands at n or behind it, each stands before n
pub stands-before : (t : ℕ → Tok) {n i kind : ℕ} → ((k : ℕ) → n ≤ k → (t k).kind ≡ 0) → (kind ≡ 0 → ⊥) → (t i).kind ≡ kind → i < n
stands-before t {n} {i} end some e = by (dec_le n i)
  where
    by : Dec (n ≤ i) → i < n
    by (yes p) = absurd (some (sym e ∙ end i p))
    by (Dec.no p) = omega arith

-- The tests on a token: what they show, and what they answer. Kinds are literals above 0, so that `refl` shows it.
module _ (t : ℕ → Tok) where
  -- a token of one kind is of no other
  pub not-kind : {kind i : ℕ} (other : ℕ) → eqb kind other ≡ false → (t i).kind ≡ kind → (t i).kind ≡ other → ⊥
  not-kind other e p q = eqb-false _ other e (sym p ∙ q)

  pub is_kind_lem : (kind i : ℕ) → is_kind t kind i ≡ true → Token t kind i (t i).number (i + 1)
  unfolding is_kind
  is_kind_lem kind i e = token (eqb-true _ _ (other-true (eqb (t i).kind 0) _ e))

  pub is_word_lem : (word : List ℕ) (i : ℕ) → is_word t word i ≡ true → Word t word i (i + 1)
  unfolding is_word
  is_word_lem word i e = let p = both_true (eqb (t i).kind 1) _ e in a_word (eqb-true _ _ p.0) (same-eq _ _ p.1)

  pub kind-yes : {kind i : ℕ} → eqb kind 0 ≡ false → (t i).kind ≡ kind → is_kind t kind i ≡ true
  unfolding is_kind
  kind-yes {kind} e p = rw (p, e) (eq-eqb kind kind refl)

  pub kind-no : (kind i : ℕ) → ((t i).kind ≡ kind → ⊥) → is_kind t kind i ≡ false
  unfolding is_kind
  kind-no kind i n = none (eqb (t i).kind 0) (ne_eqb _ _ n)
    where
      none : (x : Bool) {y : Bool} → y ≡ false → pick x false y ≡ false
      none true e = refl
      none false e = e

  pub word-yes : {word : List ℕ} {i j : ℕ} → Word t word i j → is_word t word i ≡ true
  unfolding is_word
  word-yes {word} (a_word p q) = rw (p, q) (same_refl word)

  -- another word, or no word
  pub word-no : (word : List ℕ) {other : List ℕ} {i j : ℕ} → same_bytes other word ≡ false → Word t other i j → is_word t word i ≡ false
  unfolding is_word
  word-no word e (a_word p q) = rw (p, q) e

  pub word_none : (word : List ℕ) {kind i : ℕ} → eqb kind 1 ≡ false → (t i).kind ≡ kind → is_word t word i ≡ false
  unfolding is_word
  word_none word e p = rw (p, e)

  -- one step: a token of a kind, this word, a number in a range
  pub kind-sound : (kind i : ℕ) → Okay (Token t kind i) (take_kind t kind i)
  unfolding take_kind
  kind-sound kind i = pick-ok (Token t kind i) (is_kind t kind i) _ _ (λ e. is_kind_lem kind i e) (λ e. tt)

  pub kind-complete : {kind i n j : ℕ} → eqb kind 0 ≡ false → Token t kind i n j → take_kind t kind i ≡ ok n j
  unfolding take_kind
  kind-complete e (token p) = rw (kind-yes e p)

  pub word_sound : (word : List ℕ) (i : ℕ) → Okay (λ n j. Word t word i j) (take_word t word i)
  unfolding take_word
  word_sound word i = pick-ok (λ n j. Word t word i j) (is_word t word i) _ _ (λ e. is_word_lem word i e) (λ e. tt)

  pub word-complete : {word : List ℕ} {i j : ℕ} → Word t word i j → take_word t word i ≡ ok 0 j
  unfolding take_word
  word-complete (a_word p q) = rw (word-yes (a_word p q))

  -- a word is taken with its bytes, whichever it is
  pub word-taken : {word : List ℕ} {i j : ℕ} → Word t word i j → take_kind t 1 i ≡ ok (t i).number j
  word-taken (a_word p q) = kind-complete refl (token p)

  pub word_bytes : {word : List ℕ} {i j : ℕ} → Word t word i j → (t i).bytes ≡ word
  word_bytes (a_word p q) = q

  pub in_sound : (low high i : ℕ) → Okay (λ n j. Token t 3 i n j × (low ≤ n) × (n ≤ high)) (take_in t low high i)
  unfolding take_in
  in_sound low high i =
      let G : ℕ → ℕ → Type 0 = λ n j. Token t 3 i n j × (low ≤ n) × (n ≤ high) in
      bind_ok G (take_kind t 3 i) _ (kind-sound 3 i)
      (λ n j h.
      pick-ok G (within low high n) _ _
      (λ e. let p = both_true (leb low n) _ e in (h, leb-true _ _ p.0, leb-true _ _ p.1))
      (λ e. tt))

  pub in_complete : {low high i n j : ℕ} → Token t 3 i n j → low ≤ n → n ≤ high → take_in t low high i ≡ ok n j
  unfolding take_in
  in_complete h p q = rw (kind-complete refl h, le-leb _ _ p, le-leb _ _ q)

  pub up_to-sound : (most i : ℕ) → Okay (UpTo t most i) (take_in t 0 most i)
  up_to-sound most i = mapped (UpTo t most i) (take_in t 0 most i) (in_sound 0 most i) (λ n j h. up_to h.0 h.2)

  pub up_to-complete : {most i n j : ℕ} → UpTo t most i n j → take_in t 0 most i ≡ ok n j
  up_to-complete (up_to h p) = in_complete h (omega arith) p
