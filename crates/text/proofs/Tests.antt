-- What a branch of the code showed, put to use in a definition that picks by tests.
use Prim.Native.Nat.{ℕ, ◌<◌, ◌≤◌}
use lib.Dec.{ltb, leb, eqb}
use mathlib.Core.Path.{◌≡◌, refl, sym, ◌∙◌}
use mathlib.Core.Bool.{Bool, true, false, false≢true}
use borrow.Author.Rules.{rules}
use borrow.Author.Tests.{lt-ltb, le-ltb, le-leb, lt-leb, eq-eqb, ne_eqb}
use Rattle.text.specs.Choice.{pick, within}

-- closes what is left of a function that is a chain of tests: search tests, with the definition unfolded
pub ruleset tests = (rules, lt-ltb, le-ltb, le-leb, lt-leb, eq-eqb, ne_eqb)

-- what holds of both choices holds of the one that is picked
pub picked : {A : Type 0} (P : A → Type 0) (t : Bool) {a b : A} → (t ≡ true → P a) → (t ≡ false → P b) → P (pick t a b)
picked P true f g = f refl
picked P false f g = g refl

pub pick_same : {A : Type 0} (t : Bool) (a : A) → pick t a a ≡ a
pick_same true a = refl
pick_same false a = refl

-- where of two tests the second is asked only if the first holds, both hold
pub both : (t : Bool) {u : Bool} → pick t u false ≡ true → (t ≡ true) × (u ≡ true)
both true e = (refl, e)
both false e = absurd (false≢true e)

-- one test of a definition, as the code decided it: on numbers, or by a callee's answer r, which is the test by the callee's contract
pub lt_yes : {A : Type 0} (m n : ℕ) (a b : A) {x : A} → m < n → x ≡ a → x ≡ pick (ltb m n) a b
lt_yes m n a b h e = rw (lt-ltb m n h) e

pub lt_no : {A : Type 0} (m n : ℕ) (a b : A) {x : A} → n ≤ m → x ≡ b → x ≡ pick (ltb m n) a b
lt_no m n a b h e = rw (le-ltb m n h) e

pub le_yes : {A : Type 0} (m n : ℕ) (a b : A) {x : A} → m ≤ n → x ≡ a → x ≡ pick (leb m n) a b
le_yes m n a b h e = rw (le-leb m n h) e

pub le-no : {A : Type 0} (m n : ℕ) (a b : A) {x : A} → n < m → x ≡ b → x ≡ pick (leb m n) a b
le-no m n a b h e = rw (lt-leb m n h) e

pub eq_yes : {A : Type 0} (m n : ℕ) (a b : A) {x : A} → m ≡ n → x ≡ a → x ≡ pick (eqb m n) a b
eq_yes m n a b h e = rw (eq-eqb m n h) e

pub eq_no : {A : Type 0} (m n : ℕ) (a b : A) {x : A} → (m ≡ n → ⊥) → x ≡ b → x ≡ pick (eqb m n) a b
eq_no m n a b h e = rw (ne_eqb m n h) e

pub in_range : {A : Type 0} (low high n : ℕ) (a b : A) {x : A} → low ≤ n → n ≤ high → x ≡ a → x ≡ pick (within low high n) a b
in_range low high n a b h k e = rw (le-leb low n h, le-leb n high k) e

pub under-range : {A : Type 0} (low high n : ℕ) (a b : A) {x : A} → n < low → x ≡ b → x ≡ pick (within low high n) a b
under-range low high n a b h e = rw (lt-leb low n h) e

pub over-range : {A : Type 0} (low high n : ℕ) (a b : A) {x : A} → high < n → x ≡ b → x ≡ pick (within low high n) a b
over-range low high n a b h e = rw (lt-leb n high h, pick_same (leb low n) false) e

pub told-yes : {A : Type 0} {r : Bool} (t : Bool) (a b : A) {x : A} → r ≡ t → r ≡ true → x ≡ a → x ≡ pick t a b
told-yes t a b d h e = rw (sym d ∙ h) e

pub told-no : {A : Type 0} {r : Bool} (t : Bool) (a b : A) {x : A} → r ≡ t → r ≡ false → x ≡ b → x ≡ pick t a b
told-no t a b d h e = rw (sym d ∙ h) e

-- the same where the callee's answer r is a number that is compared
pub eq-told-yes : {A : Type 0} {r : ℕ} (m n : ℕ) (a b : A) {x : A} → r ≡ m → r ≡ n → x ≡ a → x ≡ pick (eqb m n) a b
eq-told-yes m n a b d h e = eq_yes m n a b (sym d ∙ h) e

pub eq-told-no : {A : Type 0} {r : ℕ} (m n : ℕ) (a b : A) {x : A} → r ≡ m → (r ≡ n → ⊥) → x ≡ b → x ≡ pick (eqb m n) a b
eq-told-no m n a b d h e = eq_no m n a b (λ k. h (d ∙ k)) e

-- closes what is left of a function whose tests are calls, too
pub ruleset steps = (rules, lt_yes, lt_no, le_yes, le-no, eq_yes, eq_no, in_range, under-range, over-range, told-yes, told-no)
