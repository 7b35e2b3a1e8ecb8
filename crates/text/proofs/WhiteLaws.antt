-- Laws on ranges in ascending order, for the tests of is_white.
use Prim.Native.Nat.{ℕ, ◌<◌}
use mathlib.Core.Path.{◌≡◌, refl}
use mathlib.Core.Bool.{Bool, true, false}
use mathlib.Core.List.{List, [], ◌∷◌}
use lib.Dec.{eqb}
use borrow.Author.Tests.{eqb-true, eqb-false}
use native.Mathlib.Omega.{arith}
use native.Mathlib.Decide.{dec_lt}
use borrow.Author.Rules.{rules}
use Rattle.text.specs.Choice.{pick, within}
use Rattle.text.specs.White.{Range, among}
use Rattle.text.proofs.Tests.{in_range, under-range, over-range}

-- each range begins above the number n
abbrev pub Above : ℕ → List Range → Type 0
Above n [] = Unit {0}
Above n (r ∷ rs) = (n < r.first) × Above n rs

-- what is below every range is in none
pub none_above : (n : ℕ) (rs : List Range) → Above n rs → false ≡ among rs n
unfolding among
none_above n [] h = refl
none_above n (r ∷ rs) h = under-range r.first r.last n true (among rs n) h.0 (none_above n rs h.1)

-- a range of one code point
pub the_one : {A : Type 0} (v n : ℕ) (a b : A) {x : A} → n ≡ v → x ≡ a → x ≡ pick (within v v n) a b
the_one v n a b h e = in_range v v n a b (omega arith) (omega arith) e

another-by : {A : Type 0} (v n : ℕ) (a b : A) {x : A} → (n ≡ v → ⊥) → x ≡ b → Dec (n < v) → x ≡ pick (within v v n) a b
another-by v n a b h e (yes p) = under-range v v n a b p e
another-by v n a b h e (no p) = over-range v v n a b (omega (arith, h, p)) e

pub another : {A : Type 0} (v n : ℕ) (a b : A) {x : A} → (n ≡ v → ⊥) → x ≡ b → x ≡ pick (within v v n) a b
another v n a b h e = another-by v n a b h e (dec_lt n v)

last-by : (v n : ℕ) (t : Bool) → eqb n v ≡ t → t ≡ pick (within v v n) true false
last-by v n true e = the_one v n true false (eqb-true n v e) refl
last-by v n false e = another v n true false (eqb-false n v e) refl

pub last_one : (v n : ℕ) → eqb n v ≡ pick (within v v n) true false
last_one v n = last-by v n (eqb n v) refl

-- closes what is left of a function that tests one range after the other
pub ruleset ranges = (rules, in_range, under-range, over-range, the_one, another, last_one)
