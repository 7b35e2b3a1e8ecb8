-- How many control characters and noncharacters there are among all code points.
use Prim.Native.Nat.{ℕ, zero, suc, ◌+◌, ◌*◌, ◌%◌, ◌<◌, ◌≤◌}
use mathlib.Core.Path.{◌≡◌, ◌∙◌, refl, sym}
use mathlib.Core.Bool.{Bool, true, false}
use mathlib.Core.Logic.{◌⊎◌, inl, inr}
use native.Mathlib.Omega.{arith}
use native.Mathlib.Nat.{zero-add, add-zero, add-suc, mul-add-mod_self_right, mod-eq_of_lt}
use lib.Dec.{leb}
use borrow.Author.Tests.{le-leb, lt-leb}
use Rattle.text.specs.Choice.{pick, within}
use Rattle.text.specs.White.{among}
use Rattle.text.specs.Category.{controls, is_control, last_code_point, plane_size, is_noncharacter}
use Rattle.text.proofs.Tests.{pick_same, in_range, under-range, over-range, le_yes}

-- how many numbers below n the test holds of
unfoldable pub how_many : (ℕ → Bool) → ℕ → ℕ
how_many f zero = 0
how_many f (suc n) = pick (f n) 1 0 + how_many f n

pub none_below : (f : ℕ → Bool) → how_many f 0 ≡ 0
unfolding how_many
none_below f = refl

-- n more, of which the test says the same, t: all are counted, or none
more_by : (t : Bool) (n m : ℕ) → pick t 1 0 + (pick t n 0 + m) ≡ pick t (suc n) 0 + m
more_by true n m = omega arith
more_by false n m = omega arith

module _ (f : ℕ → Bool) (t : Bool) where
  pub more : (from n : ℕ) → ((k : ℕ) → k < n → t ≡ f (from + k)) → how_many f (from + n) ≡ pick t n 0 + how_many f from
  unfolding how_many
  more from zero h = rw (pick_same t zero, add-zero) (omega arith)
  more from (suc n) h = rw (add-suc, ← h n (omega arith), more from n (λ k l. h k (omega arith))) (more_by t n (how_many f from))

  pub from_zero : (n : ℕ) → ((k : ℕ) → k < n → t ≡ f k) → how_many f n ≡ pick t n 0
  from_zero n h = rw (zero-add, none_below, add-zero) at (more 0 n (λ k l. rw zero-add (h k l)))

-- the last range, of a number that is not below it
by_last : (t : Bool) → t ≡ pick t true false
by_last true = refl
by_last false = refl

pub last-range : (low high n : ℕ) → low ≤ n → leb n high ≡ pick (within low high n) true false
last-range low high n h = rw (le-leb low n h) (by_last (leb n high))

-- above the first range of control characters
above : (c : ℕ) {x : Bool} → 0x1F < c → x ≡ pick (within 0x7F 0x9F c) true false → x ≡ is_control c
unfolding is_control controls among
above c h e = over-range 0 0x1F c true _ h e

-- "# Total code points: 65"
pub control_is_65 : how_many is_control (last_code_point + 1) ≡ 65
unfolding is_control controls among
control_is_65 =
    let first = from_zero is_control true 0x20 (λ k l. in_range 0 0x1F k true _ (omega arith) (omega arith) refl) in
    let gap =
    more is_control false 0x20 0x5F
    (λ k l. let c = 0x20 + k in above c (omega arith) (under-range 0x7F 0x9F c true false (omega arith) refl))
    in
    let second =
    more is_control true 0x7F 0x21
    (λ k l. let c = 0x7F + k in above c (omega arith) (in_range 0x7F 0x9F c true false (omega arith) (omega arith) refl))
    in
    let rest =
    more is_control false 0xA0 0x10FF60
    (λ k l. let c = 0xA0 + k in above c (omega arith) (over-range 0x7F 0x9F c true false (omega arith) refl))
    in
    omega arith

-- besides U+FDD0 to U+FDEF, the code point c, which has the number k in plane n, is a noncharacter exactly if k is one of the last two
beside : {x b : Bool} (c : ℕ) → (c < 0xFDD0) ⊎ (0xFDEF < c) → x ≡ b → x ≡ pick (within 0xFDD0 0xFDEF c) true b
beside c (inl h) e = under-range 0xFDD0 0xFDEF c true _ h e
beside c (inr h) e = over-range 0xFDD0 0xFDEF c true _ h e

module _ (n k c : ℕ) (is : c ≡ n * plane_size + k) (k-in : k < plane_size) (n-in : n ≤ 16) (out : (c < 0xFDD0) ⊎ (0xFDEF < c)) where
  in_plane : c % plane_size ≡ k
  in_plane = rw is (mul-add-mod_self_right n plane_size k ∙ mod-eq_of_lt k-in)

  by_plane : leb 0xFFFE k ≡ is_noncharacter c
  unfolding is_noncharacter
  by_plane = beside c out (le_yes c last_code_point _ false (omega arith) (rw in_plane))

  last-two : 0xFFFE ≤ k → true ≡ is_noncharacter c
  last-two h = sym (le-leb 0xFFFE k h) ∙ by_plane

  no_other : k < 0xFFFE → false ≡ is_noncharacter c
  no_other h = sym (lt-leb 0xFFFE k h) ∙ by_plane

-- the planes behind the first have two each
planes : (n : ℕ) → n ≤ 16 → how_many is_noncharacter (plane_size + n * plane_size) ≡ 2 * n + how_many is_noncharacter plane_size
planes zero h = omega arith
planes (suc n) h =
    let from = plane_size + n * plane_size in
    let none =
    more is_noncharacter false from 0xFFFE (λ k l. no_other (suc n) k (from + k) (omega arith) (omega arith) h (inr (omega arith)) l)
    in
    let two =
    more is_noncharacter true (from + 0xFFFE) 2
    (λ k l. last-two (suc n) (0xFFFE + k) (from + 0xFFFE + k) (omega arith) (omega arith) h (inr (omega arith)) (omega arith))
    in
    let e : plane_size + suc n * plane_size ≡ from + 0xFFFE + 2 = omega arith in
    rw e (omega (arith, planes n (omega arith)))

-- the first has the 32 of the range besides
first_plane : how_many is_noncharacter plane_size ≡ 34
unfolding is_noncharacter
first_plane =
    let none = from_zero is_noncharacter false 0xFDD0 (λ k l. no_other 0 k k (omega arith) (omega arith) (omega arith) (inl l) (omega arith)) in
    let range = more is_noncharacter true 0xFDD0 0x20 (λ k l. in_range 0xFDD0 0xFDEF (0xFDD0 + k) true _ (omega arith) (omega arith) refl) in
    let gap =
    more is_noncharacter false 0xFDF0 0x20E
    (λ k l. no_other 0 (0xFDF0 + k) (0xFDF0 + k) (omega arith) (omega arith) (omega arith) (inr (omega arith)) (omega arith))
    in
    let two =
    more is_noncharacter true 0xFFFE 2
    (λ k l. last-two 0 (0xFFFE + k) (0xFFFE + k) (omega arith) (omega arith) (omega arith) (inr (omega arith)) (omega arith))
    in
    omega arith

-- there are 66 of them
pub noncharacter-is_66 : how_many is_noncharacter (last_code_point + 1) ≡ 66
noncharacter-is_66 = omega (arith, planes 16 (omega arith), first_plane)
