-- Laws on the comparison of two parts: at every offset, and of four bytes at a time.
use mathlib.Core.Path.{◌≡◌, ◌∙◌, refl, ap, sym, subst}
use mathlib.Core.Bool.{Bool, true, false, not, ◌||◌, false≢true}
use mathlib.Core.List.{List, [], ◌∷◌, ◌++◌}
use Prim.Native.Nat.{ℕ, zero, suc, ◌+◌, ◌-◌, ◌<◌, ◌≤◌}
use native.Mathlib.Omega.{arith}
use lib.ListN.{length, get_or, take, drop, length-drop}
use lib.Seq.{take_all, take-suc, take-take, take-add, drop-cons, get_or-drop, length-take-le, ext_get_or}
use lib.Dec.{eqb}
use Rattle.text.specs.Choice.{pick}
use Rattle.text.specs.Part.{part_of, same_bytes, SameParts, SaysSame}
use Rattle.text.proofs.PartLaws.{same_refl, same-eq, same_by}
use Rattle.text.proofs.BlockLaws.{not-or-last, pick_true, pick-pick}

-- ---- what the comparison promises

-- parts of the same length and bytes are equal, and equal ones have the same length and bytes
pub parts-equal : {a b : List ℕ} → SameParts a b → a ≡ b
parts-equal {a} {b} s = ext_get_or 0 a b s.long s.bytes

pub equal-parts : {a b : List ℕ} → a ≡ b → SameParts a b
equal-parts e = record { long = ap length e; bytes = λ i h. ap (λ (l : List ℕ). get_or l i 0) e }

-- the test says yes exactly for them
pub compared : (a b : List ℕ) {r : Bool} → r ≡ same_bytes a b → SaysSame a b r
compared a b e =
    record {
      yes = λ t. equal-parts (same-eq a b (sym e ∙ t));
      only = λ s. e ∙ subst (λ (x : List ℕ). same_bytes a x ≡ true) (parts-equal s) (same_refl a);
    }

-- an answer that is the test's keeps the whole promise
pub answered : (a b : List ℕ) {r : Bool} → r ≡ same_bytes a b → (r ≡ same_bytes a b) × SaysSame a b r
answered a b e = (e, compared a b e)

-- the test says no of two lengths
pub other_length : (a b : List ℕ) → (length b ≡ length a → ⊥) → false ≡ same_bytes a b
other_length a b n = same_by a b false (λ t. absurd (false≢true t)) (λ e. absurd (n (ap length (sym e))))

-- ---- four bytes at a time

-- whether bytes differ: those at an offset, or at one of the n behind it
abbrev pub differ : List ℕ → List ℕ → ℕ → ℕ → Bool
differ a b at zero = not (eqb (get_or a at 0) (get_or b at 0))
differ a b at (suc n) = differ a b at n || not (eqb (get_or a (at + suc n) 0) (get_or b (at + suc n) 0))

not-not : (t : Bool) → not (not t) ≡ t
not-not true = refl
not-not false = refl

-- two parts of the same length with one byte more
same-last : (p q : List ℕ) (x y : ℕ) → length p ≡ length q →
    same_bytes (p ++ x ∷ []) (q ++ y ∷ []) ≡ pick (same_bytes p q) (pick (eqb x y) true false) false
unfolding same_bytes
same-last [] [] x y e = refl
same-last [] (w ∷ q) x y e = absurd (omega arith)
same-last (v ∷ p) [] x y e = absurd (omega arith)
same-last (v ∷ p) (w ∷ q) x y e =
    rw (same-last p q x y (omega arith)) (pick-pick (eqb v w) (same_bytes p q) (pick (eqb x y) true false))

-- and of two rows the first n bytes and one more
same_more : (l m : List ℕ) (n : ℕ) {t : Bool} → n < length l → n < length m → t ≡ same_bytes (take n l) (take n m) →
    pick t (pick (not (not (eqb (get_or l n 0) (get_or m n 0)))) true false) false ≡ same_bytes (take (suc n) l) (take (suc n) m)
same_more l m n h k e =
    let f : length (take n l) ≡ n = length-take-le n l (omega arith) in
    let g : length (take n m) ≡ n = length-take-le n m (omega arith) in
    rw (take-suc l n 0 h, take-suc m n 0 k, same-last (take n l) (take n m) (get_or l n 0) (get_or m n 0) (f ∙ sym g), e, not-not)

none_differ : (a b : List ℕ) (at n : ℕ) → at + n < length a → at + n < length b →
    not (differ a b at n) ≡ same_bytes (take (suc n) (drop at a)) (take (suc n) (drop at b))
unfolding same_bytes
none_differ a b at zero h k =
    let i : at < length a = omega arith in
    let j : at < length b = omega arith in
    rw (drop-cons a at 0 i, drop-cons b at 0 j) (not-not (eqb (get_or a at 0) (get_or b at 0)) ∙ pick_true (eqb (get_or a at 0) (get_or b at 0)))
none_differ a b at (suc n) h k =
    let i : suc n < length (drop at a) = simp length-drop (omega arith) in
    let j : suc n < length (drop at b) = simp length-drop (omega arith) in
    not-or-last (differ a b at n) (not (eqb (get_or a (at + suc n) 0) (get_or b (at + suc n) 0)))
    ∙ (simp get_or-drop at (same_more (drop at a) (drop at b) (suc n) i j (none_differ a b at n (omega arith) (omega arith))))

-- no test of four says that bytes differ
pub four_same : (a b : List ℕ) (at : ℕ) → at + 4 ≤ length a → at + 4 ≤ length b →
    not (differ a b at 3) ≡ same_bytes (part_of a at (at + 4)) (part_of b at (at + 4))
unfolding part_of
four_same a b at h k =
    let m : at + 4 - at ≡ 4 = omega arith in
    rw m (none_differ a b at 3 (omega arith) (omega arith))

-- a callee answered whether four bytes are the same
module _ (a b : List ℕ) (at : ℕ) {r : Bool} (e : r ≡ same_bytes (part_of a at (at + 4)) (part_of b at (at + 4))) where
  four-equal : r ≡ true → part_of a at (at + 4) ≡ part_of b at (at + 4)
  four-equal t = same-eq _ _ (sym e ∙ t)

  -- all before them being the same, all behind them are
  pub same-on : take at a ≡ take at b → r ≡ true → take (at + 4) a ≡ take (at + 4) b
  unfolding part_of
  same-on f t =
      let m : at + 4 - at ≡ 4 = omega arith in
      rw (take-add at 4 a, take-add at 4 b, f, rw m at (four-equal t))

  four-of : a ≡ b → r ≡ true
  four-of f = e ∙ subst (λ (x : List ℕ). same_bytes (part_of a at (at + 4)) (part_of x at (at + 4)) ≡ true) f (same_refl _)

  pub same-no : r ≡ false → false ≡ same_bytes a b
  same-no n = same_by a b false (λ t. absurd (false≢true t)) (λ f. absurd (false≢true (sym n ∙ four-of f)))

  -- the last four bytes, those before k being the same
  pub same_end : (k : ℕ) → length a ≡ at + 4 → length b ≡ at + 4 → at ≤ k → take k a ≡ take k b → r ≡ same_bytes a b
  same_end k l m h f =
      same_by a b r
      (λ t. let g : take at a ≡ take at b = rw (← (take-take at k a h), ← (take-take at k b h), f) in
      sym (take_all (at + 4) a (omega arith)) ∙ same-on g t ∙ take_all (at + 4) b (omega arith))
      four-of
