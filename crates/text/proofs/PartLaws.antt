-- Laws on parts of byte slices and their comparison.
use mathlib.Core.Path.{◌≡◌, ◌∙◌, refl, subst, sym, ap}
use mathlib.Core.Bool.{Bool, true, false, ◌&&◌}
use mathlib.Core.List.{List, [], ◌∷◌}
use Prim.Native.Nat.{ℕ, ◌-◌, ◌≤◌, min}
use native.Mathlib.Omega.{arith}
use native.Mathlib.Decide.{dec_le}
use lib.ListN.{length, take, drop, length-drop, drop_of_length-le}
use lib.Seq.{take_all, take-nil}
use lib.Dec.{eqb}
use lib.Pointwise.{pointwise}
use Rattle.text.specs.Choice.{pick}
use borrow.Author.Tests.{eq-eqb, eqb-true}
use Rattle.text.specs.Part.{part_of, same_bytes}
use Rattle.text.proofs.Tests.{both}

-- a part that ends where it starts is empty
pub part_none : (s : List ℕ) (start end : ℕ) → end ≤ start → [] ≡ part_of s start end
unfolding part_of
part_none s start end h =
    let e : end - start ≡ 0 = omega arith in
    rw e

-- and so is one that starts past the end
pub part-past : (s : List ℕ) (start end : ℕ) → length s ≤ start → [] ≡ part_of s start end
unfolding part_of
part-past s start end h = rw (drop_of_length-le s h, take-nil)

-- a part ends where the bytes do, at the latest
part-cut-by : (s : List ℕ) (start end : ℕ) → Dec (end ≤ length s) → take (min end (length s) - start) (drop start s) ≡ part_of s start end
unfolding part_of
part-cut-by s start end (yes h) =
    let e : min end (length s) ≡ end = omega arith in
    rw e
part-cut-by s start end (no h) =
    let e : min end (length s) ≡ length s = omega arith in
    rw e
    (take_all (length s - start) (drop start s) (simp length-drop (omega arith))
    ∙ sym (take_all (end - start) (drop start s) (simp length-drop (omega arith))))

pub part-cut : (s : List ℕ) (start end : ℕ) → take (min end (length s) - start) (drop start s) ≡ part_of s start end
part-cut s start end = part-cut-by s start end (dec_le end (length s))

pub part-cut-none : (s : List ℕ) (start end : ℕ) → min end (length s) ≤ start → [] ≡ part_of s start end
part-cut-none s start end h =
    let e : min end (length s) - start ≡ 0 = omega arith in
    rw e at (part-cut s start end)

-- the comparison says yes of equal rows
pub same_refl : (a : List ℕ) → same_bytes a a ≡ true
unfolding same_bytes
same_refl [] = refl
same_refl (x ∷ a) = rw (eq-eqb x x refl) (same_refl a)

-- and only of those
pub same-eq : (a b : List ℕ) → same_bytes a b ≡ true → a ≡ b
unfolding same_bytes
same-eq [] [] e = refl
same-eq [] (y ∷ b) e = absurd (let z : ◌≡◌ {A = ℕ} 0 1 = cc in omega arith)
same-eq (x ∷ a) [] e = absurd (let z : ◌≡◌ {A = ℕ} 0 1 = cc in omega arith)
same-eq (x ∷ a) (y ∷ b) e =
    let h = both (eqb x y) e in
    let p : x ≡ y = eqb-true x y h.0 in
    let q : a ≡ b = same-eq a b h.1 in
    cc

differ-by : (a b : List ℕ) (t : Bool) → same_bytes a b ≡ t → (a ≡ b → false ≡ true) → false ≡ t
differ-by a b true e f = f (same-eq a b e)
differ-by a b false e f = refl

-- an answer that is yes exactly for equal rows is the comparison's
pub same_by : (a b : List ℕ) (r : Bool) → (r ≡ true → a ≡ b) → (a ≡ b → r ≡ true) → r ≡ same_bytes a b
same_by a b true f g = sym (subst (λ (x : List ℕ). same_bytes a x ≡ true) (f refl) (same_refl a))
same_by a b false f g = differ-by a b (same_bytes a b) refl g

-- the test that std makes of two slices
pub and-pick : (t u : Bool) → (t && u) ≡ pick t u false
and-pick true u = refl
and-pick false u = refl

pub each_equal : (a b : List ℕ) → pointwise eqb a b ≡ same_bytes a b
unfolding same_bytes
each_equal [] [] = refl
each_equal [] (y ∷ b) = refl
each_equal (x ∷ a) [] = refl
each_equal (x ∷ a) (y ∷ b) = and-pick (eqb x y) (pointwise eqb a b) ∙ ap (λ (u : Bool). pick (eqb x y) u false) (each_equal a b)
