-- Where a byte stands, byte by byte.
use mathlib.Core.Path.{ap, ◌≡◌, refl, ◌∙◌}
use mathlib.Core.Bool.{Bool, true, false}
use mathlib.Core.List.{List, [], ◌∷◌}
use Prim.Native.Nat.{zero, ℕ, suc, ◌+◌, ◌-◌, ◌<◌, ◌≤◌}
use native.Mathlib.Omega.{arith}
use native.Mathlib.Nat.{add-zero}
use native.Mathlib.Numerals.{add-one}
use lib.ListN.{length, take, drop, get_or, length-drop, drop_of_length-le}
use lib.Seq.{drop-cons, take_all}
use lib.Dec.{ltb, eqb}
use borrow.Author.Tests.{eqb-true, ltb-true, ltb-false, eq-eqb, ne_eqb}
use Rattle.std.specs.Prelude.{Option, Some, None}
use Rattle.std.specs.Option.{MatchOption, unwrap_or}
use Rattle.std.specs.List.{AllWithin, HoldsAt}
use Rattle.std.proofs.lemmas.Iterator.{index_from_first}
use Rattle.text.specs.Find.{index_of, index_after}
use Rattle.text.proofs.Tests.{picked, lt_no}
use Rattle.text.specs.Find.{first_at}

after-within : (t : Bool) {k n : ℕ} → k ≤ n → index_after t k ≤ suc n
unfolding index_after
after-within true h = omega arith
after-within false h = omega arith

index-within : (b : ℕ) (l : List ℕ) → index_of b l ≤ length l
unfolding index_of
index-within b [] = omega arith
index-within b (x ∷ l) = after-within (eqb x b) (index-within b l)

-- where a byte is found it stands
found_by_lem : (b c : ℕ) (l : List ℕ) (t : Bool) → eqb c b ≡ t → index_after t (index_of b l) < suc (length l) →
    (index_of b l < length l → get_or l (index_of b l) 0 ≡ b) → get_or (c ∷ l) (index_after t (index_of b l)) 0 ≡ b
unfolding index_after
found_by_lem b c l true e h k = eqb-true c b e
found_by_lem b c l false e h k = k (omega arith)

pub index-found : (b : ℕ) (l : List ℕ) → index_of b l < length l → get_or l (index_of b l) 0 ≡ b
unfolding index_of
index-found b [] h = absurd (omega arith)
index-found b (c ∷ l) h = found_by_lem b c l (eqb c b) refl h (index-found b l)

-- it stands within the bytes, and not before the offset
pub first-within : (b : ℕ) (s : List ℕ) (at : ℕ) → first_at b s at ≤ length s
unfolding first_at
first-within b s at =
    picked
    (λ (k : ℕ). k ≤ length s)
    (ltb at (length s))
    (λ t. omega (arith, ltb-true at (length s) t, simp length-drop at (index-within b (drop at s))))
    (λ t. omega arith)

pub first-from : (b : ℕ) (s : List ℕ) (at : ℕ) → at ≤ length s → at ≤ first_at b s at
unfolding first_at
first-from b s at h = picked (λ (k : ℕ). at ≤ k) (ltb at (length s)) (λ t. omega arith) (λ t. h)

-- there is none past the end
pub first_past : (b : ℕ) (s : List ℕ) (at : ℕ) → length s ≤ at → length s ≡ first_at b s at
unfolding first_at
first_past b s at h = lt_no _ _ _ _ h refl

pub first-is : (b : ℕ) (s : List ℕ) (i : ℕ) → i ≤ length s → first_at b s i ≡ i + index_of b (drop i s)
unfolding first_at index_of
first-is b s i h =
    picked (λ (r : ℕ). r ≡ i + index_of b (drop i s)) (ltb i (length s))
    (λ e. refl)
    (λ e.
    let k : length s ≤ i = ltb-false i (length s) e in
    rw (drop_of_length-le s k) (omega arith))

index_at : (b : ℕ) (s : List ℕ) (i : ℕ) (t : Bool) → i < length s → eqb (get_or s i 0) b ≡ t →
    index_of b (drop i s) ≡ index_after t (index_of b (drop (i + 1) s))
unfolding index_of
index_at b s i t h e = rw (drop-cons s i 0 h, e, add-one)

-- at an offset where it stands, and at one where it does not
pub first-here : (b : ℕ) (s : List ℕ) (i : ℕ) → i < length s → get_or s i 0 ≡ b → i ≡ first_at b s i
unfolding index_after
first-here b s i h e =
    let k : i ≤ length s = omega arith in
    let f = index_at b s i true h (eq-eqb _ _ e) in
    rw (first-is b s i k, f) (omega arith)

pub first_next : (b : ℕ) (s : List ℕ) (i : ℕ) → i < length s → (get_or s i 0 ≡ b → ⊥) → first_at b s (i + 1) ≡ first_at b s i
unfolding index_after
first_next b s i h e =
    let k : i ≤ length s = omega arith in
    let m : i + 1 ≤ length s = omega arith in
    let f = index_at b s i false h (ne_eqb _ _ e) in
    rw (first-is b s i k, first-is b s (i + 1) m, f) (omega arith)

-- looked for from anywhere up to it, the first b is the same
pub first-same : (b : ℕ) (s : List ℕ) (at n : ℕ) → at + n ≤ first_at b s at → first_at b s (at + n) ≡ first_at b s at
first-same b s at zero h = ap (first_at b s) (add-zero at)
first-same b s at (suc n) h =
    let k = first-same b s at n (omega arith) in
    let w = first-within b s at in
    let e : at + suc n ≡ at + n + 1 = omega arith in
    rw e
    (first_next b s (at + n) (omega arith) (λ is. let f = first-here b s (at + n) (omega arith) is in omega arith) ∙ k)

-- what `position` says of the bytes from an offset on
abbrev pub Found : ℕ → List ℕ → Option ℕ → Type 0
Found b l r =
    MatchOption r (AllWithin (λ x. x ≡ b → ⊥) l 0 (length l))
    (λ i. (i < length l) × HoldsAt (λ x. x ≡ b) l i × AllWithin (λ x. x ≡ b → ⊥) l 0 i)

index-by : (b : ℕ) (l : List ℕ) (r : Option ℕ) → Found b l r → index_of b l ≡ unwrap_or r (length l)
unfolding index_of index_after
index-by b l r h =
    index_from_first (index_of b) (λ x. x ≡ b) (λ x. x ≡ b → ⊥) refl (λ x xs e. rw (eq-eqb x b e))
    (λ x xs n. rw (ne_eqb x b n, add-one)) l r h

-- the bytes from an offset on, as a slice of them gives them
abbrev pub behind : List ℕ → ℕ → List ℕ
behind s from = take (length s - from) (drop from s)

rest : (s : List ℕ) (from : ℕ) → behind s from ≡ drop from s
rest s from = take_all (length s - from) (drop from s) (simp length-drop (omega arith))

pub first-some : (b : ℕ) (s : List ℕ) (from : ℕ) → from ≤ length s → {r : Option ℕ} → Found b (behind s from) r → {i : ℕ} → r ≡ Some i →
    from + i ≡ first_at b s from
first-some b s from h f {i} g =
    let k : index_of b (behind s from) ≡ i = index-by b (behind s from) (Some i) (rw g at f) in
    rw (first-is b s from h, ← (rest s from), k)

pub first-none : (b : ℕ) (s : List ℕ) (from : ℕ) → from ≤ length s → {r : Option ℕ} → Found b (behind s from) r → r ≡ None →
    length s ≡ first_at b s from
first-none b s from h f g =
    let k : index_of b (behind s from) ≡ length (behind s from) = index-by b (behind s from) None (rw g at f) in
    rw (first-is b s from h, ← (rest s from), k, rest s from) (simp length-drop (omega arith))
