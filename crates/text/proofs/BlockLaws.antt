-- Laws on rows of bytes that all pass a test, and on the blocks of eight that make such a row up.
use mathlib.Core.Path.{◌≡◌, ◌∙◌, refl, ap, sym}
use mathlib.Core.Bool.{Bool, true, false, not, ◌||◌, ◌&&◌}
use mathlib.Core.List.{List, [], ◌∷◌, ◌++◌}
use Prim.Native.Nat.{ℕ, zero, suc, ◌+◌, ◌-◌, ◌^◌, ◌<◌, ◌≤◌}
use native.Mathlib.Omega.{arith}
use native.Mathlib.Nat.{add-zero}
use native.Mathlib.Numerals.{add-one}
use lib.ListN.{length, get_or, take, drop, length-drop}
use Rattle.std.proofs.lemmas.List.{get_or-take, length-take}
use lib.Seq.{take_all, take-suc, take-add, drop-cons, drop-drop, get_or-drop}
use lib.Dec.{ltb, leb}
use mir.Syntax.{w8, w64}
use mir.Val.{Fits}
use borrow.Author.Rules.{rules}
use borrow.Author.Tests.{leb-true, leb-false, lt-ltb, le-ltb, le-leb, lt-leb}
use Rattle.text.specs.Choice.{pick}
use Rattle.text.specs.Part.{part_of}
use Rattle.text.specs.Block.{every, block, Row}
use Rattle.text.proofs.Tests.{both}
use Rattle.text.proofs.PartLaws.{part_none, and-pick}

-- ---- tests

not-leb-by : (m n : ℕ) (t : Bool) → leb m n ≡ t → not t ≡ ltb n m
not-leb-by m n true e = sym (le-ltb n m (leb-true m n e))
not-leb-by m n false e = sym (lt-ltb n m (leb-false m n e))

-- a number that is not at least m is below m
pub not-leb : (m n : ℕ) → not (leb m n) ≡ ltb n m
not-leb m n = not-leb-by m n (leb m n) refl

-- neither of two tests, as a choice by the first
pub not-or : (t u : Bool) → not (t || u) ≡ pick t false (not u)
not-or true u = refl
not-or false u = refl

pub not-or-last : (t u : Bool) → not (t || u) ≡ pick (not t) (pick (not u) true false) false
not-or-last true u = refl
not-or-last false true = refl
not-or-last false false = refl

pub not-or-not : (t u : Bool) → not (t || not u) ≡ (not t && u)
not-or-not true u = refl
not-or-not false true = refl
not-or-not false false = refl

pub pick_true : (t : Bool) → t ≡ pick t true false
pick_true true = refl
pick_true false = refl

pub pick-pick : (t u v : Bool) → pick t (pick u v false) false ≡ pick (pick t u false) v false
pick-pick true u v = refl
pick-pick false u v = refl

-- ---- rows

module _ (p : ℕ → Bool) where
  every_append : (a b : List ℕ) → every p (a ++ b) ≡ pick (every p a) (every p b) false
  unfolding every
  every_append [] b = refl
  every_append (c ∷ a) b = rw (every_append a b) (pick-pick (p c) (every p a) (every p b))

  pub every-last : (l : List ℕ) (n : ℕ) → n < length l →
      every p (take (suc n) l) ≡ pick (every p (take n l)) (pick (p (get_or l n 0)) true false) false
  unfolding every
  every-last l n h = ap (every p) (take-suc l n 0 h) ∙ every_append (take n l) (get_or l n 0 ∷ [])

  -- one byte more
  pub every-next : (l : List ℕ) (n : ℕ) {a r : Bool} → n < length l → a ≡ every p (take n l) → r ≡ p (get_or l n 0) →
      (a && r) ≡ every p (take (n + 1) l)
  every-next l n {a} {r} h e f =
      rw (add-one, every-last l n h, ← e, ← f) (and-pick a r ∙ ap (λ (u : Bool). pick a u false) (pick_true r))

  -- a row that goes on with another
  every-on : (s : List ℕ) (from at end : ℕ) → from ≤ at → at ≤ end → every p (part_of s from at) ≡ true →
      every p (part_of s at end) ≡ true → every p (part_of s from end) ≡ true
  unfolding part_of
  every-on s from at end h k e f =
      let m : end - from ≡ (at - from) + (end - at) = omega arith in
      let n : from + (at - from) ≡ at = omega arith in
      rw (m, take-add, drop-drop, n, every_append, e, f)

-- a row that has not begun
pub row-begin : (p : ℕ → Bool) (s : List ℕ) (at : ℕ) → Row p s at at
unfolding every
row-begin p s at = (rw (← part_none s at at (omega arith)), omega arith, omega arith)

-- what each byte that passes the test keeps, a row keeps
module _ (p : ℕ → Bool) (s : List ℕ) (P : ℕ → Type 0) (keeps : (at : ℕ) → at < length s → p (get_or s at 0) ≡ true → P at → P (at + 1)) where
  over_by : (n from : ℕ) → n ≤ length s - from → every p (take n (drop from s)) ≡ true → P from → P (from + n)
  unfolding every
  over_by zero from l e i = rw add-zero i
  over_by (suc n) from l e i =
      let h : from < length s = omega arith in
      let k = both (p (get_or s from 0)) (rw (drop-cons s from 0 h) at e) in
      let m : suc from + n ≡ from + suc n = omega arith in
      rw m at (over_by n (suc from) (omega arith) k.1 (rw add-one at (keeps from h k.0 i)))

  pub over-row : (from at : ℕ) → Row p s from at → P from → P at
  unfolding part_of
  over-row from at h i =
      let m : from + (at - from) ≡ at = omega arith in
      rw m at (over_by (at - from) from (omega arith) h.0 i)

-- ---- blocks

-- whether a byte passes a test: the one at an offset, or one of the n behind it
abbrev pub some : (ℕ → Bool) → List ℕ → ℕ → ℕ → Bool
some q s at zero = q (get_or s at 0)
some q s at (suc n) = some q s at n || q (get_or s (at + suc n) 0)

-- q is the opposite of p
module _ (p q : ℕ → Bool) (opposite : (b : ℕ) → not (q b) ≡ p b) where
  some-every : (s : List ℕ) (at n : ℕ) → at + n < length s → not (some q s at n) ≡ every p (take (suc n) (drop at s))
  unfolding every
  some-every s at zero h =
      let k : at < length s = omega arith in
      rw (drop-cons s at 0 k, opposite) (pick_true (p (get_or s at 0)))
  some-every s at (suc n) h =
      let i = some-every s at n (omega arith) in
      let k : suc n < length (drop at s) = simp length-drop (omega arith) in
      not-or-last (some q s at n) (q (get_or s (at + suc n) 0))
      ∙ rw (i, opposite, every-last p (drop at s) (suc n) k, get_or-drop)

  -- no byte of eight passes q: every one passes p
  pub eight : (s : List ℕ) (at : ℕ) → at + 8 ≤ length s → not (some q s at 7) ≡ block p s at
  unfolding block part_of
  eight s at h =
      let m : at + 8 - at ≡ 8 = omega arith in
      rw (le-leb (at + 8) (length s) h, m) (some-every s at 7 (omega arith))

-- eight bytes that are there are a block where they all pass
pub block-here : (p : ℕ → Bool) (s : List ℕ) (at n : ℕ) {a : Bool} → at + 8 ≤ length s → length (part_of s at (at + 8)) ≤ n →
    a ≡ every p (take n (part_of s at (at + 8))) → a ≡ block p s at
unfolding block
block-here p s at n h k e = e ∙ rw (take_all n (part_of s at (at + 8)) k, le-leb (at + 8) (length s) h)

-- a byte of a part is a byte
pub part-byte : (s : List ℕ) (start end n : ℕ) → ((i : ℕ) → Fits w8 (get_or s i 0)) → n < length (part_of s start end) →
    get_or (part_of s start end) n 0 < 256
unfolding part_of
part-byte s start end n f h =
    let k : n < end - start = omega (arith, simp length-take at h) in
    let e : get_or (take (end - start) (drop start s)) n 0 ≡ get_or s (start + n) 0 = get_or-take (end - start) (drop start s) n 0 k ∙ get_or-drop start s n 0 in
    rw e (f (start + n)).fits

-- where eight bytes are not left there is no block
pub block-past : (p : ℕ → Bool) (s : List ℕ) (at : ℕ) → length s < at + 8 → false ≡ block p s at
unfolding block
block-past p s at h = rw (lt-leb (at + 8) (length s) h)

-- a callee answered that there is a block at an offset
module _ (p : ℕ → Bool) (s : List ℕ) (at : ℕ) {r : Bool} (e : r ≡ block p s at) (h : r ≡ true) where
  block-parts : (leb (at + 8) (length s) ≡ true) × (every p (part_of s at (at + 8)) ≡ true)
  unfolding block
  block-parts = both (leb (at + 8) (length s)) (sym e ∙ h)

  block_inside : at + 8 ≤ length s
  block_inside = leb-true (at + 8) (length s) block-parts.0

  -- a row goes on with it
  pub row_block : (from : ℕ) → Row p s from at → Row p s from (at + 8)
  row_block from i =
      let k = block_inside in
      (every-on p s from at (at + 8) i.1 (omega arith) i.0 block-parts.1, omega arith, omega arith)

  -- less of the text is left behind it, and the offset there is a number that the machine holds
  pub block-less : length s - (at + 8) < length s - at
  block-less =
      let k = block_inside in
      omega arith

  pub block-fits : length s < 2 ^ 64 → Fits w64 (at + 8)
  block-fits l =
      let k = block_inside in
      omega arith

-- closes what is left of a loop over blocks: search blocks
pub ruleset blocks = (rules, row-begin, row_block, block-less, block-fits)
