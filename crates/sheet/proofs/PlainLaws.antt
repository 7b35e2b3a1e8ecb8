-- Names without quote and CR, byte by byte and eight at a time.
use mathlib.Core.Path.{◌≡◌, ◌∙◌, refl, sym}
use mathlib.Core.Bool.{Bool, true, false, not, false≢true}
use mathlib.Core.List.{List, [], ◌∷◌}
use Prim.Native.Nat.{ℕ, zero, suc, ◌+◌, ◌-◌, ◌<◌, ◌≤◌}
use native.Mathlib.Omega.{arith}
use native.Mathlib.Numerals.{add-one}
use lib.ListN.{length, drop, take, get_or, drop_of_length-le}
use lib.Seq.{drop-cons, drop-drop}
use borrow.Author.Tests.{not-true, le-leb}
use Rattle.text.specs.Choice.{pick}
use Rattle.text.specs.Part.{part_of}
use Rattle.text.specs.Block.{every, block}
use Rattle.text.proofs.BlockLaws.{over-row, row-begin, row_block}
use Rattle.sheet.specs.Line.{is_mark, plain}

-- ---- byte by byte: what is plain from here on is r

module _ (l : List ℕ) (i : ℕ) {r : Bool} (on : plain (drop i l) ≡ r) where
  pub end : length l ≤ i → true ≡ r
  unfolding plain
  end h = rw (drop_of_length-le l h) at on

  module _ {m : Bool} (inside : i < length l) (told : m ≡ is_mark (get_or l i 0)) where
    pub mark : m ≡ true → false ≡ r
    unfolding plain
    mark e = rw (drop-cons l i 0 inside, ← told, e) at on

    pub past : m ≡ false → plain (drop (i + 1) l) ≡ r
    unfolding plain
    past e = rw (add-one i) (rw (drop-cons l i 0 inside, ← told, e) at on)

-- ---- eight at a time

abbrev unmarked : ℕ → Bool
unmarked c = not (is_mark c)

-- a mark among some bytes is one among more
marked_by : (m : Bool) {x y : Bool} → pick (not m) x false ≡ false → (x ≡ false → y ≡ false) → pick m false y ≡ false
marked_by true e f = refl
marked_by false e f = f e

marked-on : (m : Bool) {y : Bool} → y ≡ false → pick m false y ≡ false
marked-on true e = refl
marked-on false e = e

take-marked : (n : ℕ) (l : List ℕ) → every unmarked (take n l) ≡ false → plain l ≡ false
unfolding every plain
take-marked zero l e = absurd (false≢true (sym e))
take-marked (suc n) [] e = absurd (false≢true (sym e))
take-marked (suc n) (c ∷ l) e = marked_by (is_mark c) e (λ h. take-marked n l h)

drop-marked : (n : ℕ) (l : List ℕ) → plain (drop n l) ≡ false → plain l ≡ false
unfolding plain
drop-marked zero l e = e
drop-marked (suc n) [] e = e
drop-marked (suc n) (c ∷ l) e = marked-on (is_mark c) (drop-marked n l e)

-- a callee answered whether eight bytes are there that are no mark
module _ (l : List ℕ) (at : ℕ) {b : Bool} (e : b ≡ block unmarked l at) where
  pub block_on : {r : Bool} → plain (drop at l) ≡ r → b ≡ true → plain (drop (at + 8) l) ≡ r
  block_on {r} on h =
      over-row unmarked l (λ (k : ℕ). plain (drop k l) ≡ r)
      (λ k i u p. past l k p i refl (not-true (is_mark (get_or l k 0)) u)) at (at + 8) (row_block unmarked l at e h at (row-begin unmarked l at)) on

  block-marked : at + 8 ≤ length l → b ≡ false → plain (drop at l) ≡ false
  unfolding block part_of
  block-marked h f =
      let m : at + 8 - at ≡ 8 = omega arith in
      take-marked 8 (drop at l) (rw (le-leb (at + 8) (length l) h, m) at (sym e ∙ f))

  -- a mark is found
  pub marked : at + 8 ≤ length l → b ≡ false → false ≡ plain l
  marked h f = sym (drop-marked at l (block-marked h f))

  -- the last eight bytes, where all before k were no mark
  block-plain : length l ≡ at + 8 → b ≡ true → plain (drop at l) ≡ true
  block-plain h t = sym (end l (at + 8) (block_on refl t) (omega arith))

  module _ (k : ℕ) (whole : length l ≡ at + 8) (late : at ≤ k) (on : plain (drop k l) ≡ plain l) where
    rest : (r : Bool) → plain (drop k l) ≡ r → plain (drop at l) ≡ true → r ≡ true
    rest true p q = refl
    rest false p q =
        let m : at + (k - at) ≡ k = omega arith in
        absurd (false≢true (sym (drop-marked (k - at) (drop at l) (rw (drop-drop, m) p)) ∙ q))

    by_last : (r : Bool) → b ≡ r → r ≡ plain l
    by_last true t = sym (rest _ refl (block-plain whole t)) ∙ on
    by_last false f = marked (omega arith) f

    pub last_block : b ≡ plain l
    last_block = by_last b refl
