-- The parts of bytes that are parted at the byte b, one after the other by their offsets.
use mathlib.Core.Path.{◌≡◌, refl, ap}
use mathlib.Core.Bool.{Bool, true, false}
use mathlib.Core.List.{List, [], ◌∷◌}
use Prim.Native.Nat.{ℕ, ◌+◌, ◌-◌, ◌*◌, ◌^◌, ◌<◌, ◌≤◌}
use native.Mathlib.Nat.{suc-add, add_assoc}
use native.Mathlib.Omega.{arith}
use lib.ListN.{length, take, drop, length-drop, drop_of_length-le}
use lib.Seq.{drop-drop}
use lib.Dec.{eqb}
use mir.Syntax.{w64}
use mir.Val.{Fits}
use borrow.Author.Tests.{lt-ltb}
use Rattle.text.specs.Find.{index_of, index_after}
use Rattle.text.specs.Part.{part_of}
use Rattle.text.specs.Find.{first_at}
use Rattle.text.specs.Split.{onto, parted, split}
use Rattle.text.proofs.FindLaws.{first-within, first-from}

module _ (b : ℕ) where
  -- a first byte and the parts of the rest, by whether that byte is b
  split_by : (c : ℕ) (s : List ℕ) (t : Bool) →
      onto c (split b s) ≡ (c ∷ take (index_of b s) s) ∷ split b (drop (index_of b s + 1) s) →
      parted t c (split b s)
      ≡ take (index_after t (index_of b s)) (c ∷ s) ∷ split b (drop (index_after t (index_of b s) + 1) (c ∷ s))
  unfolding index_after
  split_by c s true h = refl
  split_by c s false h = rw suc-add h

  -- the parts of what is not empty: the first, up to its b, and those behind that
  split-first : (l : List ℕ) → 0 < length l → split b l ≡ take (index_of b l) l ∷ split b (drop (index_of b l + 1) l)
  unfolding split index_of
  split-first [] h = absurd (omega arith)
  split-first (c ∷ []) h = split_by c [] (eqb c b) refl
  split-first (c ∷ d ∷ l) h = split_by c (d ∷ l) (eqb c b) (ap (onto c) (split-first (d ∷ l) (omega arith)))

  module _ (s : List ℕ) (at : ℕ) where
    -- before the end, the part at an offset is the first, and the others begin behind its b
    pub split-on : at < length s → split b (drop at s) ≡ part_of s at (first_at b s at) ∷ split b (drop (first_at b s at + 1) s)
    unfolding first_at part_of
    split-on h =
        let k = index_of b (drop at s) in
        let d : at + k - at ≡ k = omega arith in
        rw (lt-ltb at (length s) h, d, add_assoc, ← drop-drop) (split-first (drop at s) (simp length-drop (omega arith)))

    -- at the end there is none
    pub split-none : length s ≤ at → split b (drop at s) ≡ []
    unfolding split
    split-none h = ap (split b) (drop_of_length-le s h)

    -- a part as code reads it: the offset where it ends, and its bytes p
    module _ {end : ℕ} (e : end ≡ first_at b s at) where
      pub part-read : at < length s → {p : List ℕ} → p ≡ part_of s at end → split b (drop at s) ≡ p ∷ split b (drop (end + 1) s)
      part-read h q = rw (q, e) (split-on h)

      -- behind it less is left
      pub less-left : at < length s → length s - (end + 1) < length s - at
      less-left h = omega (arith, first-from b s at (omega arith))

      -- and the offset behind it is a usize
      pub next_fits : length s * 1 < 2 ^ 63 → Fits w64 (end + 1)
      next_fits h = omega (arith, first-within b s at)
