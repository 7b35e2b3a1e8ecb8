-- The rows of an archive from an offset on: which is the first that is malformed, and how many there are.
use Rattle.std.specs.Prelude.{Option}
use Prim.Native.Nat.{ℕ, ◌+◌, ◌-◌, ◌<◌, ◌≤◌}
use native.Mathlib.Omega.{arith}
use mathlib.Core.Path.{◌≡◌, ◌∙◌, refl, sym}
use mathlib.Core.Bool.{Bool, true, false, not}
use mathlib.Core.List.{List, [], ◌∷◌}
use lib.ListN.{length, drop, get_or, length-drop}
use lib.Seq.{get_or-drop}
use lib.Dec.{ltb}
use borrow.Author.Rules.{rules}
use borrow.Author.Tests.{lt-ltb, le-ltb, eq-eqb, ne_eqb, not-true, not-false, ltb-true, ltb-false}
use Rattle.text.specs.Find.{index_of}
use Rattle.text.specs.Choice.{pick}
use Rattle.text.specs.Part.{part_of}
use Rattle.text.proofs.FindLaws.{index-found, first-is, first-within, first-same, first-here}
use Rattle.text.proofs.SplitLaws.{split-on, split-none, part-read}
use Rattle.text.proofs.Tests.{picked}
use Rattle.sheet.specs.Sheet.{lines, line_end}
use Rattle.language.specs.Limits.{most_triggers}
use Rattle.old_rows.specs.Row.{row_of}
use Rattle.old_rows.specs.Convert.{is_well, is_ended, is_whole, malformed_from, first_malformed}
use Rattle.old_rows.specs.declared.row.Row.{Row}

module _ (s : List ℕ) (at : ℕ) (inside : at < length s) {end : ℕ} (is : end ≡ line_end s at) where
  -- where an LF ends the row it stands
  ends : end < length s → get_or s end 0 ≡ 0x0A
  ends h =
      let k : end ≡ at + index_of 0x0A (drop at s) = is ∙ first-is 0x0A s at (omega arith) in
      let m : index_of 0x0A (drop at s) < length (drop at s) = simp length-drop (omega arith) in
      rw (k, ← get_or-drop at s (index_of 0x0A (drop at s)) 0) (index-found 0x0A (drop at s) m)

  -- where none does, the last byte is none
  not-ended : end ≡ length s → is_ended s ≡ false
  unfolding is_ended
  not-ended h =
      ne_eqb _ _ (λ lf.
      let n : at + (length s - 1 - at) ≡ length s - 1 = omega arith in
      let same = rw n at (first-same 0x0A s at (length s - 1 - at) (omega arith)) in
      let here = first-here 0x0A s (length s - 1) (omega arith) lf in
      omega arith)

  -- so a row that ends is whole, and one that does not is the last and is not
  whole_by : (more : Bool) → ltb (end + 1) (length s) ≡ more → end < length s → is_whole (is_ended s) (lines (drop (end + 1) s)) ≡ true
  unfolding is_whole is_ended
  whole_by true e h = rw (split-on 0x0A s (end + 1) (ltb-true _ _ e))
  whole_by false e h =
      let k : length s ≤ end + 1 = ltb-false _ _ e in
      let last : length s - 1 ≡ end = omega arith in
      rw (split-none 0x0A s (end + 1) k, last) (eq-eqb _ _ (ends h))

  pub whole : end < length s → is_whole (is_ended s) (lines (drop (end + 1) s)) ≡ true
  whole h = whole_by (ltb (end + 1) (length s)) refl h

  pub not-whole : end ≡ length s → is_whole (is_ended s) (lines (drop (end + 1) s)) ≡ false
  unfolding is_whole
  not-whole h =
      let k : length s ≤ end + 1 = omega arith in
      rw (split-none 0x0A s (end + 1) k) (not-ended h)

-- the rows from an offset on, of which the first is the n-th; x is the first that is malformed
abbrev pub malformed_at : List ℕ → ℕ → ℕ → ℕ
malformed_at s n at = malformed_from (is_ended s) n (lines (drop at s))

module _ (s : List ℕ) (n at : ℕ) {x : ℕ} (i : malformed_at s n at ≡ x) where
  pub shape-none : length s ≤ at → 0 ≡ x
  unfolding malformed_from
  shape-none h = rw (split-none 0x0A s at h) at i

  module _ (h : at < length s) where
    pub shape_fifth : most_triggers < n → n ≡ x
    unfolding malformed_from
    shape_fifth k = rw (split-on 0x0A s at h, lt-ltb most_triggers n k) at i

    module _ {end : ℕ} (few : n ≤ most_triggers) (e : end ≡ line_end s at) where
      pub shape_open : end ≡ length s → n ≡ x
      unfolding malformed_from
      shape_open k = rw (part-read 0x0A s at e h refl, le-ltb most_triggers n few, not-whole s at h e k) at i

      module _ (closed : end ≡ length s → ⊥) {l : List ℕ} (q : l ≡ part_of s at end) {row : Option Row} (read : row ≡ row_of l) {r : Bool} (asked : r ≡ is_well row) where
        turned : pick r (malformed_at s (n + 1) (end + 1)) n ≡ x
        unfolding malformed_from
        turned =
            let w = first-within 0x0A s at in
            rw (part-read 0x0A s at e h q, le-ltb most_triggers n few, whole s at h e (omega arith), ← read, ← asked) at i

        pub shape-bad : not r ≡ true → n ≡ x
        shape-bad k = rw (not-true r k) at turned

        pub shape_on : not r ≡ false → malformed_at s (n + 1) (end + 1) ≡ x
        shape_on k = rw (not-false r k) at turned

-- closes what is left of the loop
pub ruleset shapes = (rules, shape-none, shape_fifth, shape_open, shape-bad, shape_on)

-- rows of which none is malformed are at most four
few-from : (ended : Bool) (n : ℕ) (ls : List (List ℕ)) → n ≤ most_triggers + 1 → malformed_from ended n ls ≡ 0 → 0 < n → n + length ls ≤ most_triggers + 1
unfolding malformed_from
few-from ended n [] h e k = omega arith
few-from ended n (l ∷ ls) h e k =
    picked
    (λ (m : ℕ). m ≡ 0 → n + length (l ∷ ls) ≤ most_triggers + 1)
    (ltb most_triggers n)
    (λ over z. absurd (omega arith))
    (λ over.
    picked (λ (m : ℕ). m ≡ 0 → n + length (l ∷ ls) ≤ most_triggers + 1) (is_whole ended ls)
    (λ _.
    picked (λ (m : ℕ). m ≡ 0 → n + length (l ∷ ls) ≤ most_triggers + 1) (is_well (row_of l))
    (λ _ z.
    let b = ltb-false most_triggers n over in
    let more = few-from ended (n + 1) ls (omega arith) z (omega arith) in
    omega arith)
    (λ _ z. absurd (omega arith)))
    (λ _ z. absurd (omega arith)))
    e

pub few-rows : (s : List ℕ) {n : ℕ} → n ≡ first_malformed s → n ≡ 0 → length (lines s) ≤ most_triggers
unfolding first_malformed
few-rows s e z = let f = few-from (is_ended s) 1 (lines s) (omega arith) (sym e ∙ z) (omega arith) in omega arith
