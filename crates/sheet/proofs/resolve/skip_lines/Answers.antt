use Prim.Native.Nat.{ℕ, ◌+◌, ◌-◌, ◌<◌, ◌≤◌}
use mathlib.Core.Path.{◌≡◌, ◌∙◌, refl, sym, ap}
use mathlib.Core.Bool.{false≢true}
use mathlib.Core.List.{List}
use native.Mathlib.Omega.{arith}
use lib.ListN.{length, take}
use lib.Seq.{length-take-le}
use borrow.Author.Rules.{rules}
use Rattle.text.proofs.FindLaws.{first-from, first-within}
use Rattle.sheet.specs.Line.{without_return}
use Rattle.sheet.specs.Sheet.{line_end}
use Rattle.sheet.proofs.SkipLaws.{passed-end, passed-more}
use Rattle.sheet.proofs.ReturnLaws.{return_length}
use Rattle.sheet.proofs.resolve.skip_lines.Goals as goal
use Rattle.sheet.proofs.resolve.skip_lines.Goals.{else-l-name-eq44-via-then-l-name-eq44+else-ends_with, else-l-name-eq44-via-else-l-name-eq44}

-- the line that ends behind the next so many bytes
module _ (s name : List ℕ) {at end : ℕ} (room : length name + 9 ≤ length s) (test : at ≤ length s - (length name + 9))
    (is : end ≡ line_end s (at + (length name + 9))) where
  -- its end is so many bytes further, in the sheet
  inside : (at + (length name + 9) ≤ end) × (end ≤ length s)
  inside = rw is (first-from _ _ _ (omega arith), first-within _ _ _)

  -- and the bytes up to it, without a CR, are more than the name's
  longer : {l : List ℕ} → l ≡ without_return (take end s) → length name < length l
  longer d = omega (arith, inside, length-take-le end s inside.1, ap length d, return_length (take end s))

pub returns-then-len-least : goal.returns-then-len-least
returns-then-len-least c =
    let a = c.args in
    let e = c.max.ensures in
    record { passed = passed-end a.name.now a.s.now a.from a.from (λ own kind scope t. refl) e (omega arith); lower_bound = omega arith }

pub loop-at-init : goal.loop-at-init
loop-at-init c = (λ own kind scope t. refl, search rules)

pub slice_bounds-without_return-end : goal.slice_bounds-without_return-end
slice_bounds-without_return-end c =
    sym (length-take-le _ _ (inside _ _ c.if-len-least.false c.loop-at-test.true c.line_end-end.ensures).1)

pub overflow_sub-l : goal.overflow_sub-l
overflow_sub-l c =
    let h = longer _ _ c.if-len-least.false c.loop-at-test.true c.line_end-end.ensures c.without_return-l.ensures in
    omega arith

pub overflow_sub-l-in-loop-at : goal.overflow_sub-l-in-loop-at
overflow_sub-l-in-loop-at c =
    let h = longer _ _ c.if-len-least.false c.loop-at-test.true c.line_end-end.ensures c.without_return-l.ensures in
    omega arith

pub bounds-l-l : goal.bounds-l-l
bounds-l-l c =
    let h = longer _ _ c.if-len-least.false c.loop-at-test.true c.line_end-end.ensures c.without_return-l.ensures in
    omega arith

pub overflow_add-at-in-loop-at : goal.overflow_add-at-in-loop-at
overflow_add-at-in-loop-at c =
    let i = inside _ _ c.if-len-least.false c.loop-at-test.true c.line_end-end.ensures in
    omega arith

pub loop-at-smaller : goal.loop-at-smaller
loop-at-smaller c =
    let i = inside _ _ c.if-len-least.false c.loop-at-test.true c.line_end-end.ensures in
    omega arith

pub loop-at-preserved : goal.loop-at-preserved
loop-at-preserved c =
    let i = inside _ _ c.if-len-least.false c.loop-at-test.true c.line_end-end.ensures in (
      passed-more _ _ _ _ c.loop-at.invariant.0 (omega arith) c.line_end-end.ensures c.without_return-l.ensures
          (λ e.
          elim c.else-l-name-eq44.branch [
            | else-l-name-eq44-via-then-l-name-eq44+else-ends_with w ↦ absurd (false≢true (sym w.if-ends_with.false ∙ w.ends_with.ensures ∙ e.1))
            | else-l-name-eq44-via-else-l-name-eq44 w ↦ w.if-l-name-eq44.false e.0
          ]),
      omega arith,
    )

pub returns : goal.returns
returns c =
    let a = c.args in
    let l = c.loop-at in
    let e = c.max-2.ensures in
    record { passed = passed-end a.name.now a.s.now a.from l.at l.invariant.0 e (omega arith); lower_bound = omega (arith, l.invariant.1) }
