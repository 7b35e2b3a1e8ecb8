use Prim.Native.Nat.{ℕ, ◌-◌, ◌≤◌}
use mathlib.Core.Path.{◌≡◌, refl}
use mathlib.Core.List.{List, [], ◌∷◌}
use native.Mathlib.Omega.{arith}
use lib.ListN.{length, drop, get_or, take}
use Rattle.std.proofs.lemmas.List.{take_all}
use borrow.Author.Rules.{rules}
use Rattle.topics.specs.Ranges.{no_ranges, with_name, ranges_from, ranges_of}
use Rattle.topics.specs.declared.ranges.Ranges.{Ranges}
use Rattle.topics.proofs.ranges.ranges_of.Goals as goal

begin : (words : List ℕ) {ranges : Ranges} → ranges ≡ no_ranges → ranges_from ranges words ≡ ranges_of words
unfolding ranges_of
begin words e = rw e

-- a start and its length are taken off
on : (ranges : Ranges) {more : Ranges} (words rest : List ℕ) → ranges_from ranges rest ≡ ranges_of words → 2 ≤ length rest →
    more ≡ with_name ranges (record { start = get_or rest 0 0; length = get_or rest 1 0 }) →
    ranges_from more (take (length rest - 2) (drop 2 rest)) ≡ ranges_of words
unfolding ranges_from
on ranges words [] g h e = absurd (omega arith)
on ranges words (start ∷ []) g h e = absurd (omega arith)
on ranges words (start ∷ size ∷ rest) g h e =
    let all : take (length (start ∷ size ∷ rest) - 2) (drop 2 (start ∷ size ∷ rest)) ≡ rest = take_all (length (start ∷ size ∷ rest) - 2) rest (omega arith) in
    rw (e, all) g

-- what is left adds nothing
left : (ranges : Ranges) (rest : List ℕ) → (2 ≤ length rest → ⊥) → ranges ≡ ranges_from ranges rest
unfolding ranges_from
left ranges [] h = refl
left ranges (start ∷ []) h = refl
left ranges (start ∷ size ∷ rest) h = absurd (h (omega arith))

pub loop-rest-init : goal.loop-rest-init
loop-rest-init c = search (rules, begin)

pub loop-rest-preserved : goal.loop-rest-preserved
loop-rest-preserved c = search (rules, on)

pub returns : goal.returns
returns c = search (rules, left)
