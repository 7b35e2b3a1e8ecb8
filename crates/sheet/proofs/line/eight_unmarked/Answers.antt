use mathlib.Core.Path.{◌≡◌, refl}
use mathlib.Core.Bool.{Bool, true, false, not, ◌||◌}
use Prim.Native.Nat.{ℕ}
use lib.Dec.{eqb}
use borrow.Author.Rules.{rules}
use Rattle.text.specs.Choice.{pick}
use Rattle.text.proofs.BlockLaws.{eight, block-past}
use Rattle.sheet.specs.Line.{is_mark}
use Rattle.sheet.proofs.line.eight_unmarked.Goals as goal

-- the code's test of a byte
abbrev other : ℕ → Bool
other b = eqb b 0x22 || eqb b 0x0D

neither : (t u : Bool) → not (t || u) ≡ not (pick t true u)
neither true u = refl
neither false u = refl

opposite : (b : ℕ) → not (other b) ≡ not (is_mark b)
unfolding is_mark
opposite b = neither (eqb b 0x22) (eqb b 0x0D)

pub returns-then-len-lt8 : goal.returns-then-len-lt8
returns-then-len-lt8 c = block-past _ _ _ (search rules)

pub returns : goal.returns
returns c = eight (λ (c : ℕ). not (is_mark c)) other opposite _ _ (search rules)
