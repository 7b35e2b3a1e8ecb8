use mathlib.Core.Path.{◌≡◌}
use mathlib.Core.Bool.{Bool, not}
use Prim.Native.Nat.{ℕ, ◌+◌}
use lib.ListN.{take}
use Rattle.text.specs.Part.{part_of}
use Rattle.text.specs.Block.{Tells, every}
use Rattle.text.proofs.block.eight.Given as goal

-- whether a byte up to here fails; none does exactly where all pass
abbrev pub invariant-loop-b : goal.invariant-loop-b
invariant-loop-b g l =
    (p : ℕ → Bool) → Tells (goal.F-post g l.test) p → not l.fails ≡ every p (take l.b-index (part_of l.s l.at (l.at + 8)))
