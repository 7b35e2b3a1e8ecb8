use mathlib.Core.Path.{◌≡◌}
use Prim.Native.Nat.{◌-◌}
use lib.ListN.{length, drop}
use Rattle.sheet.specs.Line.{plain}
use Rattle.sheet.proofs.line.blocks_plain.Given as goal

-- the bytes from here on are plain as those from the start are
abbrev pub invariant-loop-at : goal.invariant-loop-at
invariant-loop-at l = plain (drop l.at l.l) ≡ plain l.l

abbrev pub decreases-loop-at : goal.decreases-loop-at
decreases-loop-at l = length l.l - l.at
