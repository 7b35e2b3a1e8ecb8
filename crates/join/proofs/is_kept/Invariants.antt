use Prim.Native.Nat.{◌≤◌}
use Rattle.join.specs.Kept.{most_kept}
use Rattle.join.proofs.KeptLaws.{Left}
use Rattle.join.proofs.is_kept.Given as goal

abbrev pub invariant-loop-i : goal.invariant-loop-i
invariant-loop-i l = Left l.first l.second l.text l.x l.kept l.i × (l.kept.count ≤ most_kept)
