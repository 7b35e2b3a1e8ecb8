use Prim.Native.Nat.{◌+◌, ◌≤◌}
use mathlib.Core.Path.{◌≡◌}
use Rattle.language.specs.Limits.{most_triggers}
use Rattle.join.specs.Join.{text_of}
use Rattle.join.specs.Kept.{Few}
use Rattle.join.proofs.KeptLaws.{Keeping}
use Rattle.join.proofs.keep_all.Given as goal

abbrev pub invariant-loop-i : goal.invariant-loop-i
invariant-loop-i l = Keeping l.first l.second l.initial.more l.from l.list l.more l.i × (l.more.count ≤ l.initial.more.count + l.i) × (l.initial.more.count ≤ most_triggers)
    × Few l.list.rows l.list.count × (text_of l.first l.second l.from ≡ l.text)
