use mathlib.Core.Path.{◌≡◌}
use Prim.Native.Nat.{◌-◌}
use lib.ListN.{length}
use Rattle.text.specs.Utf8.{chars}
use Rattle.tokens.specs.Scan.{quoted}
use Rattle.tokens.proofs.ScanLaws.{place}
use Rattle.tokens.proofs.scan.string_end.Given as goal

-- the string from here ends as the string from the start does
abbrev pub invariant-loop-next : goal.invariant-loop-next
invariant-loop-next l = quoted (place l.at l.line l.column) (chars l.s l.at) ≡ quoted (place l.initial.at l.initial.line l.initial.column) (chars l.s l.initial.at)

abbrev pub decreases-loop-next : goal.decreases-loop-next
decreases-loop-next l = length l.s - l.at
