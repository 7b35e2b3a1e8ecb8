use mathlib.Core.Path.{◌≡◌}
use Prim.Native.Nat.{◌-◌, ◌≤◌}
use lib.ListN.{length}
use Rattle.text.specs.Utf8.{chars}
use Rattle.tokens.specs.Scan.{digits}
use Rattle.tokens.proofs.ScanLaws.{place}
use Rattle.tokens.proofs.scan.digit_run.Given as goal

-- the digits from here, behind those that write value, end as the digits from the start do; value is small enough for one digit more
abbrev pub invariant-loop-line : goal.invariant-loop-line
invariant-loop-line l = (l.value ≤ 1000000000) × (digits l.value (place l.at l.line l.column) (chars l.s l.at) ≡ digits 0 (place l.initial.at l.line l.initial.column) (chars l.s l.initial.at))

abbrev pub decreases-loop-line : goal.decreases-loop-line
decreases-loop-line l = length l.s - l.at
