use mathlib.Core.Path.{◌≡◌}
use Prim.Native.Nat.{◌-◌}
use lib.ListN.{length}
use Rattle.text.specs.Utf8.{chars}
use Rattle.tokens.specs.Scan.{trivia}
use Rattle.tokens.proofs.ScanLaws.{place}
use Rattle.tokens.proofs.scan.skip_trivia.Given as goal

-- white space and comments end, from here, where they do from the start
abbrev pub invariant-loop-at : goal.invariant-loop-at
invariant-loop-at l = trivia 0 (place l.at l.line l.column) (chars l.s l.at) ≡ trivia 0 (place l.initial.at l.initial.line l.initial.column) (chars l.s l.initial.at)

abbrev pub decreases-loop-at : goal.decreases-loop-at
decreases-loop-at l = length l.s - l.at
