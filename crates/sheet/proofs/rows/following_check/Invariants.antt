use mathlib.Core.Path.{◌≡◌}
use Prim.Native.Nat.{◌-◌}
use lib.ListN.{length, drop}
use Rattle.sheet.specs.Sheet.{lines}
use Rattle.sheet.specs.Survey.{survey_from}
use Rattle.sheet.proofs.rows.following_check.Given as goal

-- the lines from here, of which the first has the number n, are judged as all of them are
abbrev pub invariant-loop-at : goal.invariant-loop-at
invariant-loop-at l = survey_from l.party l.n l.said (lines (drop l.at l.s)) ≡ survey_from l.party 2 l.initial.said (lines (drop l.from l.s))

abbrev pub decreases-loop-at : goal.decreases-loop-at
decreases-loop-at l = length l.s - l.at
