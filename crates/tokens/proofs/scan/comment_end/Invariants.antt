use mathlib.Core.Path.{◌≡◌}
use Prim.Native.Nat.{◌-◌, ◌≤◌}
use lib.ListN.{length}
use Rattle.text.specs.Utf8.{chars}
use Rattle.tokens.specs.Scan.{trivia}
use Rattle.tokens.proofs.scan.comment_end.Given as goal

-- the comment ends from here where it does from the start
abbrev pub invariant-loop-q : goal.invariant-loop-q
invariant-loop-q l = (l.initial.p.at ≤ l.p.at) × (trivia 1 l.p (chars l.s l.p.at) ≡ trivia 1 l.initial.p (chars l.s l.initial.p.at))

abbrev pub decreases-loop-q : goal.decreases-loop-q
decreases-loop-q l = length l.s - l.p.at
