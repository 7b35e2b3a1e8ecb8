use mathlib.Core.Path.{◌≡◌}
use Prim.Native.Nat.{◌-◌}
use lib.ListN.{length}
use Rattle.text.specs.Utf8.{chars}
use Rattle.text.specs.Ascii.{is_alpha}
use Rattle.tokens.specs.Scan.{passed}
use Rattle.tokens.proofs.ScanLaws.{place}
use Rattle.tokens.proofs.scan.letters_end.Given as goal

-- the letters from here end where the letters from the start do
abbrev pub invariant-loop-line : goal.invariant-loop-line
invariant-loop-line l = passed is_alpha (place l.at l.line l.column) (chars l.s l.at) ≡ passed is_alpha (place l.initial.at l.line l.initial.column) (chars l.s l.initial.at)

abbrev pub decreases-loop-line : goal.decreases-loop-line
decreases-loop-line l = length l.s - l.at
