use mathlib.Core.Path.{◌≡◌}
use Prim.Native.Nat.{◌+◌, ◌-◌, ◌≤◌}
use lib.ListN.{length}
use Rattle.text.specs.Utf8.{chars}
use Rattle.text.specs.Place.{counted}
use Rattle.text.specs.Ascii.{is_word_part}
use Rattle.tokens.specs.Scan.{passed}
use Rattle.tokens.proofs.ScanLaws.{place}
use Rattle.tokens.proofs.scan.word_end.Given as goal

-- the word from here, where so many bytes have been passed, ends where the word from the start does
abbrev pub invariant-loop-start : goal.invariant-loop-start
invariant-loop-start l = (l.start ≤ l.at)
    × (passed is_word_part (place l.at l.line (counted (l.column + (l.at - l.start)))) (chars l.s l.at) ≡ passed is_word_part (place l.start l.line l.column) (chars l.s l.start))

abbrev pub decreases-loop-start : goal.decreases-loop-start
decreases-loop-start l = length l.s - l.at
