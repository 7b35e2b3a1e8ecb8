use mathlib.Core.Path.{◌≡◌}
use lib.ListN.{drop}
use Rattle.sheet.specs.Line.{plain}
use Rattle.sheet.proofs.line.each_plain.Given as goal

-- the bytes from here on are plain as those from the start are
abbrev pub invariant-loop-c : goal.invariant-loop-c
invariant-loop-c l = plain (drop l.c-index l.l) ≡ plain l.l
