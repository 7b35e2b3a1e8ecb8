use mathlib.Core.Path.{refl}
use Rattle.tokens.proofs.ScanLaws.{scans}
use Rattle.tokens.proofs.scan.letters_end.Goals as goal

pub loop-line-init : goal.loop-line-init
loop-line-init c = refl

pub returns-then-not-is_alpha : goal.returns-then-not-is_alpha
returns-then-not-is_alpha c = search scans

pub overflow_add-at : goal.overflow_add-at
overflow_add-at c = search scans

pub loop-line-smaller : goal.loop-line-smaller
loop-line-smaller c = search scans

pub loop-line-preserved : goal.loop-line-preserved
loop-line-preserved c = search scans
