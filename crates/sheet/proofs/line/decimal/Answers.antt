use native.Mathlib.Omega.{arith}
use Rattle.sheet.proofs.LineLaws.{reading, numeral-none}
use Rattle.sheet.proofs.line.decimal.Goals as goal
use Rattle.sheet.proofs.line.decimal.Goals.{in_default-via-then-l-lt2+in_default-1, in_default-via-else-l-lt2+in_default-1}

pub returns-in-empty : goal.returns-in-empty
returns-in-empty c = numeral-none _ (omega arith)

pub returns-in-48 : goal.returns-in-48
returns-in-48 c = search reading

pub returns-in-48-2 : goal.returns-in-48-2
returns-in-48-2 c = search reading

pub returns-in_default : goal.returns-in_default
returns-in_default c =
    elim c.in_default.branch [
      | in_default-via-then-l-lt2+in_default-1 w ↦ search reading
      | in_default-via-else-l-lt2+in_default-1 w ↦ search reading
    ]
