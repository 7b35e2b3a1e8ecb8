use Rattle.sheet.proofs.LineLaws.{field-slice, rest-slice, comma-there, comma-none}
use Rattle.sheet.proofs.line.parted.Goals as goal

pub returns-then-at-l : goal.returns-then-at-l
returns-then-at-l c =
    let e = c.comma-at.ensures in
    record { comma = comma-there _ e c.if-at-l.true; first = field-slice _ e; behind = rest-slice _ e }

pub returns-else-at-l : goal.returns-else-at-l
returns-else-at-l c = comma-none _ c.comma-at.ensures c.if-at-l.false
