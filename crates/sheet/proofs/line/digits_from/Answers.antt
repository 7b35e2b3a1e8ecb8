use Rattle.sheet.proofs.LineLaws.{reading}
use Rattle.sheet.proofs.line.digits_from.Goals as goal

pub returns-then-not-is_digit : goal.returns-then-not-is_digit
returns-then-not-is_digit c = search reading

pub overflow_sub-c : goal.overflow_sub-c
overflow_sub-c c = search reading

pub returns-then-value-gt999 : goal.returns-then-value-gt999
returns-then-value-gt999 c = search reading

pub loop-c-preserved : goal.loop-c-preserved
loop-c-preserved c = search reading

pub returns : goal.returns
returns c = search reading
