use borrow.Author.Rules.{rules}
use Rattle.sheet.proofs.PlainLaws.{end, mark, past}
use Rattle.sheet.proofs.line.each_plain.Goals as goal

pub returns-then-is_mark : goal.returns-then-is_mark
returns-then-is_mark c = search (rules, mark)

pub loop-c-preserved : goal.loop-c-preserved
loop-c-preserved c = search (rules, past)

pub returns : goal.returns
returns c = search (rules, end)
