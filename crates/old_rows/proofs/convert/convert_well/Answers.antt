use borrow.Author.Rules.{rules}
use Rattle.old_rows.proofs.ConvertLaws.{calling}
use Rattle.old_rows.proofs.ShapeLaws.{few-rows}
use Rattle.old_rows.proofs.convert.convert_well.Goals as goal

pub returns-then-is_empty : goal.returns-then-is_empty
returns-then-is_empty c = search calling

pub convert_rows-requires : goal.convert_rows-requires
convert_rows-requires c = search (rules, few-rows)

pub returns-then-n-eq0 : goal.returns-then-n-eq0
returns-then-n-eq0 c = search calling

pub returns : goal.returns
returns c = search calling
