use borrow.Author.Rules.{rules}
use Rattle.model.specs.Lists.{padded}
use Rattle.flat.specs.Flat.{condition_words, row_words, whole_row}
use Rattle.flat.proofs.RowLaws.{value_read}
use Rattle.flat.proofs.conditions.light_row.Goals as goal

pub returns : goal.returns
unfolding condition_words whole_row row_words padded
returns c = let known = value_read c.args.v c.value.result c.value.ensures (search rules) in search rules
