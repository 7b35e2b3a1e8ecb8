use Rattle.std.proofs.Common.{rules}
use Rattle.tokens.proofs.RecordLaws.{line-fits, place_fits}
use Rattle.tokens.proofs.record.place_word.Goals as goal

pub overflow_mul-result : goal.overflow_mul-result
overflow_mul-result c = search (rules, line-fits)

pub overflow_add-result : goal.overflow_add-result
overflow_add-result c = search (rules, place_fits)
