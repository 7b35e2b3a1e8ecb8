use borrow.Author.Rules.{rules}
use Rattle.tokens.proofs.ScanLaws.{counted-later, words-printed, passed-begin, passed-last, passed_on, scans}
use Rattle.tokens.proofs.scan.word_end.Goals as goal

pub loop-start-init : goal.loop-start-init
loop-start-init c = (search rules, passed-begin _ _ _ _ _ (search rules))

pub returns-then-not-is_word_part : goal.returns-then-not-is_word_part
returns-then-not-is_word_part c = search (rules, words-printed, passed-last)

pub overflow_add-at : goal.overflow_add-at
overflow_add-at c = search scans

pub loop-start-smaller : goal.loop-start-smaller
loop-start-smaller c = search scans

pub loop-start-preserved : goal.loop-start-preserved
loop-start-preserved c = (search rules, search (rules, words-printed, passed_on, counted-later))
