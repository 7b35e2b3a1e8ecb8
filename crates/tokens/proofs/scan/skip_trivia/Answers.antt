use mathlib.Core.Path.{refl}
use borrow.Author.Rules.{rules}
use Rattle.tokens.proofs.ScanLaws.{place-less, same-fits, same-less, trivia-comment, trivia-white, trivia-token, trivia-none, scans}
use Rattle.tokens.proofs.scan.skip_trivia.Goals as goal

pub loop-at-init : goal.loop-at-init
loop-at-init c = refl

pub returns-then-is_token_start : goal.returns-then-is_token_start
returns-then-is_token_start c = search scans

pub overflow_add-at : goal.overflow_add-at
overflow_add-at c = search (rules, same-fits)

pub loop-at-smaller-then-b-eq32 : goal.loop-at-smaller-then-b-eq32
loop-at-smaller-then-b-eq32 c = search (rules, same-less)

pub loop-at-preserved-then-b-eq32 : goal.loop-at-preserved-then-b-eq32
loop-at-preserved-then-b-eq32 c = search scans

pub overflow_add-at-then-b-eq35 : goal.overflow_add-at-then-b-eq35
overflow_add-at-then-b-eq35 c = search (rules, same-fits)

pub loop-at-smaller-then-b-eq35 : goal.loop-at-smaller-then-b-eq35
loop-at-smaller-then-b-eq35 c = search (rules, same-less)

pub loop-at-preserved-then-b-eq35 : goal.loop-at-preserved-then-b-eq35
loop-at-preserved-then-b-eq35 c = search (rules, trivia-comment)

pub returns-then-not-is_white : goal.returns-then-not-is_white
returns-then-not-is_white c = search (rules, trivia-token)

pub loop-at-smaller : goal.loop-at-smaller
loop-at-smaller c = search (rules, place-less)

pub loop-at-preserved : goal.loop-at-preserved
loop-at-preserved c = search (rules, trivia-white)

pub returns-in-None : goal.returns-in-None
returns-in-None c = search (rules, trivia-none)
