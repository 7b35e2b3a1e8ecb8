use borrow.Author.Rules.{rules}
use Rattle.tokens.proofs.LexAllLaws.{both, begin, at_end_rule, full, no_token_rule, go_on}
use Rattle.tokens.proofs.lexer.lex_all.Goals as goal

pub loop-code-init : goal.loop-code-init
loop-code-init c = search (begin, rules)

pub returns-in_default : goal.returns-in_default
returns-in_default c = both (search at_end_rule)

pub returns-then-count-eq-MOST_TOKENS : goal.returns-then-count-eq-MOST_TOKENS
returns-then-count-eq-MOST_TOKENS c = both (search full)

pub returns-in-Err : goal.returns-in-Err
returns-in-Err c = both (search no_token_rule)

pub loop-code-preserved : goal.loop-code-preserved
loop-code-preserved c =
    go_on c.loop-code.invariant c.skip_trivia-q.ensures c.bump.ensures c.in-Some.is c.if-count-eq-MOST_TOKENS.false c.token_at.ensures c.in-Ok.is
    c.record_of.ensures c.put.ensures c.put.auto.words
