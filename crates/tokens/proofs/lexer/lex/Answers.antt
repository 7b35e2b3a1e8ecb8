use Rattle.tokens.specs.Lex.{answer_by, words_by, lex_answer, lex_words}
use Rattle.tokens.proofs.LexLaws.{asked}
use Rattle.tokens.proofs.HoldsLaws.{with_holds}
use Rattle.tokens.proofs.lexer.lex.Goals as goal

pub returns-then-s-gt-MOST_BYTES : goal.returns-then-s-gt-MOST_BYTES
unfolding answer_by words_by lex_answer lex_words
returns-then-s-gt-MOST_BYTES c = let both = with_holds _ _ (search asked) in record { value = both.0; buffer = both.1 }

pub returns-then-words-lt-LEAST_WORDS : goal.returns-then-words-lt-LEAST_WORDS
unfolding answer_by words_by lex_answer lex_words
returns-then-words-lt-LEAST_WORDS c = let both = with_holds _ _ (search asked) in record { value = both.0; buffer = both.1 }

pub returns-in-Err : goal.returns-in-Err
unfolding answer_by words_by lex_answer lex_words
returns-in-Err c = let both = with_holds _ _ (search asked) in record { value = both.0; buffer = both.1 }

pub returns-in-Ok : goal.returns-in-Ok
unfolding answer_by words_by lex_answer lex_words
returns-in-Ok c = let both = with_holds _ _ (search asked) in record { value = both.0; buffer = both.1 }
