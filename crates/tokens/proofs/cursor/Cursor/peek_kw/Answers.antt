use Rattle.tokens.specs.Cursor.{tokens}
use Rattle.tokens.proofs.CursorLaws.{word_none, word_same}
use Rattle.tokens.proofs.cursor.Cursor.peek_kw.Goals as goal

pub returns-then-peek-eq-WORD : goal.returns-then-peek-eq-WORD
unfolding tokens
returns-then-peek-eq-WORD c = word_same _ _ _ c.peek.ensures c.if-peek-eq-WORD.true c.bytes.ensures c.each_same.ensures

pub returns : goal.returns
unfolding tokens
returns c = word_none _ _ _ c.peek.ensures c.if-peek-eq-WORD.false
