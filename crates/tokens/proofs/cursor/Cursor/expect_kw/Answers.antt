use Rattle.tokens.specs.Cursor.{take_word}
use Rattle.tokens.proofs.Chain.{chain}
use Rattle.tokens.proofs.CursorLaws.{taken_word}
use Rattle.tokens.proofs.cursor.Cursor.expect_kw.Goals as goal

pub returns-then-peek_kw : goal.returns-then-peek_kw
returns-then-peek_kw c = search taken_word

pub returns : goal.returns
unfolding take_word
returns c = search chain depth 8
