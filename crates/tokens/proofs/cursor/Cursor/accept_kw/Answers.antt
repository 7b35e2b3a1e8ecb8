use Rattle.tokens.proofs.Chain.{chain}
use Rattle.tokens.proofs.CursorLaws.{accepted-word}
use Rattle.tokens.proofs.cursor.Cursor.accept_kw.Goals as goal

pub returns-then-peek_kw : goal.returns-then-peek_kw
returns-then-peek_kw c = search accepted-word

pub returns : goal.returns
returns c = search chain
