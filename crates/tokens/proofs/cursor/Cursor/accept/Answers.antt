use Rattle.tokens.proofs.Chain.{chain}
use Rattle.tokens.proofs.CursorLaws.{accepted-kind}
use Rattle.tokens.proofs.cursor.Cursor.accept.Goals as goal

pub returns-then-peek_is : goal.returns-then-peek_is
returns-then-peek_is c = search accepted-kind

pub returns : goal.returns
returns c = search chain
