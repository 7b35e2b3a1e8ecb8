use Rattle.tokens.specs.Cursor.{take_kind}
use Rattle.tokens.proofs.Chain.{chain}
use Rattle.tokens.proofs.CursorLaws.{taken-kind}
use Rattle.tokens.proofs.cursor.Cursor.expect.Goals as goal

pub returns-then-peek_is : goal.returns-then-peek_is
returns-then-peek_is c = search taken-kind

pub returns : goal.returns
unfolding take_kind
returns c = search chain depth 8
