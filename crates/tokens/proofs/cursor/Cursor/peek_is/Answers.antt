use Rattle.tokens.specs.Cursor.{tokens}
use Rattle.tokens.proofs.CursorLaws.{kind-none, kind-some}
use Rattle.tokens.proofs.cursor.Cursor.peek_is.Goals as goal

pub returns-then-here-ne0 : goal.returns-then-here-ne0
unfolding tokens
returns-then-here-ne0 c = kind-some _ _ _ c.peek-here.ensures c.if-here-ne0.true

pub returns-else-here-ne0 : goal.returns-else-here-ne0
unfolding tokens
returns-else-here-ne0 c = rw c.if-here-ne0.false (kind-none _ _ _ c.peek-here.ensures c.if-here-ne0.false)
