use Rattle.tokens.proofs.CursorLaws.{kind-advanced}
use Rattle.token_reader.proofs.second_kind.Goals as goal

pub returns : goal.returns
returns c = rw (c.peek.ensures, c.advance.ensures.1, c.advance.ensures.0, c.new.ensures.1, c.new.ensures.0) (kind-advanced _ 0)
