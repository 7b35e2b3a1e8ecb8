use Rattle.std.proofs.Common.{sym, arith}
use Rattle.tokens.proofs.CursorLaws.{no_kind_lem}
use Rattle.tokens.proofs.cursor.Cursor.peek_second.Goals as goal

pub returns-then-count-i : goal.returns-then-count-i
returns-then-count-i c = sym (no_kind_lem _ _ (omega (arith, c.count.ensures)))
