use Rattle.std.proofs.Common.{sym, ap, arith}
use Rattle.tokens.specs.Cursor.{at}
use Rattle.tokens.proofs.CursorLaws.{stays, grows}
use Rattle.tokens.proofs.cursor.Cursor.advance.Goals as goal

pub returns-then-count-i : goal.returns-then-count-i
returns-then-count-i c = ap at (sym (stays _ _ (omega (arith, c.count.ensures))))

pub returns : goal.returns
returns c = ap at (sym (grows _ _ (omega (arith, c.count.ensures))))
