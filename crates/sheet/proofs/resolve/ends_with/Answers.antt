use mathlib.Core.Path.{◌∙◌, refl}
use borrow.Author.Tests.{lt-leb}
use Rattle.sheet.proofs.SkipLaws.{ends-short, ends-compared}
use Rattle.sheet.proofs.resolve.ends_with.Goals as goal

pub returns-then-name-l : goal.returns-then-name-l
returns-then-name-l c = ends-compared _ _ refl c.same.ensures.value

pub returns-else-name-l : goal.returns-else-name-l
returns-else-name-l c = lt-leb _ _ c.if-name-l.false ∙ ends-short _ _ c.if-name-l.false
