use mathlib.Core.Path.{◌≡◌}
use lib.ListN.{length}
use borrow.Author.Rules.{rules}
use Rattle.writing.proofs.PassedLaws.{array_length}
use Rattle.tergyosul.proofs.ConvertingLaws.{four-without}
use Rattle.tergyosul.proofs.lists.without_texts.Goals as goal

pub returns : goal.returns
returns c = let t = c.args.t in
    let size : length t.rows ≡ 4 = search (rules, array_length, c.before.before.before.before.before.before.before.before.well_formed) in
    four-without t _ size c.without_text.ensures c.without_text-2.ensures c.without_text-3.ensures c.without_text-4.ensures
