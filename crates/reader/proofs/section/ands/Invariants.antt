use Prim.Native.Nat.{◌-◌}
use Rattle.tokens.specs.Cursor.{tokens}
use Rattle.tokens.specs.Record.{capacity}
use Rattle.sheet.specs.View.{view_of}
use Rattle.language.specs.Range.{range_of}
use Rattle.reader.proofs.SectionLaws.{AndLoop}
use Rattle.reader.proofs.section.ands.Given as goal

abbrev pub invariant-loop-next : goal.invariant-loop-next
invariant-loop-next l =
    let words = l.t.words.now in
    AndLoop (tokens l.t.text.now words) (view_of l.view.settings l.view.sheet.now) (range_of words) (capacity words) l.initial.list l.initial.p.index l.list
    l.p.index

abbrev pub decreases-loop-next : goal.decreases-loop-next
decreases-loop-next l = 4 - l.list.count
