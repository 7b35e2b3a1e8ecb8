use Prim.Native.Nat.{◌-◌}
use Rattle.tokens.specs.Cursor.{tokens}
use Rattle.tokens.specs.Record.{capacity}
use Rattle.sheet.specs.View.{view_of}
use Rattle.topics.specs.Ranges.{lent_with}
use Rattle.language.specs.Range.{range_of}
use Rattle.reader.proofs.SectionLaws.{WhensLoop, whole_of}
use Rattle.reader.proofs.section.whens.Given as goal

abbrev pub invariant-loop-next : goal.invariant-loop-next
invariant-loop-next l =
    let text = l.t.text.now in
    let words = l.t.words.now in
    let t = tokens text words in
    let view = view_of l.view.settings l.view.sheet.now in
    let topics = lent_with l.lent.lines.now l.lent.first.now l.lent.earlier.now in
    WhensLoop text t view (range_of words) topics (capacity words) (whole_of text t view (range_of words) topics (capacity words) l.initial.p.index)
    l.list l.named l.p.index

abbrev pub decreases-loop-next : goal.decreases-loop-next
decreases-loop-next l = 4 - l.list.count
