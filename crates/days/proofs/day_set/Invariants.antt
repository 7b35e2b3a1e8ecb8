use Rattle.std.proofs.Common.{◌-◌}
use Rattle.tokens.specs.Cursor.{tokens}
use Rattle.tokens.specs.Record.{capacity}
use Rattle.days.specs.Read.{day_set}
use Rattle.days.proofs.SetLaws.{Going}
use Rattle.days.proofs.day_set.Given as goal

abbrev pub invariant-loop : goal.invariant-loop
invariant-loop l =
    let t = tokens l.t.text.now l.t.words.now in
    Going t (day_set t (capacity l.t.words.now) l.initial.p.index) (l.end - l.counter) l.days l.p.index
