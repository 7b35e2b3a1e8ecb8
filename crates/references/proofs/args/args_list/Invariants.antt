use Rattle.std.proofs.Common.{◌-◌}
use Rattle.tokens.specs.Cursor.{tokens}
use Rattle.tokens.specs.Record.{capacity}
use Rattle.sheet.specs.View.{view_of}
use Rattle.references.specs.Args.{args_from, no_args}
use Rattle.references.proofs.ArgLaws.{Going}
use Rattle.references.proofs.args.args_list.Given as goal

abbrev pub invariant-loop : goal.invariant-loop
invariant-loop l =
    let t = tokens l.t.text.now l.t.words.now in
    let view = view_of l.view.settings l.view.sheet.now in
    Going t view (args_from t view (capacity l.t.words.now) no_args 0 l.initial.p.index) (l.end - l.counter) l.args l.count l.p.index
