use mathlib.Core.Path.{◌≡◌}
use mathlib.Core.List.{List}
use Prim.Native.Nat.{ℕ}
use borrow.Author.Rules.{rules}
use mir.Val.{Fits}
use mir.Syntax.{w8}
use Rattle.topics.specs.Topics.{lent_topics}
use Rattle.language.specs.Read.{read_of}
use Rattle.reader.proofs.ReadLaws.{alone-answer, alone-buffer, promised}
use Rattle.reader.proofs.read.read_by.Goals as goal

pub returns : goal.returns
returns c =
    let lent : List (List ℕ) = lent_topics c.args.lent.now in
    let byte : Fits w8 c.args.call.primary = search (rules, c.well_formed) in
    let answer : c.read_after.result ≡ (read_of c.args.call c.args.text.now c.args.sheet.now (lent_topics c.args.lent.now) c.args.words.now).answer =
    search (rules, alone-answer) in
    let buffer : c.read_after.new.words ≡ (read_of c.args.call c.args.text.now c.args.sheet.now (lent_topics c.args.lent.now) c.args.words.now).buffer =
    search (rules, alone-buffer) in
    let all = promised c.args.call byte c.args.text.now c.args.sheet.now lent c.args.words.now answer buffer in
    record { value = all.0; buffer = all.1.0; reading = all.1.1 }
