use Rattle.std.proofs.Common.{rules}
use Rattle.reader.proofs.ReadLaws.{long-answer, long-buffer, small-answer, small-buffer, asked-answer, asked-buffer, promised}
use Rattle.reader.proofs.read.read_after.Goals as goal

pub returns-then-text-gt-MOST_BYTES : goal.returns-then-text-gt-MOST_BYTES
returns-then-text-gt-MOST_BYTES c =
    let all = promised c.args.call (search (rules, c.well_formed)) c.args.text.now c.args.sheet.now _ c.args.words.now (search long-answer) (search long-buffer) in
    record { value = all.0; buffer = all.1.0; reading = all.1.1 }

pub returns-then-words-lt-LEAST_WORDS : goal.returns-then-words-lt-LEAST_WORDS
returns-then-words-lt-LEAST_WORDS c =
    let all = promised c.args.call (search (rules, c.well_formed)) c.args.text.now c.args.sheet.now _ c.args.words.now (search small-answer) (search small-buffer) in
    record { value = all.0; buffer = all.1.0; reading = all.1.1 }

pub returns : goal.returns
returns c =
    let all = promised c.args.call (search (rules, c.well_formed)) c.args.text.now c.args.sheet.now _ c.args.words.now (search asked-answer) (search asked-buffer) in
    record { value = all.0; buffer = all.1.0; reading = all.1.1 }
