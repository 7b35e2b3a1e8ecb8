use borrow.Author.Rules.{rules}
use Rattle.spelling.proofs.PutLaws.{fits-1, put_1}
use Rattle.spelling.proofs.NumberLaws.{time-made}
use Rattle.spelling.proofs.numbers.put_time.Goals as goal

pub put-requires : goal.put-requires
put-requires c = let made =
    time-made c.args.m c.digit.ensures
    c.digit-2.ensures c.digit-3.ensures c.digit-4.ensures in
    search (rules, fits-1 made)

pub returns : goal.returns
returns c = let made =
    time-made c.args.m c.digit.ensures
    c.digit-2.ensures c.digit-3.ensures c.digit-4.ensures in
    search (rules, put_1 made)
