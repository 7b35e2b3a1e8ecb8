use Rattle.spelling.proofs.PutLaws.{fits-1, fits-2, fits-3, put_2, put_3}
use Rattle.spelling.proofs.NumberLaws.{duration-made, long-made, short-made}
use Rattle.spelling.proofs.numbers.put_duration.Goals as goal

pub put-i-requires : goal.put-i-requires
put-i-requires c = fits-1 (duration-made c.args.ms) _ _ c.requires

pub put_seconds-requires : goal.put_seconds-requires
put_seconds-requires c = fits-2 (long-made c.args.ms c.if-ms-gt-MOST_MS.true) _ _ _ _ c.requires c.put-i.ensures

pub returns-then-ms-gt-MOST_MS : goal.returns-then-ms-gt-MOST_MS
returns-then-ms-gt-MOST_MS c = put_2 (long-made c.args.ms c.if-ms-gt-MOST_MS.true) _ _ _ _ _ _ c.put-i.ensures c.put_seconds.ensures

pub put_decimal-j-requires : goal.put_decimal-j-requires
put_decimal-j-requires c = fits-2 (short-made c.args.ms c.if-ms-gt-MOST_MS.false) _ _ _ _ c.requires c.put-i.ensures

pub put-requires : goal.put-requires
put-requires c = fits-3 (short-made c.args.ms c.if-ms-gt-MOST_MS.false) _ _ _ _ _ _ c.requires c.put-i.ensures c.put_decimal-j.ensures

pub returns : goal.returns
returns c = put_3 (short-made c.args.ms c.if-ms-gt-MOST_MS.false) _ _ _ _ _ _ _ _ c.put-i.ensures c.put_decimal-j.ensures c.put.ensures
