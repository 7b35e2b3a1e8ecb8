use Rattle.spelling.proofs.PutLaws.{fits-2, put_2}
use Rattle.spelling.proofs.NumberLaws.{seconds_made}
use Rattle.spelling.proofs.numbers.put_seconds.Goals as goal

pub put-requires : goal.put-requires
put-requires c = fits-2 (seconds_made c.args.ms c.digit.ensures c.digit-2.ensures c.digit-3.ensures) _ _ _ _ c.requires c.put_decimal-i.ensures

pub returns : goal.returns
returns c = put_2 (seconds_made c.args.ms c.digit.ensures c.digit-2.ensures c.digit-3.ensures) _ _ _ _ _ _ c.put_decimal-i.ensures c.put.ensures
