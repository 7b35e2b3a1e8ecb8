use Rattle.spelling.proofs.PutLaws.{fits-1, fits-2, put_2}
use Rattle.spelling.proofs.NumberLaws.{number-made}
use Rattle.spelling.proofs.numbers.put_number.Goals as goal

pub put-i-requires : goal.put-i-requires
put-i-requires c = fits-1 (number-made c.args.n) _ _ c.requires

pub put_decimal-requires : goal.put_decimal-requires
put_decimal-requires c = fits-2 (number-made c.args.n) _ _ _ _ c.requires c.put-i.ensures

pub returns : goal.returns
returns c = put_2 (number-made c.args.n) _ _ _ _ _ _ c.put-i.ensures c.put_decimal.ensures
