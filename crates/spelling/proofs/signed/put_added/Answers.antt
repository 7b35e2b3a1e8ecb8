use mir.Facts.{to_z-of_z}
use Rattle.spelling.proofs.PutLaws.{fits-1, fits-2, put_2}
use Rattle.spelling.proofs.SignedLaws.{is-minus, is-plus, added-minus, added-plus}
use Rattle.spelling.proofs.signed.put_added.Goals as goal

pub put-i-requires : goal.put-i-requires
put-i-requires c = fits-1 (added-minus (is-minus (to_z-of_z c.ranges.z) (to_z-of_z c.ranges.z) c.if-z-lt0.true c.unsigned_abs-more.ensures.value)) _ _ c.requires

pub put_number-requires : goal.put_number-requires
put_number-requires c = fits-2 (added-minus (is-minus (to_z-of_z c.ranges.z) (to_z-of_z c.ranges.z) c.if-z-lt0.true c.unsigned_abs-more.ensures.value)) _ _ _ _ c.requires c.put-i.ensures

pub returns-then-z-lt0 : goal.returns-then-z-lt0
returns-then-z-lt0 c = put_2 (added-minus (is-minus (to_z-of_z c.ranges.z) (to_z-of_z c.ranges.z) c.if-z-lt0.true c.unsigned_abs-more.ensures.value)) _ _ _ _ _ _ c.put-i.ensures c.put_number.ensures

pub put-i-requires-2 : goal.put-i-requires-2
put-i-requires-2 c = fits-1 (added-plus (is-plus (to_z-of_z c.ranges.z) (to_z-of_z c.ranges.z) c.if-z-lt0.false c.unsigned_abs-more.ensures.value)) _ _ c.requires

pub put_number-requires-2 : goal.put_number-requires-2
put_number-requires-2 c = fits-2 (added-plus (is-plus (to_z-of_z c.ranges.z) (to_z-of_z c.ranges.z) c.if-z-lt0.false c.unsigned_abs-more.ensures.value)) _ _ _ _ c.requires c.put-i-2.ensures

pub returns : goal.returns
returns c = put_2 (added-plus (is-plus (to_z-of_z c.ranges.z) (to_z-of_z c.ranges.z) c.if-z-lt0.false c.unsigned_abs-more.ensures.value)) _ _ _ _ _ _ c.put-i-2.ensures c.put_number-2.ensures
