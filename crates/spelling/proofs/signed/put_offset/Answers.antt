use mir.Facts.{to_z-of_z}
use Rattle.spelling.proofs.PutLaws.{put-none, fits-1, fits-2, put_2}
use Rattle.spelling.proofs.SignedLaws.{is-minus, is-plus, offset-minus, offset-plus, no-offset}
use Rattle.spelling.proofs.signed.put_offset.Goals as goal

pub returns-then-ms-eq0 : goal.returns-then-ms-eq0
returns-then-ms-eq0 c = rw (no-offset (to_z-of_z c.ranges.offset) c.unsigned_abs-ms.ensures.value c.if-ms-eq0.true) put-none

pub put-i-requires : goal.put-i-requires
put-i-requires c = fits-1 (offset-minus (is-minus (to_z-of_z c.ranges.offset) (to_z-of_z c.ranges.offset) c.if-offset-lt0.true c.unsigned_abs-ms.ensures.value)) _ _ c.requires

pub put_duration-requires : goal.put_duration-requires
put_duration-requires c = fits-2 (offset-minus (is-minus (to_z-of_z c.ranges.offset) (to_z-of_z c.ranges.offset) c.if-offset-lt0.true c.unsigned_abs-ms.ensures.value)) _ _ _ _ c.requires c.put-i.ensures

pub returns-then-offset-lt0 : goal.returns-then-offset-lt0
returns-then-offset-lt0 c = put_2 (offset-minus (is-minus (to_z-of_z c.ranges.offset) (to_z-of_z c.ranges.offset) c.if-offset-lt0.true c.unsigned_abs-ms.ensures.value)) _ _ _ _ _ _ c.put-i.ensures c.put_duration.ensures

pub put-i-requires-2 : goal.put-i-requires-2
put-i-requires-2 c = fits-1 (offset-plus (is-plus (to_z-of_z c.ranges.offset) (to_z-of_z c.ranges.offset) c.if-offset-lt0.false c.unsigned_abs-ms.ensures.value) c.if-ms-eq0.false) _ _ c.requires

pub put_duration-requires-2 : goal.put_duration-requires-2
put_duration-requires-2 c = fits-2 (offset-plus (is-plus (to_z-of_z c.ranges.offset) (to_z-of_z c.ranges.offset) c.if-offset-lt0.false c.unsigned_abs-ms.ensures.value) c.if-ms-eq0.false) _ _ _ _ c.requires c.put-i-2.ensures

pub returns : goal.returns
returns c = put_2 (offset-plus (is-plus (to_z-of_z c.ranges.offset) (to_z-of_z c.ranges.offset) c.if-offset-lt0.false c.unsigned_abs-ms.ensures.value) c.if-ms-eq0.false) _ _ _ _ _ _ c.put-i-2.ensures c.put_duration-2.ensures
