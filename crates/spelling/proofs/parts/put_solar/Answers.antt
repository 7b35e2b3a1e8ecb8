use mir.Facts.{to_z-of_z}
use Rattle.spelling.proofs.PutLaws.{fits-1, fits-2, put_2}
use Rattle.spelling.proofs.PartLaws.{solar-held}
use Rattle.spelling.proofs.parts.put_solar.Goals as goal

pub put_solar_event-i-requires : goal.put_solar_event-i-requires
put_solar_event-i-requires c = fits-1 (solar-held c.args.event c.args.offset (to_z-of_z c.ranges.offset)) _ _ c.requires

pub put_offset-requires : goal.put_offset-requires
put_offset-requires c = fits-2 (solar-held c.args.event c.args.offset (to_z-of_z c.ranges.offset)) _ _ _ _ c.requires c.put_solar_event-i.ensures

pub returns : goal.returns
returns c = put_2 (solar-held c.args.event c.args.offset (to_z-of_z c.ranges.offset)) _ _ _ _ _ _ c.put_solar_event-i.ensures c.put_offset.ensures
