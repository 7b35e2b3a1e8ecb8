use Rattle.spelling.proofs.PutLaws.{fits-1, fits-2, put_2}
use Rattle.writer.proofs.MadeLaws.{mqtt_message-made}
use Rattle.writer.proofs.triggers.mqtt_message.Goals as goal

pub put-i-requires : goal.put-i-requires
put-i-requires c = let a = c.args in fits-1 (mqtt_message-made a.text.now a.name) _ _ c.requires

pub put_string-requires : goal.put_string-requires
put_string-requires c = let a = c.args in fits-2 (mqtt_message-made a.text.now a.name) _ _ _ _ c.requires c.put-i.ensures

pub returns : goal.returns
returns c = let a = c.args in put_2 (mqtt_message-made a.text.now a.name) _ _ _ _ _ _ c.put-i.ensures c.put_string.ensures
