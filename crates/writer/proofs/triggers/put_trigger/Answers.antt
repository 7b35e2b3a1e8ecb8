use mathlib.Core.Path.{refl}
use mir.Syntax.{w32}
use mir.Facts.{to_z-of_z}
use borrow.Author.Rules.{rules}
use Rattle.text.specs.Literal.{ascii}
use Rattle.text.specs.Split.{split}
use Rattle.topics.specs.Ranges.{name_in}
use Rattle.writing.specs.Pieces.{spelled, words, further}
use Rattle.writing.specs.Write.{trigger_pieces}
use Rattle.spelling.proofs.PutLaws.{fits-1, put_1}
use Rattle.spelling.proofs.FormLaws.{of_form}
use Rattle.spelling.proofs.PartLaws.{named-bytes}
use Rattle.writer.proofs.MadeLaws.{trigger-held}
use Rattle.writer.proofs.triggers.put_trigger.Goals as goal

pub input_event-requires : goal.input_event-requires
unfolding further spelled trigger_pieces split
input_event-requires c = let a = c.args in fits-1 (of_form (trigger_pieces a.primary (name_in a.text.now)) c.in-InputEvent.is refl) _ _ c.requires

pub returns-in-InputEvent : goal.returns-in-InputEvent
unfolding further spelled trigger_pieces split
returns-in-InputEvent c = let a = c.args in put_1 (of_form (trigger_pieces a.primary (name_in a.text.now)) c.in-InputEvent.is refl) _ _ _ _ c.input_event.ensures

pub input_occupancy-requires : goal.input_occupancy-requires
unfolding further spelled trigger_pieces split
input_occupancy-requires c = let a = c.args in fits-1 (of_form (trigger_pieces a.primary (name_in a.text.now)) c.in-InputOccupancy.is refl) _ _ c.requires

pub returns-in-InputOccupancy : goal.returns-in-InputOccupancy
unfolding further spelled trigger_pieces split
returns-in-InputOccupancy c = let a = c.args in put_1 (of_form (trigger_pieces a.primary (name_in a.text.now)) c.in-InputOccupancy.is refl) _ _ _ _ c.input_occupancy.ensures

pub input_light-requires : goal.input_light-requires
unfolding further spelled trigger_pieces split
input_light-requires c = let a = c.args in fits-1 (of_form (trigger_pieces a.primary (name_in a.text.now)) c.in-InputLightCross.is refl) _ _ c.requires

pub returns-in-InputLightCross : goal.returns-in-InputLightCross
unfolding further spelled trigger_pieces split
returns-in-InputLightCross c = let a = c.args in put_1 (of_form (trigger_pieces a.primary (name_in a.text.now)) c.in-InputLightCross.is refl) _ _ _ _ c.input_light.ensures

pub input_position-requires : goal.input_position-requires
unfolding further spelled trigger_pieces split
input_position-requires c = let a = c.args in fits-1 (of_form (trigger_pieces a.primary (name_in a.text.now)) c.in-InputPositionChange.is refl) _ _ c.requires

pub returns-in-InputPositionChange : goal.returns-in-InputPositionChange
unfolding further spelled trigger_pieces split
returns-in-InputPositionChange c = let a = c.args in put_1 (of_form (trigger_pieces a.primary (name_in a.text.now)) c.in-InputPositionChange.is refl) _ _ _ _ c.input_position.ensures

pub power_cycled-requires : goal.power_cycled-requires
unfolding further spelled trigger_pieces split
power_cycled-requires c = let a = c.args in fits-1 (of_form (trigger_pieces a.primary (name_in a.text.now)) c.in-InputDevicePowerCycled.is refl) _ _ c.requires

pub returns-in-InputDevicePowerCycled : goal.returns-in-InputDevicePowerCycled
unfolding further spelled trigger_pieces split
returns-in-InputDevicePowerCycled c = let a = c.args in put_1 (of_form (trigger_pieces a.primary (name_in a.text.now)) c.in-InputDevicePowerCycled.is refl) _ _ _ _ c.power_cycled.ensures

pub config_changed-requires : goal.config_changed-requires
unfolding further spelled trigger_pieces split
config_changed-requires c = let a = c.args in fits-1 (of_form (trigger_pieces a.primary (name_in a.text.now)) c.in-InputDeviceManualConfigChanged.is refl) _ _ c.requires

pub returns-in-InputDeviceManualConfigChanged : goal.returns-in-InputDeviceManualConfigChanged
unfolding further spelled trigger_pieces split
returns-in-InputDeviceManualConfigChanged c = let a = c.args in put_1 (of_form (trigger_pieces a.primary (name_in a.text.now)) c.in-InputDeviceManualConfigChanged.is refl) _ _ _ _ c.config_changed.ensures

pub at_time-requires : goal.at_time-requires
unfolding further spelled trigger_pieces split
at_time-requires c = let a = c.args in fits-1 (of_form (trigger_pieces a.primary (name_in a.text.now)) c.in-AtTime.is refl) _ _ c.requires

pub returns-in-AtTime : goal.returns-in-AtTime
unfolding further spelled trigger_pieces split
returns-in-AtTime c = let a = c.args in put_1 (of_form (trigger_pieces a.primary (name_in a.text.now)) c.in-AtTime.is refl) _ _ _ _ c.at_time.ensures

pub at_solar-requires : goal.at_solar-requires
unfolding further spelled trigger_pieces split
at_solar-requires c = let a = c.args in search (rules, fits-1 (trigger-held a.primary (name_in a.text.now) c.in-AtSolar.is (to_z-of_z {w = w32} (search rules))))

pub returns-in-AtSolar : goal.returns-in-AtSolar
unfolding further spelled trigger_pieces split
returns-in-AtSolar c = let a = c.args in search (rules, put_1 (trigger-held a.primary (name_in a.text.now) c.in-AtSolar.is (to_z-of_z {w = w32} (search rules))))

pub every-requires : goal.every-requires
unfolding further spelled trigger_pieces split
every-requires c = let a = c.args in fits-1 (of_form (trigger_pieces a.primary (name_in a.text.now)) c.in-Every.is refl) _ _ c.requires

pub returns-in-Every : goal.returns-in-Every
unfolding further spelled trigger_pieces split
returns-in-Every c = let a = c.args in put_1 (of_form (trigger_pieces a.primary (name_in a.text.now)) c.in-Every.is refl) _ _ _ _ c.every.ensures

pub lamp_turns-requires : goal.lamp_turns-requires
unfolding further spelled trigger_pieces split
lamp_turns-requires c = let a = c.args in fits-1 (of_form (trigger_pieces a.primary (name_in a.text.now)) c.in-LampTurns.is refl) _ _ c.requires

pub returns-in-LampTurns : goal.returns-in-LampTurns
unfolding further spelled trigger_pieces split
returns-in-LampTurns c = let a = c.args in put_1 (of_form (trigger_pieces a.primary (name_in a.text.now)) c.in-LampTurns.is refl) _ _ _ _ c.lamp_turns.ensures

pub lamp_level-requires : goal.lamp_level-requires
unfolding further spelled trigger_pieces split
lamp_level-requires c = let a = c.args in fits-1 (of_form (trigger_pieces a.primary (name_in a.text.now)) c.in-LampLevelCross.is refl) _ _ c.requires

pub returns-in-LampLevelCross : goal.returns-in-LampLevelCross
unfolding further spelled trigger_pieces split
returns-in-LampLevelCross c = let a = c.args in put_1 (of_form (trigger_pieces a.primary (name_in a.text.now)) c.in-LampLevelCross.is refl) _ _ _ _ c.lamp_level.ensures

pub group_becomes-requires : goal.group_becomes-requires
unfolding further spelled trigger_pieces split
group_becomes-requires c = let a = c.args in fits-1 (of_form (trigger_pieces a.primary (name_in a.text.now)) c.in-GroupBecomes.is refl) _ _ c.requires

pub returns-in-GroupBecomes : goal.returns-in-GroupBecomes
unfolding further spelled trigger_pieces split
returns-in-GroupBecomes c = let a = c.args in put_1 (of_form (trigger_pieces a.primary (name_in a.text.now)) c.in-GroupBecomes.is refl) _ _ _ _ c.group_becomes.ensures

pub scene_recalled-requires : goal.scene_recalled-requires
unfolding further spelled trigger_pieces split
scene_recalled-requires c = let a = c.args in fits-1 (of_form (trigger_pieces a.primary (name_in a.text.now)) c.in-SceneRecalled.is refl) _ _ c.requires

pub returns-in-SceneRecalled : goal.returns-in-SceneRecalled
unfolding further spelled trigger_pieces split
returns-in-SceneRecalled c = let a = c.args in put_1 (of_form (trigger_pieces a.primary (name_in a.text.now)) c.in-SceneRecalled.is refl) _ _ _ _ c.scene_recalled.ensures

pub device_online-requires : goal.device_online-requires
unfolding further spelled trigger_pieces split
device_online-requires c = let a = c.args in fits-1 (of_form (trigger_pieces a.primary (name_in a.text.now)) c.in-DeviceOnline.is refl) _ _ c.requires

pub returns-in-DeviceOnline : goal.returns-in-DeviceOnline
unfolding further spelled trigger_pieces split
returns-in-DeviceOnline c = let a = c.args in put_1 (of_form (trigger_pieces a.primary (name_in a.text.now)) c.in-DeviceOnline.is refl) _ _ _ _ c.device_online.ensures

pub hcl_override-requires : goal.hcl_override-requires
unfolding further spelled trigger_pieces split
hcl_override-requires c = let a = c.args in fits-1 (of_form (trigger_pieces a.primary (name_in a.text.now)) c.in-HclOverride.is refl) _ _ c.requires

pub returns-in-HclOverride : goal.returns-in-HclOverride
unfolding further spelled trigger_pieces split
returns-in-HclOverride c = let a = c.args in put_1 (of_form (trigger_pieces a.primary (name_in a.text.now)) c.in-HclOverride.is refl) _ _ _ _ c.hcl_override.ensures

pub put_named-requires : goal.put_named-requires
unfolding further spelled trigger_pieces split
put_named-requires c = let a = c.args in fits-1 (of_form (trigger_pieces a.primary (name_in a.text.now)) c.in-TimerFires.is (named-bytes (ascii "timer") _ _ (words (ascii "fires")))) _ _ c.requires

pub returns-in-TimerFires : goal.returns-in-TimerFires
unfolding further spelled trigger_pieces split
returns-in-TimerFires c = let a = c.args in put_1 (of_form (trigger_pieces a.primary (name_in a.text.now)) c.in-TimerFires.is (named-bytes (ascii "timer") _ _ (words (ascii "fires")))) _ _ _ _ c.put_named.ensures

pub put-requires : goal.put-requires
unfolding further spelled trigger_pieces split
put-requires c = let a = c.args in fits-1 (of_form (trigger_pieces a.primary (name_in a.text.now)) c.in-ControllerStarts.is refl) _ _ c.requires

pub returns-in-ControllerStarts : goal.returns-in-ControllerStarts
unfolding further spelled trigger_pieces split
returns-in-ControllerStarts c = let a = c.args in put_1 (of_form (trigger_pieces a.primary (name_in a.text.now)) c.in-ControllerStarts.is refl) _ _ _ _ c.put.ensures

pub put-requires-in-ControllerBecomesActive : goal.put-requires-in-ControllerBecomesActive
unfolding further spelled trigger_pieces split
put-requires-in-ControllerBecomesActive c = let a = c.args in fits-1 (of_form (trigger_pieces a.primary (name_in a.text.now)) c.in-ControllerBecomesActive.is refl) _ _ c.requires

pub returns-in-ControllerBecomesActive : goal.returns-in-ControllerBecomesActive
unfolding further spelled trigger_pieces split
returns-in-ControllerBecomesActive c = let a = c.args in put_1 (of_form (trigger_pieces a.primary (name_in a.text.now)) c.in-ControllerBecomesActive.is refl) _ _ _ _ c.put-in-ControllerBecomesActive.ensures

pub put_named-requires-in-RuleFails : goal.put_named-requires-in-RuleFails
unfolding further spelled trigger_pieces split
put_named-requires-in-RuleFails c = let a = c.args in fits-1 (of_form (trigger_pieces a.primary (name_in a.text.now)) c.in-RuleFails.is (named-bytes (ascii "rule") _ _ (words (ascii "fails")))) _ _ c.requires

pub returns-in-RuleFails : goal.returns-in-RuleFails
unfolding further spelled trigger_pieces split
returns-in-RuleFails c = let a = c.args in put_1 (of_form (trigger_pieces a.primary (name_in a.text.now)) c.in-RuleFails.is (named-bytes (ascii "rule") _ _ (words (ascii "fails")))) _ _ _ _ c.put_named-in-RuleFails.ensures

pub put-requires-in-HttpTrigger : goal.put-requires-in-HttpTrigger
unfolding further spelled trigger_pieces split
put-requires-in-HttpTrigger c = let a = c.args in fits-1 (of_form (trigger_pieces a.primary (name_in a.text.now)) c.in-HttpTrigger.is refl) _ _ c.requires

pub returns-in-HttpTrigger : goal.returns-in-HttpTrigger
unfolding further spelled trigger_pieces split
returns-in-HttpTrigger c = let a = c.args in put_1 (of_form (trigger_pieces a.primary (name_in a.text.now)) c.in-HttpTrigger.is refl) _ _ _ _ c.put-in-HttpTrigger.ensures

pub mqtt_message-requires : goal.mqtt_message-requires
unfolding further spelled trigger_pieces split
mqtt_message-requires c = let a = c.args in fits-1 (of_form (trigger_pieces a.primary (name_in a.text.now)) c.in-MqttMessage.is refl) _ _ c.requires

pub returns-in-MqttMessage : goal.returns-in-MqttMessage
unfolding further spelled trigger_pieces split
returns-in-MqttMessage c = let a = c.args in put_1 (of_form (trigger_pieces a.primary (name_in a.text.now)) c.in-MqttMessage.is refl) _ _ _ _ c.mqtt_message.ensures
