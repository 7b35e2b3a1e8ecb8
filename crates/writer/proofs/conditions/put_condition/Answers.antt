use mathlib.Core.Path.{refl}
use Rattle.text.specs.Literal.{ascii}
use Rattle.text.specs.Split.{split}
use Rattle.topics.specs.Ranges.{name_in}
use Rattle.writing.specs.Pieces.{spelled, words, further}
use Rattle.writing.specs.Write.{condition_pieces}
use Rattle.spelling.proofs.PutLaws.{fits-1, put_1}
use Rattle.spelling.proofs.FormLaws.{of_form}
use Rattle.spelling.proofs.PartLaws.{named-bytes}
use Rattle.writer.proofs.conditions.put_condition.Goals as goal

pub time_in_range-requires : goal.time_in_range-requires
unfolding further spelled condition_pieces split
time_in_range-requires c = let a = c.args in fits-1 (of_form (condition_pieces a.primary (name_in a.text.now)) c.in-TimeInRange.is refl) _ _ c.requires

pub returns-in-TimeInRange : goal.returns-in-TimeInRange
unfolding further spelled condition_pieces split
returns-in-TimeInRange c = let a = c.args in put_1 (of_form (condition_pieces a.primary (name_in a.text.now)) c.in-TimeInRange.is refl) _ _ _ _ c.time_in_range.ensures

pub sun_is-requires : goal.sun_is-requires
unfolding further spelled condition_pieces split
sun_is-requires c = let a = c.args in fits-1 (of_form (condition_pieces a.primary (name_in a.text.now)) c.in-SunIs.is refl) _ _ c.requires

pub returns-in-SunIs : goal.returns-in-SunIs
unfolding further spelled condition_pieces split
returns-in-SunIs c = let a = c.args in put_1 (of_form (condition_pieces a.primary (name_in a.text.now)) c.in-SunIs.is refl) _ _ _ _ c.sun_is.ensures

pub lamp_is-requires : goal.lamp_is-requires
unfolding further spelled condition_pieces split
lamp_is-requires c = let a = c.args in fits-1 (of_form (condition_pieces a.primary (name_in a.text.now)) c.in-LampIs.is refl) _ _ c.requires

pub returns-in-LampIs : goal.returns-in-LampIs
unfolding further spelled condition_pieces split
returns-in-LampIs c = let a = c.args in put_1 (of_form (condition_pieces a.primary (name_in a.text.now)) c.in-LampIs.is refl) _ _ _ _ c.lamp_is.ensures

pub lamp_compare-requires : goal.lamp_compare-requires
unfolding further spelled condition_pieces split
lamp_compare-requires c = let a = c.args in fits-1 (of_form (condition_pieces a.primary (name_in a.text.now)) c.in-LampCompare.is refl) _ _ c.requires

pub returns-in-LampCompare : goal.returns-in-LampCompare
unfolding further spelled condition_pieces split
returns-in-LampCompare c = let a = c.args in put_1 (of_form (condition_pieces a.primary (name_in a.text.now)) c.in-LampCompare.is refl) _ _ _ _ c.lamp_compare.ensures

pub group_state-requires : goal.group_state-requires
unfolding further spelled condition_pieces split
group_state-requires c = let a = c.args in fits-1 (of_form (condition_pieces a.primary (name_in a.text.now)) c.in-GroupState.is refl) _ _ c.requires

pub returns-in-GroupState : goal.returns-in-GroupState
unfolding further spelled condition_pieces split
returns-in-GroupState c = let a = c.args in put_1 (of_form (condition_pieces a.primary (name_in a.text.now)) c.in-GroupState.is refl) _ _ _ _ c.group_state.ensures

pub input_state-requires : goal.input_state-requires
unfolding further spelled condition_pieces split
input_state-requires c = let a = c.args in fits-1 (of_form (condition_pieces a.primary (name_in a.text.now)) c.in-InputOccupancy.is refl) _ _ c.requires

pub returns-in-InputOccupancy : goal.returns-in-InputOccupancy
unfolding further spelled condition_pieces split
returns-in-InputOccupancy c = let a = c.args in put_1 (of_form (condition_pieces a.primary (name_in a.text.now)) c.in-InputOccupancy.is refl) _ _ _ _ c.input_state.ensures

pub light_compare-requires : goal.light_compare-requires
unfolding further spelled condition_pieces split
light_compare-requires c = let a = c.args in fits-1 (of_form (condition_pieces a.primary (name_in a.text.now)) c.in-InputLight.is refl) _ _ c.requires

pub returns-in-InputLight : goal.returns-in-InputLight
unfolding further spelled condition_pieces split
returns-in-InputLight c = let a = c.args in put_1 (of_form (condition_pieces a.primary (name_in a.text.now)) c.in-InputLight.is refl) _ _ _ _ c.light_compare.ensures

pub hcl_state-requires : goal.hcl_state-requires
unfolding further spelled condition_pieces split
hcl_state-requires c = let a = c.args in fits-1 (of_form (condition_pieces a.primary (name_in a.text.now)) c.in-HclState.is refl) _ _ c.requires

pub returns-in-HclState : goal.returns-in-HclState
unfolding further spelled condition_pieces split
returns-in-HclState c = let a = c.args in put_1 (of_form (condition_pieces a.primary (name_in a.text.now)) c.in-HclState.is refl) _ _ _ _ c.hcl_state.ensures

pub device_is_online-requires : goal.device_is_online-requires
unfolding further spelled condition_pieces split
device_is_online-requires c = let a = c.args in fits-1 (of_form (condition_pieces a.primary (name_in a.text.now)) c.in-DeviceOnline.is refl) _ _ c.requires

pub returns-in-DeviceOnline : goal.returns-in-DeviceOnline
unfolding further spelled condition_pieces split
returns-in-DeviceOnline c = let a = c.args in put_1 (of_form (condition_pieces a.primary (name_in a.text.now)) c.in-DeviceOnline.is refl) _ _ _ _ c.device_is_online.ensures

pub put_named-requires : goal.put_named-requires
unfolding further spelled condition_pieces split
put_named-requires c = let a = c.args in fits-1 (of_form (condition_pieces a.primary (name_in a.text.now)) c.in-RuleEnabled.is (named-bytes (ascii "rule") _ _ (words (ascii "is enabled")))) _ _ c.requires

pub returns-in-RuleEnabled : goal.returns-in-RuleEnabled
unfolding further spelled condition_pieces split
returns-in-RuleEnabled c = let a = c.args in put_1 (of_form (condition_pieces a.primary (name_in a.text.now)) c.in-RuleEnabled.is (named-bytes (ascii "rule") _ _ (words (ascii "is enabled")))) _ _ _ _ c.put_named.ensures

pub last_fired-requires : goal.last_fired-requires
unfolding further spelled condition_pieces split
last_fired-requires c = let a = c.args in fits-1 (of_form (condition_pieces a.primary (name_in a.text.now)) c.in-LastFiredOlderThan.is refl) _ _ c.requires

pub returns-in-LastFiredOlderThan : goal.returns-in-LastFiredOlderThan
unfolding further spelled condition_pieces split
returns-in-LastFiredOlderThan c = let a = c.args in put_1 (of_form (condition_pieces a.primary (name_in a.text.now)) c.in-LastFiredOlderThan.is refl) _ _ _ _ c.last_fired.ensures

pub put_named-requires-in-TimerRunning : goal.put_named-requires-in-TimerRunning
unfolding further spelled condition_pieces split
put_named-requires-in-TimerRunning c = let a = c.args in fits-1 (of_form (condition_pieces a.primary (name_in a.text.now)) c.in-TimerRunning.is (named-bytes (ascii "timer") _ _ (words (ascii "is running")))) _ _ c.requires

pub returns-in-TimerRunning : goal.returns-in-TimerRunning
unfolding further spelled condition_pieces split
returns-in-TimerRunning c = let a = c.args in put_1 (of_form (condition_pieces a.primary (name_in a.text.now)) c.in-TimerRunning.is (named-bytes (ascii "timer") _ _ (words (ascii "is running")))) _ _ _ _ c.put_named-in-TimerRunning.ensures

pub put-requires : goal.put-requires
unfolding further spelled condition_pieces split
put-requires c = let a = c.args in fits-1 (of_form (condition_pieces a.primary (name_in a.text.now)) c.in-ControllerActive.is refl) _ _ c.requires

pub returns-in-ControllerActive : goal.returns-in-ControllerActive
unfolding further spelled condition_pieces split
returns-in-ControllerActive c = let a = c.args in put_1 (of_form (condition_pieces a.primary (name_in a.text.now)) c.in-ControllerActive.is refl) _ _ _ _ c.put.ensures

pub var_compare-requires : goal.var_compare-requires
unfolding further spelled condition_pieces split
var_compare-requires c = let a = c.args in fits-1 (of_form (condition_pieces a.primary (name_in a.text.now)) c.in-VarCompare.is refl) _ _ c.requires

pub returns-in-VarCompare : goal.returns-in-VarCompare
unfolding further spelled condition_pieces split
returns-in-VarCompare c = let a = c.args in put_1 (of_form (condition_pieces a.primary (name_in a.text.now)) c.in-VarCompare.is refl) _ _ _ _ c.var_compare.ensures

pub day_in-requires : goal.day_in-requires
unfolding further spelled condition_pieces split
day_in-requires c = let a = c.args in fits-1 (of_form (condition_pieces a.primary (name_in a.text.now)) c.in-DayIn.is refl) _ _ c.requires

pub returns-in-DayIn : goal.returns-in-DayIn
unfolding further spelled condition_pieces split
returns-in-DayIn c = let a = c.args in put_1 (of_form (condition_pieces a.primary (name_in a.text.now)) c.in-DayIn.is refl) _ _ _ _ c.day_in.ensures
