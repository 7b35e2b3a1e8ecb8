use mathlib.Core.Path.{refl}
use Rattle.topics.specs.Ranges.{name_in}
use Rattle.writing.specs.Write.{reading_pieces}
use Rattle.spelling.proofs.PutLaws.{fits-1, put_1}
use Rattle.spelling.proofs.FormLaws.{of_form}
use Rattle.writer.proofs.values.put_reading.Goals as goal

pub lamp_reading-requires : goal.lamp_reading-requires
unfolding reading_pieces
lamp_reading-requires c = let a = c.args in fits-1 (of_form (reading_pieces a.primary (name_in a.text.now)) c.in-Lamp.is refl) _ _ c.requires

pub returns-in-Lamp : goal.returns-in-Lamp
unfolding reading_pieces
returns-in-Lamp c = let a = c.args in put_1 (of_form (reading_pieces a.primary (name_in a.text.now)) c.in-Lamp.is refl) _ _ _ _ c.lamp_reading.ensures

pub group_reading-requires : goal.group_reading-requires
unfolding reading_pieces
group_reading-requires c = let a = c.args in fits-1 (of_form (reading_pieces a.primary (name_in a.text.now)) c.in-Group.is refl) _ _ c.requires

pub returns-in-Group : goal.returns-in-Group
unfolding reading_pieces
returns-in-Group c = let a = c.args in put_1 (of_form (reading_pieces a.primary (name_in a.text.now)) c.in-Group.is refl) _ _ _ _ c.group_reading.ensures

pub input_reading-requires : goal.input_reading-requires
unfolding reading_pieces
input_reading-requires c = let a = c.args in fits-1 (of_form (reading_pieces a.primary (name_in a.text.now)) c.in-Input.is refl) _ _ c.requires

pub returns-in-Input : goal.returns-in-Input
unfolding reading_pieces
returns-in-Input c = let a = c.args in put_1 (of_form (reading_pieces a.primary (name_in a.text.now)) c.in-Input.is refl) _ _ _ _ c.input_reading.ensures

pub time_reading-requires : goal.time_reading-requires
unfolding reading_pieces
time_reading-requires c = let a = c.args in fits-1 (of_form (reading_pieces a.primary (name_in a.text.now)) c.in-Time.is refl) _ _ c.requires

pub returns-in-Time : goal.returns-in-Time
unfolding reading_pieces
returns-in-Time c = let a = c.args in put_1 (of_form (reading_pieces a.primary (name_in a.text.now)) c.in-Time.is refl) _ _ _ _ c.time_reading.ensures

pub sun_reading-requires : goal.sun_reading-requires
unfolding reading_pieces
sun_reading-requires c = let a = c.args in fits-1 (of_form (reading_pieces a.primary (name_in a.text.now)) c.in-Sun.is refl) _ _ c.requires

pub returns-in-Sun : goal.returns-in-Sun
unfolding reading_pieces
returns-in-Sun c = let a = c.args in put_1 (of_form (reading_pieces a.primary (name_in a.text.now)) c.in-Sun.is refl) _ _ _ _ c.sun_reading.ensures

pub event_reading-requires : goal.event_reading-requires
unfolding reading_pieces
event_reading-requires c = let a = c.args in fits-1 (of_form (reading_pieces a.primary (name_in a.text.now)) c.in-Event.is refl) _ _ c.requires

pub returns-in-Event : goal.returns-in-Event
unfolding reading_pieces
returns-in-Event c = let a = c.args in put_1 (of_form (reading_pieces a.primary (name_in a.text.now)) c.in-Event.is refl) _ _ _ _ c.event_reading.ensures

pub var_reading-requires : goal.var_reading-requires
unfolding reading_pieces
var_reading-requires c = let a = c.args in fits-1 (of_form (reading_pieces a.primary (name_in a.text.now)) c.in-Var.is refl) _ _ c.requires

pub returns-in-Var : goal.returns-in-Var
unfolding reading_pieces
returns-in-Var c = let a = c.args in put_1 (of_form (reading_pieces a.primary (name_in a.text.now)) c.in-Var.is refl) _ _ _ _ c.var_reading.ensures
