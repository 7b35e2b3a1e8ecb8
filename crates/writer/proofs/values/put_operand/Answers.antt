use mathlib.Core.Path.{refl}
use Rattle.topics.specs.Ranges.{name_in}
use Rattle.writing.specs.Write.{operand_pieces}
use Rattle.spelling.proofs.PutLaws.{fits-1, put_1}
use Rattle.spelling.proofs.FormLaws.{of_form}
use Rattle.writer.proofs.values.put_operand.Goals as goal

pub put_string-requires : goal.put_string-requires
unfolding operand_pieces
put_string-requires c = let a = c.args in fits-1 (of_form (operand_pieces a.primary (name_in a.text.now)) c.in-Text.is refl) _ _ c.requires

pub returns-in-Text : goal.returns-in-Text
unfolding operand_pieces
returns-in-Text c = let a = c.args in put_1 (of_form (operand_pieces a.primary (name_in a.text.now)) c.in-Text.is refl) _ _ _ _ c.put_string.ensures

pub put_value-requires : goal.put_value-requires
unfolding operand_pieces
put_value-requires c = let a = c.args in fits-1 (of_form (operand_pieces a.primary (name_in a.text.now)) c.in-Number.is refl) _ _ c.requires

pub returns-in-Number : goal.returns-in-Number
unfolding operand_pieces
returns-in-Number c = let a = c.args in put_1 (of_form (operand_pieces a.primary (name_in a.text.now)) c.in-Number.is refl) _ _ _ _ c.put_value.ensures
