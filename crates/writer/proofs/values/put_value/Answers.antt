use mathlib.Core.Path.{refl, sym, ap}
use mir.Syntax.{w64}
use mir.Facts.{to_z-of_z}
use lib.IntN.{ℤ}
use borrow.Author.Rules.{rules}
use Rattle.topics.specs.Ranges.{name_in}
use Rattle.writing.specs.Pieces.{further}
use Rattle.writing.specs.Write.{literal_pieces, value_pieces}
use Rattle.spelling.proofs.PutLaws.{fits-1, put_1}
use Rattle.spelling.proofs.FormLaws.{of_form}
use Rattle.writer.proofs.values.put_value.Goals as goal

pub put_literal-requires : goal.put_literal-requires
unfolding value_pieces
put_literal-requires c = let a = c.args in fits-1 (of_form (value_pieces a.primary (name_in a.text.now)) c.in-Literal.is (ap (λ (z : ℤ). further (literal_pieces z)) (sym (to_z-of_z {w = w64} (search rules))))) _ _ c.requires

pub returns-in-Literal : goal.returns-in-Literal
unfolding value_pieces
returns-in-Literal c = let a = c.args in put_1 (of_form (value_pieces a.primary (name_in a.text.now)) c.in-Literal.is (ap (λ (z : ℤ). further (literal_pieces z)) (sym (to_z-of_z {w = w64} (search rules))))) _ _ _ _ c.put_literal.ensures

pub reads-requires : goal.reads-requires
unfolding value_pieces
reads-requires c = let a = c.args in fits-1 (of_form (value_pieces a.primary (name_in a.text.now)) c.in-Reads.is refl) _ _ c.requires

pub returns-in-Reads : goal.returns-in-Reads
unfolding value_pieces
returns-in-Reads c = let a = c.args in put_1 (of_form (value_pieces a.primary (name_in a.text.now)) c.in-Reads.is refl) _ _ _ _ c.reads.ensures
