use mathlib.Core.Path.{refl}
use Rattle.writing.specs.Write.{bound_pieces}
use Rattle.spelling.proofs.PutLaws.{fits-1, put_1}
use Rattle.spelling.proofs.FormLaws.{of_form}
use Rattle.spelling.proofs.parts.put_bound.Goals as goal

pub put_time-requires : goal.put_time-requires
unfolding bound_pieces
put_time-requires c = fits-1 (of_form bound_pieces c.in-Clock.is refl) _ _ c.requires

pub returns-in-Clock : goal.returns-in-Clock
unfolding bound_pieces
returns-in-Clock c = put_1 (of_form bound_pieces c.in-Clock.is refl) _ _ _ _ c.put_time.ensures
