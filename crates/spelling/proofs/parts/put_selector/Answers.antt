use mathlib.Core.Path.{refl}
use Rattle.writing.specs.Write.{selector_pieces}
use Rattle.spelling.proofs.PutLaws.{fits-1, put_1}
use Rattle.spelling.proofs.FormLaws.{of_form}
use Rattle.spelling.proofs.parts.put_selector.Goals as goal

pub put_instance-requires : goal.put_instance-requires
unfolding selector_pieces
put_instance-requires c = fits-1 (of_form (selector_pieces c.args.primary) c.in-Instance.is refl) _ _ c.requires

pub returns-in-Instance : goal.returns-in-Instance
unfolding selector_pieces
returns-in-Instance c = put_1 (of_form (selector_pieces c.args.primary) c.in-Instance.is refl) _ _ _ _ c.put_instance.ensures
