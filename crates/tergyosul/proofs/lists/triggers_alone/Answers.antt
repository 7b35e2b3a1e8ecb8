use mathlib.Core.Path.{◌∙◌, ap}
use borrow.Author.Rules.{rules}
use Rattle.tergyosul.specs.Converting.{without_texts, triggers_alone}
use Rattle.tergyosul.proofs.lists.triggers_alone.Goals as goal

pub triggers_in-requires : goal.triggers_in-requires
unfolding triggers_alone
triggers_in-requires c = search rules

pub without_texts-requires : goal.without_texts-requires
unfolding triggers_alone
without_texts-requires c = search rules

pub returns : goal.returns
unfolding triggers_alone
returns c = c.without_texts.ensures ∙ ap without_texts c.triggers_in.ensures
