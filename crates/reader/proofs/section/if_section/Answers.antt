use Rattle.std.proofs.Common.{◌∙◌, refl, ap}
use Rattle.tokens.proofs.Chain.{then-taken, perhaps-yes}
use Rattle.language.specs.Section.{if_section}
use Rattle.reader.specs.Parts.{to_ifs}
use Rattle.reader.proofs.section.if_section.Goals as goal

pub returns : goal.returns
unfolding if_section
returns c = c.ands.ensures ∙ ap to_ifs (perhaps-yes _ _ _ _ c.accept_kw.ensures c.in-Some.is (then-taken _ _ c.condition_at.ensures c.in_ok-y.was refl))
