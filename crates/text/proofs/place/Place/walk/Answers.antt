use mathlib.Core.Path.{◌∙◌, sym}
use native.Mathlib.Omega.{arith}
use Rattle.text.proofs.StepLaws.{step-next, step_stop, walk_step, walk_stop}
use Rattle.text.proofs.place.Place.walk.Goals as goal

pub loop-next-smaller : goal.loop-next-smaller
loop-next-smaller c =
    let t = step-next _ _ _ _ (sym c.bump.ensures ∙ c.in-Some.is) in
    omega arith

pub loop-next-preserved : goal.loop-next-preserved
loop-next-preserved c = c.loop-next.invariant ∙ walk_step (step-next _ _ _ _ (sym c.bump.ensures ∙ c.in-Some.is))

pub returns : goal.returns
returns c = sym (c.loop-next.invariant ∙ walk_stop (step_stop _ _ (sym c.bump.ensures ∙ c.in_default.is)))
