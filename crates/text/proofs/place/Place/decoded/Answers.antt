use mathlib.Core.Logic.{⊎_elim}
use mathlib.Core.Path.{◌≡◌, ◌∙◌, sym}
use mathlib.Core.List.{List, []}
use Prim.Native.Nat.{ℕ}
use Rattle.text.specs.Utf8.{chars}
use Rattle.text.specs.Place.{step_of}
use Rattle.text.specs.declared.place.Place.{Place}
use Rattle.std.specs.Prelude.{None}
use Rattle.text.proofs.CharLaws.{chars-bad, chars-end}
use Rattle.text.proofs.StepLaws.{to-next}
use Rattle.text.proofs.place.Place.decoded.Goals as goal

none-here : (s : List ℕ) (p : Place) → chars s p.at ≡ [] → None ≡ step_of p (chars s p.at)
unfolding step_of
none-here s p e = rw e

pub returns-in-Char : goal.returns-in-Char
returns-in-Char c = to-next _ _ c.decode.ensures.value c.in-Char.is c.after.ensures

pub returns-in-Bad : goal.returns-in-Bad
returns-in-Bad c =
    none-here _ _
    (⊎_elim (λ e. chars-bad _ _ (sym c.decode.ensures.value ∙ e)) (λ e. chars-end _ _ (sym c.decode.ensures.value ∙ e)) c.in-Bad.is)
