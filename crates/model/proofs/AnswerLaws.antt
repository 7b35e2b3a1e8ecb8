-- The answer that a refusal has, and a list with one more trigger.
use Prim.Native.Nat.{ℕ, ◌+◌, ◌<◌}
use native.Mathlib.Omega.{arith}
use mathlib.Core.Path.{◌≡◌, refl}
use mathlib.Core.List.{List, [], ◌∷◌, ◌++◌}
use lib.ListN.{length, set}
use Rattle.model.specs.Lists.{padded, triggers_of, conditions_of, refused_with}
use Rattle.model.specs.declared.Trigger.{Trigger}
use Rattle.model.specs.declared.Triggers.{Triggers}
use Rattle.model.specs.declared.Conditions.{Conditions}

pub refused-made : (number line column detail : ℕ) {triggers : Triggers} {conditions : Conditions} → triggers ≡ triggers_of [] →
    conditions ≡ conditions_of [] →
    record { number = number; line = line; column = column; detail = detail; triggers = triggers; conditions = conditions } ≡
    refused_with number line column detail
unfolding refused_with
refused-made number line column detail x y = rw (x, y)

pub trigger-put : (xs : List Trigger) (x : Trigger) → length xs < 4 →
    record { rows = set (triggers_of xs).rows (length xs) (record { trigger = x }); count = length xs + 1 } ≡ triggers_of (xs ++ (x ∷ []))
unfolding triggers_of padded
trigger-put [] x h = refl
trigger-put (a ∷ []) x h = refl
trigger-put (a ∷ (b ∷ [])) x h = refl
trigger-put (a ∷ (b ∷ (c ∷ []))) x h = refl
trigger-put (a ∷ (b ∷ (c ∷ (d ∷ xs)))) x h = absurd (omega arith)
