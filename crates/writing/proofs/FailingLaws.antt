-- Where no entry is the first to fail a test, every entry that is in use passes it.
use Prim.Native.Nat.{ℕ, ◌+◌}
use native.Mathlib.Omega.{arith}
use mathlib.Core.Path.{◌≡◌}
use mathlib.Core.Bool.{Bool, true}
use mathlib.Core.List.{List, [], ◌∷◌}
use lib.Dec.{eqb}
use borrow.Author.Tests.{eqb-true, eqb-false}
use Rattle.text.proofs.Tests.{picked}
use Rattle.model.specs.Ranges.{Each}
use Rattle.writing.specs.Writing.{triggers_in, conditions_in, failing, first_failing}
use Rattle.writing.specs.declared.TriggerFrom.{TriggerFrom}
use Rattle.writing.specs.declared.ConditionFrom.{ConditionFrom}
use Rattle.writing.specs.declared.Lists.{Lists}

pub all_pass : {A : Type 0} (test : A → Bool) (k : ℕ) (xs : List A) → failing test (k + 1) xs ≡ 0 → Each (λ (x : A). test x ≡ true) xs
unfolding failing
all_pass test k [] = λ h. Each.none
all_pass {A} test k (x ∷ xs) =
    picked (λ (n : ℕ). n ≡ 0 → Each (λ (y : A). test y ≡ true) (x ∷ xs)) (test x)
    (λ e h. Each.more e (all_pass test (k + 1) xs h))
    (λ e h. absurd (omega arith))

pub record Pass (trigger : TriggerFrom → Bool) (condition : ConditionFrom → Bool) (l : Lists) : Type 0 where
  pub triggers : Each (λ (x : TriggerFrom). trigger x ≡ true) (triggers_in l)
  pub conditions : Each (λ (y : ConditionFrom). condition y ≡ true) (conditions_in l)

pub none-failing : (trigger : TriggerFrom → Bool) (condition : ConditionFrom → Bool) (l : Lists) → first_failing trigger condition l ≡ 0 →
    Pass trigger condition l
unfolding first_failing
none-failing trigger condition l =
    let n = failing trigger 1 (triggers_in l) in
    picked (λ (k : ℕ). k ≡ 0 → Pass trigger condition l) (eqb n 0)
    (λ e h.
    record {
      triggers = all_pass trigger 0 (triggers_in l) (eqb-true n 0 e);
      conditions = all_pass condition l.triggers.count (conditions_in l) h;
    })
    (λ e h. absurd (eqb-false n 0 e h))
