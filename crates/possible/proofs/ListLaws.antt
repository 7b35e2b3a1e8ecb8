-- Counts within their bounds, and the first entry of both lists that fails.
use Prim.Native.Nat.{ℕ, ◌+◌, ◌≤◌}
use mathlib.Core.Path.{◌≡◌}
use mathlib.Core.Bool.{Bool, true}
use lib.Dec.{leb}
use borrow.Author.Tests.{leb-true, eq-eqb, ne_eqb}
use Rattle.text.specs.Choice.{within}
use Rattle.text.proofs.Tests.{both}
use Rattle.language.specs.Limits.{most_triggers, most_ands}
use Rattle.writing.specs.Writing.{possible_counts, triggers_in, conditions_in, failing, first_failing}
use Rattle.writing.specs.declared.TriggerFrom.{TriggerFrom}
use Rattle.writing.specs.declared.ConditionFrom.{ConditionFrom}
use Rattle.writing.specs.declared.Lists.{Lists}

module _ (l : Lists) (possible : possible_counts l ≡ true) where
  pub few_triggers : l.triggers.count ≤ most_triggers
  unfolding possible_counts
  few_triggers =
      let inside = (both (within 1 most_triggers l.triggers.count) {u = leb l.conditions.count (most_ands + 1)} possible).0 in
      leb-true l.triggers.count most_triggers (both (leb 1 l.triggers.count) inside).1

  pub few_conditions : l.conditions.count ≤ most_ands + 1
  unfolding possible_counts
  few_conditions = leb-true l.conditions.count (most_ands + 1) (both (within 1 most_triggers l.triggers.count) possible).1

-- which entry is the first to fail: a trigger, or else a condition
module _ (trigger : TriggerFrom → Bool) (condition : ConditionFrom → Bool) (l : Lists) {a : ℕ} (asked : a ≡ failing trigger 1 (triggers_in l)) where
  pub trigger-fails : (a ≡ 0 → ⊥) → a ≡ first_failing trigger condition l
  unfolding first_failing
  trigger-fails h = rw (← asked, ne_eqb a 0 h)

  pub condition-fails : a ≡ 0 → {b : ℕ} → b ≡ failing condition (l.triggers.count + 1) (conditions_in l) → b ≡ first_failing trigger condition l
  unfolding first_failing
  condition-fails h e = rw (← asked, eq-eqb a 0 h) e
