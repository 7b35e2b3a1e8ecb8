-- The lists of an accepted answer are those that it was made of, if they have at most four entries; and the lists of a reading have no more.
use Prim.Native.Nat.{ℕ, zero, suc, ◌≤◌}
use native.Mathlib.Omega.{arith}
use mathlib.Core.Path.{◌≡◌, refl, ap}
use mathlib.Core.List.{List, [], ◌∷◌, map}
use lib.ListN.{length, take}
use Rattle.tokens.specs.Cursor.{Tok}
use Rattle.sheet.specs.View.{View}
use Rattle.model.specs.Lists.{padded, triggers_of, conditions_of}
use Rattle.model.specs.declared.Name.{Name}
use Rattle.model.specs.declared.Trigger.{Trigger}
use Rattle.model.specs.declared.TriggerRow.{TriggerRow}
use Rattle.model.specs.declared.Condition.{Condition}
use Rattle.model.specs.declared.ConditionRow.{ConditionRow}
use Rattle.language.specs.Limits.{most_triggers}
use Rattle.language.specs.grammar.Text.{WhenSection, whens, ConditionsOf, joined, IfSection, no_if, conditions, ReadingWith, reading}
use Rattle.join.specs.Join.{triggers_in, conditions_in}

-- rows are as many as there is room for
pub padded-long : {A B : Type 0} (row : A → B) (unused : B) (n : ℕ) (xs : List A) → length (padded row unused n xs) ≡ n
unfolding padded
padded-long row unused zero xs = refl
padded-long row unused (suc n) [] = ap suc (padded-long row unused n [])
padded-long row unused (suc n) (x ∷ xs) = ap suc (padded-long row unused n xs)

-- the entries in use, taken out of their rows again
padded-back : {A B : Type 0} (row : A → B) (back : B → A) (unused : B) → ((x : A) → back (row x) ≡ x) → (n : ℕ) (xs : List A) → length xs ≤ n →
    map back (take (length xs) (padded row unused n xs)) ≡ xs
unfolding padded
padded-back row back unused e n [] l = refl
padded-back row back unused e zero (x ∷ xs) l = absurd (omega arith)
padded-back row back unused e (suc n) (x ∷ xs) l = rw (e x, padded-back row back unused e n xs (omega arith))

pub triggers-back : (xs : List Trigger) → length xs ≤ most_triggers → triggers_in (triggers_of xs) ≡ xs
unfolding triggers_of
triggers-back xs l =
    padded-back (λ (x : Trigger). record { trigger = x }) (λ (r : TriggerRow). r.trigger) _ (λ x. refl) most_triggers xs l

pub conditions-back : (ys : List Condition) → length ys ≤ most_triggers → conditions_in (conditions_of ys) ≡ ys
unfolding conditions_of
conditions-back ys l =
    padded-back (λ (y : Condition). record { condition = y }) (λ (r : ConditionRow). r.condition) _ (λ y. refl) most_triggers ys l

-- "one to four `when` TRIGGER, then perhaps `if` CONDITION with up to three `and` CONDITION"
module _ {t : ℕ → Tok} {view : View} {range : ℕ → Name} where
  few-whens : {i j : ℕ} {xs : List Trigger} → WhenSection t view range i xs j → length xs ≤ most_triggers
  few-whens (whens r some few) = few

  few-joined : {i j : ℕ} {ys : List Condition} → ConditionsOf t view range i ys j → length ys ≤ most_triggers
  few-joined (joined c r few) = omega arith

  few_ifs : {i j : ℕ} {ys : List Condition} → IfSection t view range i ys j → length ys ≤ most_triggers
  few_ifs no_if = omega arith
  few_ifs (conditions w c) = few-joined c

  pub few_triggers : {xs : List Trigger} {ys : List Condition} → ReadingWith t view range xs ys → length xs ≤ most_triggers
  few_triggers (reading w c e) = few-whens w

  pub few_conditions : {xs : List Trigger} {ys : List Condition} → ReadingWith t view range xs ys → length ys ≤ most_triggers
  few_conditions (reading w c e) = few_ifs c
