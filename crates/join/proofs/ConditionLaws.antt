-- Two lists of conditions, from one entry on.
use Prim.Native.Nat.{ℕ, suc, ◌+◌, ◌<◌, ◌≤◌}
use mathlib.Core.Path.{◌≡◌, ◌∙◌, refl, ap, sym}
use mathlib.Core.List.{List, [], ◌∷◌}
use mathlib.Core.Bool.{Bool, true, false, not}
use native.Mathlib.Omega.{arith}
use native.Mathlib.Numerals.{add-one}
use lib.ListN.{length, get_or, drop, drop_of_length-le}
use lib.Seq.{drop-cons}
use borrow.Author.Tests.{not-true, not-false}
use Rattle.text.specs.Choice.{pick}
use Rattle.text.proofs.Tests.{pick_same}
use Rattle.model.specs.declared.Condition.{Condition}
use Rattle.model.specs.declared.Condition.TheVariants.{ControllerActive}
use Rattle.model.specs.declared.ConditionRow.{ConditionRow}
use Rattle.model.specs.declared.Conditions.{Conditions}
use Rattle.flat.specs.Flat.{no_condition}
use Rattle.compare.specs.Compare.{same_condition}
use Rattle.join.specs.Join.{conditions_in, same_conditions}
use Rattle.join.specs.Kept.{Few}
use Rattle.join.proofs.RowLaws.{in_use-long, in_use-at}

-- lists of different lengths
unlike : (first second : List ℕ) (xs ys : List Condition) → (length xs ≡ length ys → ⊥) → false ≡ same_conditions first second xs ys
unfolding same_conditions
unlike first second [] [] h = absurd (h refl)
unlike first second [] (y ∷ ys) h = refl
unlike first second (x ∷ xs) [] h = refl
unlike first second (x ∷ xs) (y ∷ ys) h =
    sym (ap (λ (b : Bool). pick (same_condition first second x y) b false) (sym (unlike first second xs ys (λ e. h (ap suc e)))) ∙ pick_same (same_condition first second x y) false)

at : (l : Conditions) (i : ℕ) → l.count ≤ length l.rows → i < l.count →
    drop i (conditions_in l) ≡ (get_or l.rows i no_condition).condition ∷ drop (i + 1) (conditions_in l)
at l i long h =
    let n : length (conditions_in l) ≡ l.count = in_use-long (λ (r : ConditionRow). r.condition) l.rows l.count long in
    drop-cons (conditions_in l) i ControllerActive (omega arith)
    ∙ rw (in_use-at (λ (r : ConditionRow). r.condition) l.rows l.count i ControllerActive no_condition h long, add-one)

past : (l : Conditions) (i : ℕ) → l.count ≤ length l.rows → l.count ≤ i → drop i (conditions_in l) ≡ []
past l i long h =
    let n : length (conditions_in l) ≤ i = omega (arith, in_use-long (λ (r : ConditionRow). r.condition) l.rows l.count long) in
    drop_of_length-le (conditions_in l) n

module _ (first second : List ℕ) (xs ys : Conditions) where
  abbrev pub Compared : ℕ → Type 0
  Compared i = same_conditions first second (drop i (conditions_in xs)) (drop i (conditions_in ys)) ≡ same_conditions first second (conditions_in xs) (conditions_in ys)

  module _ (few : Few xs.rows xs.count) (few-too : Few ys.rows ys.count) where
    long : xs.count ≤ length xs.rows
    long = omega (arith, few.0, few.1)

    long_too : ys.count ≤ length ys.rows
    long_too = omega (arith, few-too.0, few-too.1)

    pub other-count : (xs.count ≡ ys.count → ⊥) → false ≡ same_conditions first second (conditions_in xs) (conditions_in ys)
    other-count h =
        unlike first second (conditions_in xs) (conditions_in ys)
        (λ e. h (sym (in_use-long (λ (r : ConditionRow). r.condition) xs.rows xs.count long) ∙ e ∙ in_use-long (λ (r : ConditionRow). r.condition) ys.rows ys.count long_too))

    module _ (as_many : xs.count ≡ ys.count) (i : ℕ) (g : Compared i) where
      module _ (h : i < xs.count) {r : Bool}
          (said : r ≡ same_condition first second (get_or xs.rows i no_condition).condition (get_or ys.rows i no_condition).condition) where
        step : same_conditions first second (drop i (conditions_in xs)) (drop i (conditions_in ys))
            ≡ pick r (same_conditions first second (drop (i + 1) (conditions_in xs)) (drop (i + 1) (conditions_in ys))) false
        unfolding same_conditions
        step = rw (at xs i long h, at ys i long_too (omega arith), said)

        pub compared-no : not r ≡ true → false ≡ same_conditions first second (conditions_in xs) (conditions_in ys)
        compared-no k = sym (step ∙ rw (not-true r k)) ∙ g

        pub compared-on : not r ≡ false → Compared (i + 1)
        compared-on k = sym (step ∙ rw (not-false r k)) ∙ g

      pub compared-all : xs.count ≤ i → true ≡ same_conditions first second (conditions_in xs) (conditions_in ys)
      unfolding same_conditions
      compared-all h = rw (past xs i long h, past ys i long_too (omega arith)) at g
