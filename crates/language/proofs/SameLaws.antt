-- Entries that are the same by bytes: the laws of an equivalence, and answers that are the same but for where their names stand. One rule for each way in which a
-- definition is built.
use Prim.Native.Nat.{ℕ, ◌+◌}
use mathlib.Core.Path.{◌≡◌, ◌∙◌, refl, sym, subst}
use mathlib.Core.Bool.{Bool, true, false}
use mathlib.Core.List.{List}
use Rattle.text.specs.Choice.{pick}
use Rattle.tokens.specs.Result.{Res, ok, no, bind, perhaps}
use Rattle.tokens.specs.declared.cursor.Refusal.{Refusal}
use Rattle.tokens.proofs.Okay.{Okay}
use Rattle.model.specs.declared.Trigger.{Trigger}
use Rattle.model.specs.declared.Condition.{Condition}
use Rattle.language.specs.Same.{SameTrigger, SameCondition}

-- each entry is the same as itself; the two may be taken in either order; and what is the same as a third is the same
pub trigger-itself : (a : List ℕ) (x : Trigger) → SameTrigger a a x x
trigger-itself a x = refl

pub trigger-turned : (a b : List ℕ) (x y : Trigger) → SameTrigger a b x y → SameTrigger b a y x
trigger-turned a b x y e = sym e

pub trigger-through : (a b c : List ℕ) (x y z : Trigger) → SameTrigger a b x y → SameTrigger b c y z → SameTrigger a c x z
trigger-through a b c x y z e f = e ∙ f

pub condition-itself : (a : List ℕ) (x : Condition) → SameCondition a a x x
condition-itself a x = refl

pub condition-turned : (a b : List ℕ) (x y : Condition) → SameCondition a b x y → SameCondition b a y x
condition-turned a b x y e = sym e

pub condition-through : (a b c : List ℕ) (x y z : Condition) → SameCondition a b x y → SameCondition b c y z → SameCondition a c x z
condition-through a b c x y z e f = e ∙ f

-- two answers that are shown alike: the same refusal, or values that f and g show alike, with the same next index
unfoldable pub Alike : {A B C : Type 0} → (A → C) → (B → C) → Res A → Res B → Type 0
Alike f g (ok x i) (ok y j) = (f x ≡ g y) × (i ≡ j)
Alike f g (ok x i) (no r) = ⊥
Alike f g (no r) (ok y j) = ⊥
Alike f g (no r) (no s) = r ≡ s

pub alike-ok : {A B C : Type 0} (f : A → C) (g : B → C) (x : A) (y : B) (i : ℕ) → f x ≡ g y → Alike f g (ok x i) (ok y i)
unfolding Alike
alike-ok f g x y i e = (e, refl)

pub alike-no : {A B C : Type 0} (f : A → C) (g : B → C) (r : Refusal) → Alike {A = A} {B = B} f g (no r) (no r)
unfolding Alike
alike-no f g r = refl

-- a step that both take
pub alike-step : {A B C D : Type 0} (f : B → D) (g : C → D) (m : Res A) (p : A → ℕ → Res B) (q : A → ℕ → Res C) →
    ((x : A) (i : ℕ) → Alike f g (p x i) (q x i)) → Alike f g (bind m p) (bind m q)
alike-step f g (ok x i) p q h = h x i
alike-step f g (no r) p q h = alike-no f g r

-- a step of whose answer something is known
pub alike_knowing : {A B C D : Type 0} {P : A → ℕ → Type 0} (f : B → D) (g : C → D) (m : Res A) (p : A → ℕ → Res B) (q : A → ℕ → Res C) → Okay P m →
    ((x : A) (i : ℕ) → P x i → Alike f g (p x i) (q x i)) → Alike f g (bind m p) (bind m q)
alike_knowing f g (ok x i) p q k h = h x i k
alike_knowing f g (no r) p q k h = alike-no f g r

-- steps that are shown alike
pub alike-bind : {A B C D E F : Type 0} (u : A → E) (v : B → E) (f : C → F) (g : D → F) (m : Res A) (n : Res B) (p : A → ℕ → Res C) (q : B → ℕ → Res D) →
    Alike u v m n → ((x : A) (y : B) (i : ℕ) → u x ≡ v y → Alike f g (p x i) (q y i)) → Alike f g (bind m p) (bind n q)
unfolding Alike
alike-bind u v f g (ok x i) (ok y j) p q h k = subst (λ (n : ℕ). Alike f g (p x i) (q y n)) h.1 (k x y i h.0)
alike-bind u v f g (ok x i) (no s) p q h k = absurd h
alike-bind u v f g (no r) (ok y j) p q h k = absurd h
alike-bind u v f g (no r) (no s) p q h k = h

pub alike-pick : {A B C : Type 0} (f : A → C) (g : B → C) (b : Bool) (m n : Res A) (p q : Res B) → Alike f g m p → Alike f g n q →
    Alike f g (pick b m n) (pick b p q)
alike-pick f g true m n p q h k = h
alike-pick f g false m n p q h k = k

pub alike-perhaps : {A B C : Type 0} (f : A → C) (g : B → C) (b : Bool) (i : ℕ) (m : ℕ → Res A) (n : Res A) (p : ℕ → Res B) (q : Res B) →
    Alike f g (m (i + 1)) (p (i + 1)) → Alike f g n q → Alike f g (perhaps b i m n) (perhaps b i p q)
alike-perhaps f g true i m n p q h k = h
alike-perhaps f g false i m n p q h k = k

-- the ways in which a definition is built
pub ruleset alikes = (alike-ok, alike-no, alike-step, alike-pick, alike-perhaps)
