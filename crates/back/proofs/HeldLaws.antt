-- What is read back from words of 32 bits is an entry that words can tell (flat/specs/Held.antt).
use Prim.Native.Nat.{ℕ, ◌+◌, ◌*◌, ◌<◌, ◌^◌}
use native.Mathlib.Omega.{arith}
use mathlib.Core.List.{List, [], ◌∷◌}
use lib.Dec.{ltb, eqb}
use borrow.Author.Tests.{ltb-true, ltb-false, eqb-false}
use Rattle.text.proofs.Tests.{picked}
use Rattle.flat.specs.Back.{coded, headed, signed_back, offset_back, number_back, type_back, selector_back, bound_back, value_back, operand_back, trigger_back, condition_back}
use Rattle.flat.specs.Codes.{no_type}
use Rattle.flat.specs.Held.{SignedWithin, HeldNumber, HeldSelector, HeldBound, HeldDelta, HeldValue, HeldOperand, HeldTrigger, HeldCondition}
use Rattle.back.specs.Rows.{Words}

-- what holds of every form holds of the one that is chosen
data Each {A : Type 0} (P : A → Type 0) : List A → Type 0 where
  none : Each P []
  more : {x : A} {xs : List A} → P x → Each P xs → Each P (x ∷ xs)

ruleset forms = (tt, none, more)

chosen : {A : Type 0} (P : A → Type 0) (code : A → ℕ) (n : ℕ) (x : A) (xs : List A) → P x → Each P xs → P (coded code n x xs)
unfolding coded
chosen P code n x [] h none = h
chosen P code n x (y ∷ ys) h (more k ks) = picked P (eqb n (code x)) (λ _. h) (λ _. chosen P code n y ys k ks)

signed-held : (most n : ℕ) → n < 2 * most → SignedWithin most (signed_back most n)
unfolding signed_back SignedWithin
signed-held most n h = picked (SignedWithin most) (ltb n most) (λ e. ltb-true n most e) (λ e. let k = ltb-false n most e in omega arith)

offset-held : (low : ℕ) → low < 2 ^ 32 → SignedWithin (2 ^ 31) (offset_back low)
unfolding offset_back
offset-held low h = signed-held (2 ^ 31) low h

number-held : (low high : ℕ) → low < 2 ^ 32 → high < 2 ^ 32 → SignedWithin (2 ^ 63) (number_back low high)
unfolding number_back
number-held low high h k = signed-held (2 ^ 63) (low + 2 ^ 32 * high) (omega arith)

type-held : (n : ℕ) → n < 2 ^ 32 → HeldNumber (type_back n)
unfolding type_back HeldNumber
type-held n h = picked HeldNumber (eqb n no_type) (λ _. tt) (λ e. let k = eqb-false n no_type e in omega arith)

selector-held : (n a b c : ℕ) → c < 2 ^ 32 → HeldSelector (selector_back n a b c)
unfolding selector_back headed HeldSelector
selector-held n a b c h = chosen HeldSelector _ n _ _ tt (more (type-held c h) none)

bound-held : (n a b : ℕ) → b < 2 ^ 32 → HeldBound (bound_back n a b)
unfolding bound_back headed HeldBound
bound-held n a b h = chosen HeldBound _ n _ _ tt (more (offset-held b h) none)

value-held : (n code a b c low high : ℕ) → low < 2 ^ 32 → high < 2 ^ 32 → HeldValue (value_back n code a b c low high)
unfolding value_back headed HeldValue HeldDelta
value-held n code a b c low high h k =
    let z = number-held low high h k in
    chosen HeldValue _ n _ _ z (more tt (more z none))

operand-held : (n a b c d low high : ℕ) → low < 2 ^ 32 → high < 2 ^ 32 → HeldOperand (operand_back n a b c d low high)
unfolding operand_back headed HeldOperand
operand-held n a b c d low high h k = chosen HeldOperand _ n _ _ tt (more (value-held n a b c d low high h k) none)

pub trigger-held : (row : List ℕ) → Words row → HeldTrigger (trigger_back row)
unfolding trigger_back headed HeldTrigger
trigger-held row h =
    chosen HeldTrigger _ _ _ _ (selector-held _ _ _ _ (h 4))
    (search (forms, offset-held) depth 24)

pub condition-held : (row : List ℕ) → Words row → HeldCondition (condition_back row)
unfolding condition_back headed HeldCondition
condition-held row h =
    chosen HeldCondition _ _ _ _ (bound-held _ _ _ (h 3), bound-held _ _ _ (h 6))
    (search (forms, value-held, operand-held) depth 24)
