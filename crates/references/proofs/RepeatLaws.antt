-- Repeated arguments: what is set already is what was put, so that no argument is refused as a repeat exactly where the grammar allows the list.
use Prim.Native.Nat.{ℕ}
use native.Mathlib.Omega.{arith}
use mathlib.Core.Path.{◌≡◌, refl, sym, ◌∙◌, ap}
use mathlib.Core.Bool.{Bool, true, false}
use mathlib.Core.List.{List, [], ◌∷◌}
use lib.Dec.{eqb}
use borrow.Author.Tests.{eqb-true}
use Rattle.text.specs.Choice.{pick}
use Rattle.references.specs.Arguments.{dev_slot, inst_slot, group_slot, type_slot, adapter_slot}
use Rattle.references.specs.Args.{is_dev, is_number, is_group, is_on, is_set, is_repeat, put, no_args}
use Rattle.references.specs.Grammar.{slot, Without, none, past, Different, nothing, apart, Allowed, repeated, different}
use Rattle.references.specs.declared.args.Item.{Item}
use Rattle.references.specs.declared.args.Args.{Args}

differ : true ≡ false → ⊥
differ e = let z : ◌≡◌ {A = ℕ} 0 1 = cc in omega arith

-- an item sets its own argument, and no other
sets-own : (a : Args) (x : Item) → is_set (put a x) (slot x) ≡ true
unfolding is_set put slot is_dev is_number is_group is_on
sets-own a (Item.Device d) = refl
sets-own a (Item.Instance n) = refl
sets-own a (Item.Group n i) = refl
sets-own a (Item.Type n) = refl
sets-own a (Item.Adapter n) = refl

leaves : (a : Args) (x : Item) (k : ℕ) → eqb k (slot x) ≡ false → is_set (put a x) k ≡ is_set a k
unfolding is_set put slot
leaves a (Item.Device d) k e = rw e
leaves a (Item.Instance n) k e = rw e
leaves a (Item.Group n i) k e = rw e
leaves a (Item.Type n) k e = rw e
leaves a (Item.Adapter n) k e = rw e

-- what was set stays so
stays : (a : Args) (x : Item) (k : ℕ) → is_set a k ≡ true → is_set (put a x) k ≡ true
stays a x k h = by (eqb k (slot x)) refl
  where
    by : (b : Bool) → eqb k (slot x) ≡ b → is_set (put a x) k ≡ true
    by true e = rw (eqb-true k (slot x) e) (sets-own a x)
    by false e = leaves a x k e ∙ h

passed-false : (b : Bool) {y : Bool} → y ≡ false → pick b false y ≡ false
passed-false true e = refl
passed-false false e = e

none-set : (k : ℕ) → is_set no_args k ≡ false
unfolding is_set no_args is_dev is_number is_group is_on
none-set k =
    passed-false (eqb k dev_slot)
    (passed-false (eqb k inst_slot)
    (passed-false (eqb k group_slot) (passed-false (eqb k type_slot) (passed-false (eqb k adapter_slot) refl))))

-- none of the items, put one after the other to a, is refused as a repeat
pub data Fresh (repeats : Bool) : Args → List Item → Type 0 where
  fresh_end : {a : Args} → Fresh repeats a []
  fresh : {a : Args} {x : Item} {xs : List Item} → is_repeat repeats a (slot x) ≡ false → Fresh repeats (put a x) xs → Fresh repeats a (x ∷ xs)

-- where repeats are refused: the items differ from each other and from what is set
later-differ : {a : Args} {xs : List Item} → Fresh false a xs → Different xs × ((k : ℕ) → is_set a k ≡ true → Without k xs)
unfolding is_repeat
later-differ fresh_end = (nothing, λ k h. none)
later-differ {a} (fresh {x = x} e f) =
    let p = later-differ f in (
      apart (p.1 (slot x) (sets-own a x)) p.0,
      λ k h. past (λ s. differ (sym h ∙ ap (is_set a) (sym s) ∙ e)) (p.1 k (stays a x k h)),
    )

without-own : {x : Item} {xs : List Item} → Without (slot x) (x ∷ xs) → ⊥
without-own (past n w) = n refl

without-rest : {k : ℕ} {x : Item} {xs : List Item} → Without k (x ∷ xs) → Without k xs
without-rest (past n w) = w

not_set : (a : Args) (k : ℕ) → (is_set a k ≡ true → ⊥) → is_set a k ≡ false
not_set a k h = by (is_set a k) refl
  where
    by : (b : Bool) → is_set a k ≡ b → is_set a k ≡ false
    by true e = absurd (h e)
    by false e = e

differ-fresh : (a : Args) {xs : List Item} → Different xs → ((k : ℕ) → is_set a k ≡ true → Without k xs) → Fresh false a xs
unfolding is_repeat
differ-fresh a nothing h = fresh_end
differ-fresh a (apart {x} {xs} w d) h =
    fresh (not_set a (slot x) (λ e. without-own (h (slot x) e))) (differ-fresh (put a x) d rest)
  where
    rest : (k : ℕ) → is_set (put a x) k ≡ true → Without k xs
    rest k e = by (eqb k (slot x)) refl
      where
        by : (b : Bool) → eqb k (slot x) ≡ b → Without k xs
        by true s = rw (eqb-true k (slot x) s) w
        by false s = without-rest (h k (sym (leaves a x k s) ∙ e))

-- where they are not, none is
any-fresh : (a : Args) (xs : List Item) → Fresh true a xs
unfolding is_repeat
any-fresh a [] = fresh_end
any-fresh a (x ∷ xs) = fresh refl (any-fresh (put a x) xs)

-- the two are the same, from the first argument on
pub fresh-allowed : (repeats : Bool) {xs : List Item} → Fresh repeats no_args xs → Allowed repeats xs
fresh-allowed true f = repeated
fresh-allowed false f = different (later-differ f).0

pub allowed-fresh : (repeats : Bool) {xs : List Item} → Allowed repeats xs → Fresh repeats no_args xs
allowed-fresh true {xs} h = any-fresh no_args xs
allowed-fresh false (different d) = differ-fresh no_args d (λ k e. absurd (differ (sym e ∙ none-set k)))
