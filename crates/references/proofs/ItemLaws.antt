-- The arguments of `input(` as a list of items: the definition reads that list, and keeps the last item of each argument.
use Prim.Native.Nat.{ℕ, zero, suc, ◌+◌}
use mathlib.Core.Path.{◌≡◌, refl, ap, ◌∙◌, subst}
use mathlib.Core.Bool.{Bool, true, false}
use mathlib.Core.List.{List, [], ◌∷◌}
use lib.Dec.{eqb}
use borrow.Author.Tests.{eq-eqb, ne_eqb, eqb-true, eqb-false}
use Rattle.text.specs.Choice.{pick}
use Rattle.tokens.specs.Result.{Res, ok, no, bind, perhaps, refuse}
use Rattle.tokens.specs.Cursor.{Tok, is_kind}
use Rattle.sheet.specs.View.{View}
use Rattle.references.specs.Arguments.{dev_slot, inst_slot, group_slot, type_slot, adapter_slot}
use Rattle.references.specs.Args.{put, no_args, arg_at, count_with, args_from}
use Rattle.references.specs.Grammar.{slot, Without, none, past, Last, last, later, Scoped, nowhere, somewhere, Typed, untyped, typed}
use Rattle.sheet.specs.declared.resolve.Scope.{Scope}
use Rattle.references.specs.declared.refs.NameOrId.{NameOrId}
use Rattle.references.specs.declared.args.Item.{Item}
use Rattle.references.specs.declared.args.Args.{Args}
use Rattle.std.specs.Prelude.{Option, Some, None}

-- items put one after the other
abbrev pub puts : Args → List Item → Args
puts a [] = a
puts a (x ∷ xs) = puts (put a x) xs

-- the arguments from i on, behind those in a, as a list
unfoldable pub items_from : (ℕ → Tok) → View → ℕ → Args → ℕ → ℕ → Res (List Item)
items_from t view zero a count i = refuse 20 i
items_from t view (suc fuel) a count i =
    bind (arg_at t view a count i)
    (λ item j.
    perhaps (is_kind t 11 j) j
    (λ k. bind (items_from t view fuel (put a item) (count_with t count i) k) (λ xs l. ok (item ∷ xs) l)) (ok (item ∷ []) j))

-- the definition answers that list, put
abbrev pub put_all : Args → Res (List Item) → Res Args
put_all a m = bind m (λ xs j. ok (puts a xs) j)

put-more : (a : Args) (x : Item) (m : Res (List Item)) → put_all (put a x) m ≡ put_all a (bind m (λ xs l. ok (x ∷ xs) l))
put-more a x (ok xs j) = refl
put-more a x (no r) = refl

put-comma : (a : Args) (x : Item) (j : ℕ) (comma : Bool) (f : ℕ → Res Args) (g : ℕ → Res (List Item)) →
    ((k : ℕ) → f k ≡ put_all (put a x) (g k)) →
    perhaps comma j f (ok (put a x) j) ≡ put_all a (perhaps comma j (λ k. bind (g k) (λ xs l. ok (x ∷ xs) l)) (ok (x ∷ []) j))
put-comma a x j true f g h = h (j + 1) ∙ put-more a x (g (j + 1))
put-comma a x j false f g h = refl

put-bind : (a : Args) (m : Res Item) (f : Item → ℕ → Res Args) (g : Item → ℕ → Res (List Item)) →
    ((x : Item) (j : ℕ) → f x j ≡ put_all a (g x j)) → bind m f ≡ put_all a (bind m g)
put-bind a (ok x j) f g h = h x j
put-bind a (no r) f g h = refl

pub args-items : (t : ℕ → Tok) (view : View) (fuel : ℕ) (a : Args) (count i : ℕ) →
    args_from t view fuel a count i ≡ put_all a (items_from t view fuel a count i)
unfolding args_from items_from
args-items t view zero a count i = refl
args-items t view (suc fuel) a count i =
    put-bind a (arg_at t view a count i) _ _
    (λ x j.
    put-comma a x j (is_kind t 11 j) _ (λ k. items_from t view fuel (put a x) (count_with t count i) k)
    (λ k. args-items t view fuel (put a x) (count_with t count i) k))

-- an item of each argument
pub data Of : ℕ → Item → Type 0 where
  device : {d : NameOrId} → Of dev_slot (Item.Device d)
  number : {n : ℕ} → Of inst_slot (Item.Instance n)
  group : {n i : ℕ} → Of group_slot (Item.Group n i)
  type : {n : ℕ} → Of type_slot (Item.Type n)
  adapter : {a : ℕ} → Of adapter_slot (Item.Adapter a)

item_of : (x : Item) → Of (slot x) x
unfolding slot
item_of (Item.Device d) = device
item_of (Item.Instance n) = number
item_of (Item.Group n i) = group
item_of (Item.Type n) = type
item_of (Item.Adapter a) = adapter

last_of : {k : ℕ} {xs : List Item} {x : Item} → Last k xs x → Of k x
last_of (last {x} e w) = subst (λ (k : ℕ). Of k x) e (item_of x)
last_of (later l) = last_of l

-- an argument is among the items, or not
data Among (k : ℕ) (xs : List Item) : Type 0 where
  absent : Without k xs → Among k xs
  present : {x : Item} → Of k x → Last k xs x → Among k xs

among : (k : ℕ) (xs : List Item) → Among k xs
among k [] = absent none
among k (x ∷ xs) = from (among k xs)
  where
    from : Among k xs → Among k (x ∷ xs)
    from (present o l) = present o (later l)
    from (absent w) = by (eqb (slot x) k) refl
      where
        by : (b : Bool) → eqb (slot x) k ≡ b → Among k (x ∷ xs)
        by true e = let l : Last k (x ∷ xs) x = last (eqb-true _ _ e) w in present (last_of l) l
        by false e = absent (past (eqb-false _ _ e) w)

-- an item replaces its own argument and changes no other
abbrev replaced : Args → Item → Args
replaced a x =
    record {
      dev = pick (eqb (slot x) dev_slot) (put no_args x).dev a.dev;
      inst = pick (eqb (slot x) inst_slot) (put no_args x).inst a.inst;
      group = pick (eqb (slot x) group_slot) (put no_args x).group a.group;
      kind = pick (eqb (slot x) type_slot) (put no_args x).kind a.kind;
      scope = pick (eqb (slot x) adapter_slot) (put no_args x).scope a.scope;
    }

put-replaced : (a : Args) (x : Item) → put a x ≡ replaced a x
unfolding put slot
put-replaced a (Item.Device d) = refl
put-replaced a (Item.Instance n) = refl
put-replaced a (Item.Group n i) = refl
put-replaced a (Item.Type n) = refl
put-replaced a (Item.Adapter n) = refl

-- what items leave in the field of the argument k
module _ {F : Type 0} (k : ℕ) (get : Args → F)
    (own : (a : Args) (x : Item) → get (replaced a x) ≡ pick (eqb (slot x) k) (get (put no_args x)) (get a)) where
  stored : (a : Args) (x : Item) → get (put a x) ≡ pick (eqb (slot x) k) (get (put no_args x)) (get a)
  stored a x = ap get (put-replaced a x) ∙ own a x

  pub without-left : {xs : List Item} (a : Args) → Without k xs → get (puts a xs) ≡ get a
  without-left a none = refl
  without-left a (past {x} n w) = without-left (put a x) w ∙ rw (stored, ne_eqb _ _ n)

  pub last-left : {xs : List Item} {x : Item} (a : Args) → Last k xs x → get (puts a xs) ≡ get (put no_args x)
  last-left a (last {x} e w) = without-left (put a x) w ∙ rw (stored a x, eq-eqb _ _ e)
  last-left a (later {y = y} l) = last-left (put a y) l

  -- what holds in both cases holds of the field
  pub left : (P : F → Type 0) (xs : List Item) → (Without k xs → P (get no_args)) →
      ((x : Item) → Of k x → Last k xs x → P (get (put no_args x))) → P (get (puts no_args xs))
  left P xs f g = by (among k xs)
    where
      by : Among k xs → P (get (puts no_args xs))
      by (absent w) = rw (without-left no_args w) (f w)
      by (present {x} o l) = rw (last-left no_args l) (g x o l)

-- Each field: that argument's last item, or nothing if there is none (X-left), and only that (X-is). Scoped and Typed of the grammar say
-- it of the adapter and the type.
pub data DevIn (xs : List Item) : Option NameOrId → Type 0 where
  no_dev : Without dev_slot xs → DevIn xs None
  dev : {d : NameOrId} → Last dev_slot xs (Item.Device d) → DevIn xs (Some d)

pub data InstIn (xs : List Item) : Option ℕ → Type 0 where
  no_inst : Without inst_slot xs → InstIn xs None
  inst : {n : ℕ} → Last inst_slot xs (Item.Instance n) → InstIn xs (Some n)

pub data GroupIn (xs : List Item) : Option (ℕ × ℕ) → Type 0 where
  no_group : Without group_slot xs → GroupIn xs None
  in_group : {g i : ℕ} → Last group_slot xs (Item.Group g i) → GroupIn xs (Some (g, i))

last-dev : {xs : List Item} (x : Item) → Of dev_slot x → Last dev_slot xs x → DevIn xs (put no_args x).dev
unfolding put
last-dev x device l = dev l

pub dev-left : (xs : List Item) → DevIn xs (puts no_args xs).dev
unfolding no_args
dev-left xs = left dev_slot (λ a. a.dev) (λ a x. refl) (DevIn xs) xs no_dev last-dev

pub dev-is : {xs : List Item} {v : Option NameOrId} → DevIn xs v → (puts no_args xs).dev ≡ v
unfolding no_args put
dev-is (no_dev w) = without-left dev_slot (λ a. a.dev) (λ a x. refl) no_args w
dev-is (dev l) = last-left dev_slot (λ a. a.dev) (λ a x. refl) no_args l

last-inst : {xs : List Item} (x : Item) → Of inst_slot x → Last inst_slot xs x → InstIn xs (put no_args x).inst
unfolding put
last-inst x number l = inst l

pub inst-left : (xs : List Item) → InstIn xs (puts no_args xs).inst
unfolding no_args
inst-left xs = left inst_slot (λ a. a.inst) (λ a x. refl) (InstIn xs) xs no_inst last-inst

pub inst-is : {xs : List Item} {v : Option ℕ} → InstIn xs v → (puts no_args xs).inst ≡ v
unfolding no_args put
inst-is (no_inst w) = without-left inst_slot (λ a. a.inst) (λ a x. refl) no_args w
inst-is (inst l) = last-left inst_slot (λ a. a.inst) (λ a x. refl) no_args l

last_group_lem : {xs : List Item} (x : Item) → Of group_slot x → Last group_slot xs x → GroupIn xs (put no_args x).group
unfolding put
last_group_lem x group l = in_group l

pub group-left : (xs : List Item) → GroupIn xs (puts no_args xs).group
unfolding no_args
group-left xs = left group_slot (λ a. a.group) (λ a x. refl) (GroupIn xs) xs no_group last_group_lem

pub group-is : {xs : List Item} {v : Option (ℕ × ℕ)} → GroupIn xs v → (puts no_args xs).group ≡ v
unfolding no_args put
group-is (no_group w) = without-left group_slot (λ a. a.group) (λ a x. refl) no_args w
group-is (in_group l) = last-left group_slot (λ a. a.group) (λ a x. refl) no_args l

last-type : {xs : List Item} (x : Item) → Of type_slot x → Last type_slot xs x → Typed xs (put no_args x).kind
unfolding put
last-type x type l = typed l

pub type-left : (xs : List Item) → Typed xs (puts no_args xs).kind
unfolding no_args
type-left xs = left type_slot (λ a. a.kind) (λ a x. refl) (Typed xs) xs untyped last-type

pub type-is : {xs : List Item} {v : Option ℕ} → Typed xs v → (puts no_args xs).kind ≡ v
unfolding no_args put
type-is (untyped w) = without-left type_slot (λ a. a.kind) (λ a x. refl) no_args w
type-is (typed l) = last-left type_slot (λ a. a.kind) (λ a x. refl) no_args l

last-scope : {xs : List Item} (x : Item) → Of adapter_slot x → Last adapter_slot xs x → Scoped xs (put no_args x).scope
unfolding put
last-scope x adapter l = somewhere l

pub scope-left : (xs : List Item) → Scoped xs (puts no_args xs).scope
unfolding no_args
scope-left xs = left adapter_slot (λ a. a.scope) (λ a x. refl) (Scoped xs) xs nowhere last-scope

pub scope-is : {xs : List Item} {v : Scope} → Scoped xs v → (puts no_args xs).scope ≡ v
unfolding no_args put
scope-is (nowhere w) = without-left adapter_slot (λ a. a.scope) (λ a x. refl) no_args w
scope-is (somewhere l) = last-left adapter_slot (λ a. a.scope) (λ a x. refl) no_args l
