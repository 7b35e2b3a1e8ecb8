-- A reference of the grammar is within its kind's range, by name or by number.
use Prim.Native.Nat.{ℕ, ◌≤◌}
use native.Mathlib.Omega.{arith}
use mathlib.Core.List.{List}
use Rattle.tokens.specs.Cursor.{Tok}
use Rattle.tokens.specs.Grammar.{UpTo, up_to}
use Rattle.model.specs.Limits.{last_adapter, last_instance, last_instance_group, last_instance_type}
use Rattle.model.specs.Ranges.{Each, RefInRange, LampInRange, GroupInRange, DeviceInRange, DevInRange, InputInRange, TypeInRange, SelectorInRange, TargetInRange}
use Rattle.sheet.specs.Kind.{lamp_kind, group_kind, device_kind, input_kind, most_of}
use Rattle.sheet.specs.View.{View}
use Rattle.sheet.proofs.RangeLaws.{ViewInRange, picked_in}
use Rattle.sheet.specs.declared.resolve.Scope.{Scope}
use Rattle.sheet.specs.declared.resolve.Scope.TheVariants.{Any, On}
use Rattle.references.specs.Grammar.{Adapter, Clause, Refers, Inside, R, Lamp, Group, Device, InputDevice, Target, TypeOf, Arg, ArgList, Last, Scoped, OnAdapter, Typed, Selects, ArgsOf, OneInstance}
use Rattle.references.specs.declared.refs.NameOrId.{NameOrId}
use Rattle.references.specs.declared.args.Item.{Item}
use Rattle.model.specs.declared.Ref.{Ref}
use Rattle.model.specs.declared.Selector.{Selector}
use Rattle.model.specs.declared.InputRef.{InputRef}
use Rattle.model.specs.declared.LightTarget.{LightTarget}
use Rattle.std.specs.Prelude.{Option}

pub up_to_in : {t : ℕ → Tok} {most i n j : ℕ} → UpTo t most i n j → n ≤ most
up_to_in (up_to h l) = l

-- an adapter that is written, and one argument
abbrev pub ScopeInRange : Scope → Type 0
ScopeInRange Any = Unit {0}
ScopeInRange (On a) = a ≤ last_adapter

abbrev ItemInRange : Item → Type 0
ItemInRange (Item.Device d) = Unit {0}
ItemInRange (Item.Instance n) = n ≤ last_instance
ItemInRange (Item.Group n i) = n ≤ last_instance_group
ItemInRange (Item.Type n) = n ≤ last_instance_type
ItemInRange (Item.Adapter a) = a ≤ last_adapter

adapter_in : {t : ℕ → Tok} {view : View} {i a j : ℕ} → Adapter t view i a j → a ≤ last_adapter
adapter_in (Adapter.adapter h l) = up_to_in h

pub clause_in : {t : ℕ → Tok} {view : View} {i j : ℕ} {scope : Scope} → Clause t view i scope j → ScopeInRange scope
clause_in Clause.no_clause = tt
clause_in (Clause.clause a b c h) = adapter_in h

type_in : {t : ℕ → Tok} {i n j : ℕ} → TypeOf t i n j → n ≤ last_instance_type
unfolding last_instance_type
type_in (TypeOf.number h) = up_to_in h
type_in (TypeOf.button h) = omega arith
type_in (TypeOf.absolute h) = omega arith
type_in (TypeOf.occupancy h) = omega arith
type_in (TypeOf.light h) = omega arith

arg_in : {t : ℕ → Tok} {view : View} {m i n j : ℕ} {x : Item} → Arg t view m i x n j → ItemInRange x
arg_in (Arg.dev w e h) = tt
arg_in (Arg.inst w e h) = up_to_in h
arg_in (Arg.group w e h) = up_to_in h
arg_in (Arg.type w e h) = type_in h
arg_in (Arg.adapter w e h) = adapter_in h
arg_in (Arg.first h) = tt
arg_in (Arg.second h) = up_to_in h

items_in : {t : ℕ → Tok} {view : View} {m i j : ℕ} {xs : List Item} → ArgList t view m i xs j → Each ItemInRange xs
items_in (ArgList.one h) = Each.more (arg_in h) Each.none
items_in (ArgList.more h c g) = Each.more (arg_in h) (items_in g)

last_in : {k : ℕ} {xs : List Item} {x : Item} → Each ItemInRange xs → Last k xs x → ItemInRange x
last_in Each.none l = elim l [ ]
last_in (Each.more p e) (Last.last q w) = p
last_in (Each.more p e) (Last.later l) = last_in e l

scoped_in : {xs : List Item} {scope : Scope} → Each ItemInRange xs → Scoped xs scope → ScopeInRange scope
scoped_in e (Scoped.nowhere w) = tt
scoped_in e (Scoped.somewhere l) = last_in e l

typed_in : {xs : List Item} {kind : Option ℕ} → Each ItemInRange xs → Typed xs kind → TypeInRange kind
unfolding TypeInRange
typed_in e (Typed.untyped w) = tt
typed_in e (Typed.typed l) = last_in e l

-- what a call sees is in range, and so is every reference with it
pub on_adapter_in : {view : View} {scope : Scope} {a : ℕ} → ViewInRange view → ScopeInRange scope → OnAdapter view scope a → a ≤ last_adapter
on_adapter_in sees s OnAdapter.primary = sees.primary
on_adapter_in sees s OnAdapter.given = s

module _ {t : ℕ → Tok} {view : View} (sees : ViewInRange view) where
  refers_in : (kind : ℕ) {d : NameOrId} {scope : Scope} {r : Ref} → ScopeInRange scope → Refers t view kind (most_of kind) d scope r →
      RefInRange (most_of kind) r
  refers_in kind s (Refers.row p) = picked_in sees.rows p
  refers_in kind s (Refers.on_primary l) = (sees.primary, l)
  refers_in kind s (Refers.on_adapter_rule l) = (s, l)

  inside_in : (kind : ℕ) {i j : ℕ} {r : Ref} → Inside t view kind (most_of kind) i r j → RefInRange (most_of kind) r
  inside_in kind (Inside.inside d c b h) = refers_in kind (clause_in c) h

  r_in : (kind : ℕ) {i j : ℕ} {r : Ref} → R t view kind (most_of kind) i r j → RefInRange (most_of kind) r
  r_in kind (R.r a h) = inside_in kind h

  pub lamp_in : {i j : ℕ} {r : Ref} → Lamp t view i r j → LampInRange r
  unfolding most_of
  lamp_in h = r_in lamp_kind h

  pub group_in : {i j : ℕ} {r : Ref} → Group t view i r j → GroupInRange r
  unfolding most_of
  group_in h = r_in group_kind h

  pub device_in : {i j : ℕ} {r : Ref} → Device t view i r j → DeviceInRange r
  unfolding most_of
  device_in h = r_in device_kind h

  pub input-device_in : {i j : ℕ} {r : Ref} → InputDevice t view i r j → DevInRange r
  unfolding most_of
  input-device_in (InputDevice.plain a h) = inside_in input_kind h
  input-device_in (InputDevice.with_dev_rule a w e h) = inside_in input_kind h

  pub target_in : {i j : ℕ} {target : LightTarget} → Target t view i target j → TargetInRange target
  unfolding TargetInRange
  target_in (Target.lamp w h) = lamp_in h
  target_in (Target.group w h) = group_in h
  target_in (Target.broadcast w may) = sees.primary

  selects_in : {xs : List Item} {s : Selector} → Each ItemInRange xs → Selects t view xs s → SelectorInRange s
  unfolding SelectorInRange most_of
  selects_in e (Selects.instance w d n s h) = (refers_in input_kind (scoped_in e s) h, last_in e n)
  selects_in e (Selects.instances g w v s a k) = (on_adapter_in sees (scoped_in e s) a, last_in e g, typed_in e k)

  pub args_in : {i j : ℕ} {s : Selector} → ArgsOf t view i s j → SelectorInRange s
  args_in (ArgsOf.args a h p b g) = selects_in (items_in h) g

  pub one_instance_in : {i j : ℕ} {r : InputRef} → OneInstance t view i r j → InputInRange r
  unfolding SelectorInRange
  one_instance_in (OneInstance.one_instance_rule h) = args_in h
