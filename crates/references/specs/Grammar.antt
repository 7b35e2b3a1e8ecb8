-- The grammar of references (document 01, "Grammar"): which readings the tokens t have with what is seen of the sheet. `Form t … i v j`: the tokens
-- from i up to j read as v. No rule mentions a function of the reader or a definition of what is answered (Refs.antt, Args.antt); names and
-- ids, adapters and arguments have the types that the reader has for them.
use Rattle.std.specs.Prelude.{ℕ, ◌≤◌, ◌≡◌, Bool, true, List, [], ◌∷◌, length, Option, Some, None}
use Rattle.text.specs.Literal.{ascii}
use Rattle.tokens.specs.Kind.{STRING, INTEGER, OPEN, CLOSE, COMMA, ASSIGN}
use Rattle.tokens.specs.Cursor.{Tok}
use Rattle.tokens.specs.Grammar.{Token, Word, UpTo}
use Rattle.model.specs.Limits.{last_short_address, last_group, last_instance, last_instance_group, last_instance_type, last_adapter, longest_name}
use Rattle.sheet.specs.Kind.{lamp_kind, group_kind, device_kind, input_kind}
use Rattle.references.specs.Arguments.{dev_slot, inst_slot, group_slot, type_slot, adapter_slot, push_button, absolute_input, occupancy_sensor, light_sensor}
use Rattle.sheet.specs.Sheet.{Entry}
use Rattle.sheet.specs.View.{View}
use Rattle.sheet.specs.Picks.{Picks}
use Rattle.sheet.specs.declared.resolve.Scope.{Scope}
use Rattle.sheet.specs.declared.resolve.Scope.TheVariants.{Any, On}
use Rattle.model.specs.declared.Ref.{Ref}
use Rattle.references.specs.declared.refs.NameOrId.{NameOrId}
use Rattle.references.specs.declared.refs.NameOrId.TheVariants.{Name, Id}
use Rattle.model.specs.declared.LightTarget.{LightTarget}
use Rattle.references.specs.declared.args.Item.{Item}
use Rattle.model.specs.declared.Selector.{Selector}
use Rattle.model.specs.declared.InputRef.{InputRef}

-- a quoted name of 1 to 48 bytes
pub data Quoted (t : ℕ → Tok) : ℕ → ℕ → Type 0 where
  quoted : {i n j : ℕ} → Token t STRING i n j → 1 ≤ length (t i).bytes → length (t i).bytes ≤ longest_name → Quoted t i j

-- Q is `(` quoted name `)`, not looked up; its value is the index of the name
pub data Q (t : ℕ → Tok) : ℕ → ℕ → ℕ → Type 0 where
  q : {i a j k b l : ℕ} → Token t OPEN i a j → Quoted t j k → Token t CLOSE k b l → Q t i j l

-- a name, or an id where one may stand
pub data NameOrIdOf (t : ℕ → Tok) (view : View) : ℕ → NameOrId → ℕ → Type 0 where
  name : {i j : ℕ} → Quoted t i j → NameOrIdOf t view i (Name i) j
  id : {i n j : ℕ} → Token t INTEGER i n j → view.allows i ≡ true → NameOrIdOf t view i (Id n i) j

-- A, a listed adapter
pub data Adapter (t : ℕ → Tok) (view : View) : ℕ → ℕ → ℕ → Type 0 where
  adapter : {i a j : ℕ} → UpTo t last_adapter i a j → view.listed a ≡ true → Adapter t view i a j

-- perhaps `, adapter = A`
pub data Clause (t : ℕ → Tok) (view : View) : ℕ → Scope → ℕ → Type 0 where
  no_clause : {i : ℕ} → Clause t view i Any i
  clause : {i a j k b l c m : ℕ} → Token t COMMA i a j → Word t (ascii "adapter") j k → Token t ASSIGN k b l → Adapter t view l c m →
      Clause t view i (On c) m

-- what a name or an id refers to: the one row in scope, or the id on the adapter in its parentheses or on the primary
pub data Refers (t : ℕ → Tok) (view : View) (kind most : ℕ) : NameOrId → Scope → Ref → Type 0 where
  row : {i : ℕ} {scope : Scope} {e : Entry} → Picks kind (t i).bytes scope view.rows e →
      Refers t view kind most (Name i) scope (record { adapter = e.adapter; number = e.number })
  on_primary : {n i : ℕ} → n ≤ most → Refers t view kind most (Id n i) Any (record { adapter = view.primary; number = n })
  on_adapter_rule : {n i a : ℕ} → n ≤ most → Refers t view kind most (Id n i) (On a) (record { adapter = a; number = n })

-- name or id, perhaps `, adapter = A` `)`
pub data Inside (t : ℕ → Tok) (view : View) (kind most : ℕ) : ℕ → Ref → ℕ → Type 0 where
  inside : {i j k b l : ℕ} {target : NameOrId} {scope : Scope} {r : Ref} → NameOrIdOf t view i target j → Clause t view j scope k →
      Token t CLOSE k b l → Refers t view kind most target scope r → Inside t view kind most i r l

-- R is `(` name or id, perhaps `, adapter = A` `)`
pub data R (t : ℕ → Tok) (view : View) (kind most : ℕ) : ℕ → Ref → ℕ → Type 0 where
  r : {i a j k : ℕ} {ref : Ref} → Token t OPEN i a j → Inside t view kind most j ref k → R t view kind most i ref k

abbrev pub Lamp : (ℕ → Tok) → View → ℕ → Ref → ℕ → Type 0
Lamp t view i ref j = R t view lamp_kind last_short_address i ref j

abbrev pub Group : (ℕ → Tok) → View → ℕ → Ref → ℕ → Type 0
Group t view i ref j = R t view group_kind last_group i ref j

abbrev pub Device : (ℕ → Tok) → View → ℕ → Ref → ℕ → Type 0
Device t view i ref j = R t view device_kind last_short_address i ref j

-- `(` perhaps `dev =` DEV, perhaps `, adapter = A` `)`
pub data InputDevice (t : ℕ → Tok) (view : View) : ℕ → Ref → ℕ → Type 0 where
  plain : {i a j k : ℕ} {ref : Ref} → Token t OPEN i a j → Inside t view input_kind last_short_address j ref k → InputDevice t view i ref k
  with_dev_rule : {i a j k b l m : ℕ} {ref : Ref} → Token t OPEN i a j → Word t (ascii "dev") j k → Token t ASSIGN k b l →
      Inside t view input_kind last_short_address l ref m → InputDevice t view i ref m

-- TARGET is lamp R, group R or broadcast (primary), where that may stand
pub data Target (t : ℕ → Tok) (view : View) : ℕ → LightTarget → ℕ → Type 0 where
  lamp : {i j k : ℕ} {ref : Ref} → Word t (ascii "lamp") i j → Lamp t view j ref k → Target t view i (LightTarget.Lamp ref) k
  group : {i j k : ℕ} {ref : Ref} → Word t (ascii "group") i j → Group t view j ref k → Target t view i (LightTarget.Group ref) k
  broadcast : {i j : ℕ} → Word t (ascii "broadcast") i j → view.allows i ≡ true → Target t view i (LightTarget.Broadcast view.primary) j

-- 0 to 31, or button 1, absolute 2, occupancy 3, light 4
pub data TypeOf (t : ℕ → Tok) : ℕ → ℕ → ℕ → Type 0 where
  number : {i n j : ℕ} → UpTo t last_instance_type i n j → TypeOf t i n j
  button : {i j : ℕ} → Word t (ascii "button") i j → TypeOf t i push_button j
  absolute : {i j : ℕ} → Word t (ascii "absolute") i j → TypeOf t i absolute_input j
  occupancy : {i j : ℕ} → Word t (ascii "occupancy") i j → TypeOf t i occupancy_sensor j
  light : {i j : ℕ} → Word t (ascii "light") i j → TypeOf t i light_sensor j

-- one argument behind m unnamed ones; n unnamed ones are there with it. Unnamed ones are dev, then inst.
pub data Arg (t : ℕ → Tok) (view : View) : ℕ → ℕ → Item → ℕ → ℕ → Type 0 where
  dev : {m i j a k l : ℕ} {d : NameOrId} → Word t (ascii "dev") i j → Token t ASSIGN j a k → NameOrIdOf t view k d l →
      Arg t view m i (Item.Device d) m l
  inst : {m i j a k n l : ℕ} → Word t (ascii "inst") i j → Token t ASSIGN j a k → UpTo t last_instance k n l →
      Arg t view m i (Item.Instance n) m l
  group : {m i j a k n l : ℕ} → Word t (ascii "group") i j → Token t ASSIGN j a k → UpTo t last_instance_group k n l →
      Arg t view m i (Item.Group n k) m l
  type : {m i j a k n l : ℕ} → Word t (ascii "type") i j → Token t ASSIGN j a k → TypeOf t k n l →
      Arg t view m i (Item.Type n) m l
  adapter : {m i j a k n l : ℕ} → Word t (ascii "adapter") i j → Token t ASSIGN j a k → Adapter t view k n l →
      Arg t view m i (Item.Adapter n) m l
  first : {i j : ℕ} {d : NameOrId} → NameOrIdOf t view i d j → Arg t view 0 i (Item.Device d) 1 j
  second : {i n j : ℕ} → UpTo t last_instance i n j → Arg t view 1 i (Item.Instance n) 2 j

-- arguments parted by commas
pub data ArgList (t : ℕ → Tok) (view : View) : ℕ → ℕ → List Item → ℕ → Type 0 where
  one : {m i n j : ℕ} {x : Item} → Arg t view m i x n j → ArgList t view m i (x ∷ []) j
  more : {m i n j a k l : ℕ} {x : Item} {xs : List Item} → Arg t view m i x n j → Token t COMMA j a k → ArgList t view n k xs l →
      ArgList t view m i (x ∷ xs) l

-- which argument an item is
unfoldable pub slot : Item → ℕ
slot (Item.Device d) = dev_slot
slot (Item.Instance n) = inst_slot
slot (Item.Group n i) = group_slot
slot (Item.Type n) = type_slot
slot (Item.Adapter a) = adapter_slot

-- none of the items is that argument
pub data Without (k : ℕ) : List Item → Type 0 where
  none : Without k []
  past : {x : Item} {xs : List Item} → (slot x ≡ k → ⊥) → Without k xs → Without k (x ∷ xs)

-- no two of the items are the same argument
pub data Different : List Item → Type 0 where
  nothing : Different []
  apart : {x : Item} {xs : List Item} → Without (slot x) xs → Different xs → Different (x ∷ xs)

-- document 02: "By default a repeat is now turned away; the archive loader keeps a call with the old habit, unchanged. The grammar states
-- both": repeats are allowed, or there is none
pub data Allowed : Bool → List Item → Type 0 where
  repeated : {xs : List Item} → Allowed true xs
  different : {repeats : Bool} {xs : List Item} → Different xs → Allowed repeats xs

-- x is the last of the items that is that argument: "a repeated argument replaces the earlier one"
pub data Last (k : ℕ) : List Item → Item → Type 0 where
  last : {x : Item} {xs : List Item} → slot x ≡ k → Without k xs → Last k (x ∷ xs) x
  later : {x y : Item} {xs : List Item} → Last k xs x → Last k (y ∷ xs) x

-- the adapter among the items
pub data Scoped : List Item → Scope → Type 0 where
  nowhere : {xs : List Item} → Without adapter_slot xs → Scoped xs Any
  somewhere : {xs : List Item} {a : ℕ} → Last adapter_slot xs (Item.Adapter a) → Scoped xs (On a)

-- an instance group without an adapter takes the primary
pub data OnAdapter (view : View) : Scope → ℕ → Type 0 where
  primary : OnAdapter view Any view.primary
  given : {a : ℕ} → OnAdapter view (On a) a

-- the type among the items
pub data Typed : List Item → Option ℕ → Type 0 where
  untyped : {xs : List Item} → Without type_slot xs → Typed xs None
  typed : {xs : List Item} {n : ℕ} → Last type_slot xs (Item.Type n) → Typed xs (Some n)

-- what the items select: an instance of a device, or an instance group, of which type counts only with group
pub data Selects (t : ℕ → Tok) (view : View) : List Item → Selector → Type 0 where
  instance : {xs : List Item} {d : NameOrId} {n : ℕ} {scope : Scope} {ref : Ref} → Without group_slot xs → Last dev_slot xs (Item.Device d) →
      Last inst_slot xs (Item.Instance n) → Scoped xs scope → Refers t view input_kind last_short_address d scope ref →
      Selects t view xs (Selector.Instance ref n)
  instances : {xs : List Item} {g i a : ℕ} {scope : Scope} {kind : Option ℕ} → Last group_slot xs (Item.Group g i) → Without dev_slot xs → Without inst_slot xs →
      Scoped xs scope → OnAdapter view scope a → Typed xs kind → Selects t view xs (Selector.Group a g kind)

-- ARGS is `(` arguments parted by commas `)`
pub data ArgsOf (t : ℕ → Tok) (view : View) : ℕ → Selector → ℕ → Type 0 where
  args : {i a j k b l : ℕ} {xs : List Item} {s : Selector} → Token t OPEN i a j → ArgList t view 0 j xs k →
      Allowed view.repeats xs → Token t CLOSE k b l → Selects t view xs s → ArgsOf t view i s l

-- ARGS with one instance
pub data OneInstance (t : ℕ → Tok) (view : View) : ℕ → InputRef → ℕ → Type 0 where
  one_instance_rule : {i n j : ℕ} {ref : Ref} → ArgsOf t view i (Selector.Instance ref n) j →
      OneInstance t view i (record { device = ref; instance = n }) j
