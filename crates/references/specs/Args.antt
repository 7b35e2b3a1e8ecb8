-- ARGS: `(` arguments parted by commas `)` (document 01, "Grammar", and questions 21, 22, 25 to 30; document 02 §11, 63).
use Rattle.std.specs.Prelude.{ℕ, zero, suc, ◌+◌, List, Bool, true, false, ltb, eqb, Option, Some, None}
use Rattle.text.specs.Choice.{pick}
use Rattle.text.specs.Literal.{ascii}
use Rattle.text.specs.Part.{same_bytes}
use Rattle.tokens.specs.Result.{Res, ok, bind, perhaps, refuse}
use Rattle.tokens.specs.Kind.{WORD, OPEN, CLOSE, COMMA, ASSIGN}
use Rattle.tokens.specs.Cursor.{Tok, is_kind, take_kind, take_in}
use Rattle.model.specs.Limits.{last_short_address, last_instance, last_instance_group, last_instance_type}
use Rattle.sheet.specs.Kind.{input_kind}
use Rattle.sheet.specs.View.{View}
use Rattle.references.specs.Arguments.{no_slot, dev_slot, inst_slot, group_slot, type_slot, adapter_slot, no_type, push_button, absolute_input, occupancy_sensor, light_sensor}
use Rattle.references.specs.Refs.{name_or_id, adapter_number, scope_or_primary, referred}
use Rattle.sheet.specs.declared.resolve.Scope.{Scope}
use Rattle.sheet.specs.declared.resolve.Scope.TheVariants.{Any, On}
use Rattle.references.specs.declared.refs.NameOrId.{NameOrId}
use Rattle.model.specs.declared.InputRef.{InputRef}
use Rattle.references.specs.declared.args.Item.{Item}
use Rattle.references.specs.declared.args.Args.{Args}
use Rattle.model.specs.declared.Selector.{Selector}

-- which argument a key names
unfoldable pub slot_of : List ℕ → ℕ
slot_of w =
    pick (same_bytes w (ascii "dev")) dev_slot
    (pick (same_bytes w (ascii "inst")) inst_slot
    (pick (same_bytes w (ascii "group")) group_slot
    (pick (same_bytes w (ascii "type")) type_slot
    (pick (same_bytes w (ascii "adapter")) adapter_slot no_slot))))

-- a word and `=`: a named argument
unfoldable pub is_named : (ℕ → Tok) → ℕ → Bool
is_named t i = pick (is_kind t WORD i) (is_kind t ASSIGN (i + 1)) false

-- "Unnamed ones are dev, then inst, counted among unnamed ones only"; a third: 26, before its token is judged. An unknown key: 21.
-- The value is the argument's slot, and its value begins at the index behind it.
unfoldable pub key_slot : (ℕ → Tok) → ℕ → ℕ → Res ℕ
key_slot t i j = pick (eqb (slot_of (t i).bytes) no_slot) (refuse 21 i) (ok (slot_of (t i).bytes) j)

unfoldable pub named_slot : (ℕ → Tok) → ℕ → Res ℕ
named_slot t i = bind (take_kind t WORD i) (λ a j. bind (take_kind t ASSIGN j) (λ b k. key_slot t i k))

unfoldable pub unnamed_slot : ℕ → ℕ → Res ℕ
unnamed_slot count i = pick (eqb count 0) (ok dev_slot i) (pick (eqb count 1) (ok inst_slot i) (refuse 26 i))

unfoldable pub slot_at : (ℕ → Tok) → ℕ → ℕ → Res ℕ
slot_at t count i = pick (is_named t i) (named_slot t i) (unnamed_slot count i)

-- "type=0..31 or button 1, absolute 2, occupancy 3, light 4"; another word: 21
unfoldable pub type_word : List ℕ → ℕ
type_word w =
    pick (same_bytes w (ascii "button")) push_button
    (pick (same_bytes w (ascii "absolute")) absolute_input
    (pick (same_bytes w (ascii "occupancy")) occupancy_sensor
    (pick (same_bytes w (ascii "light")) light_sensor no_type)))

unfoldable pub input_type_value : (ℕ → Tok) → ℕ → Res ℕ
input_type_value t i =
    perhaps (is_kind t WORD i) i
    (λ j. pick (eqb (type_word (t i).bytes) no_type) (refuse 21 i) (ok (type_word (t i).bytes) j))
    (take_in t 0 last_instance_type i)

-- the value of an argument, judged as it is read but for dev
unfoldable pub device_item : (ℕ → Tok) → View → ℕ → Res Item
device_item t view i = bind (name_or_id t view i) (λ d j. ok (Item.Device d) j)

unfoldable pub instance_item : (ℕ → Tok) → ℕ → Res Item
instance_item t i = bind (take_in t 0 last_instance i) (λ n j. ok (Item.Instance n) j)

unfoldable pub group_item : (ℕ → Tok) → ℕ → Res Item
group_item t i = bind (take_in t 0 last_instance_group i) (λ n j. ok (Item.Group n i) j)

unfoldable pub type_item : (ℕ → Tok) → ℕ → Res Item
type_item t i = bind (input_type_value t i) (λ n j. ok (Item.Type n) j)

unfoldable pub adapter_item : (ℕ → Tok) → View → ℕ → Res Item
adapter_item t view i = bind (adapter_number t view i) (λ a j. ok (Item.Adapter a) j)

unfoldable pub item_at : (ℕ → Tok) → View → ℕ → ℕ → Res Item
item_at t view slot i =
    pick (eqb slot dev_slot) (device_item t view i)
    (pick (eqb slot inst_slot) (instance_item t i)
    (pick (eqb slot group_slot) (group_item t i)
    (pick (eqb slot type_slot) (type_item t i) (adapter_item t view i))))

-- whether there is one
unfoldable pub is_dev : Option NameOrId → Bool
is_dev None = false
is_dev (Some d) = true

unfoldable pub is_number : Option ℕ → Bool
is_number None = false
is_number (Some n) = true

unfoldable pub is_group : Option (ℕ × ℕ) → Bool
is_group None = false
is_group (Some (n, i)) = true

unfoldable pub is_on : Scope → Bool
is_on Any = false
is_on (On a) = true

-- the argument of that slot is there already
unfoldable pub is_set : Args → ℕ → Bool
is_set a slot =
    pick (eqb slot dev_slot) (is_dev a.dev)
    (pick (eqb slot inst_slot) (is_number a.inst)
    (pick (eqb slot group_slot) (is_group a.group)
    (pick (eqb slot type_slot) (is_number a.kind) (pick (eqb slot adapter_slot) (is_on a.scope) false))))

-- it is, and may not be repeated
unfoldable pub is_repeat : Bool → Args → ℕ → Bool
is_repeat repeats a slot = pick repeats false (is_set a slot)

-- "A repeated argument replaces the earlier one", where it may be repeated.
unfoldable pub put : Args → Item → Args
put a (Item.Device d) =
    record { dev = Some d; inst = a.inst; group = a.group; kind = a.kind; scope = a.scope }
put a (Item.Instance n) =
    record { dev = a.dev; inst = Some n; group = a.group; kind = a.kind; scope = a.scope }
put a (Item.Group n i) =
    record { dev = a.dev; inst = a.inst; group = Some (n, i); kind = a.kind; scope = a.scope }
put a (Item.Type n) =
    record { dev = a.dev; inst = a.inst; group = a.group; kind = Some n; scope = a.scope }
put a (Item.Adapter n) =
    record { dev = a.dev; inst = a.inst; group = a.group; kind = a.kind; scope = On n }

unfoldable pub no_args : Args
no_args = record { dev = None; inst = None; group = None; kind = None; scope = Any }

-- one argument behind those in a, of which count are unnamed. Document 02: "It refuses an argument that sets one already set, named or not,
-- with 63 at its first token, whichever stands there or at the end, before its value is read but after 26."
unfoldable pub arg_at : (ℕ → Tok) → View → Args → ℕ → ℕ → Res Item
arg_at t view a count i =
    bind (slot_at t count i) (λ slot j. pick (is_repeat view.repeats a slot) (refuse 63 i) (item_at t view slot j))

-- how many unnamed ones there are with the one at i; two and more are alike
unfoldable pub count_with : (ℕ → Tok) → ℕ → ℕ → ℕ
count_with t count i = pick (is_named t i) count (pick (ltb count 2) (count + 1) 2)

-- the arguments from i on, put to those in a; fuel bounds their number, and as much of it as there are tokens never runs out
-- (proofs/FuelLaws.antt)
unfoldable pub args_from : (ℕ → Tok) → View → ℕ → Args → ℕ → ℕ → Res Args
args_from t view zero a count i = refuse 20 i
args_from t view (suc fuel) a count i =
    bind (arg_at t view a count i)
    (λ item j.
    perhaps (is_kind t COMMA j) j (λ k. args_from t view fuel (put a item) (count_with t count i) k) (ok (put a item) j))

-- a device's instance: the device is looked up, or held to its range, last
unfoldable pub device_instance : (ℕ → Tok) → View → Scope → ℕ → NameOrId → ℕ → Res Selector
device_instance t view scope next d n =
    bind (referred t view input_kind last_short_address scope next d) (λ r j. ok (Selector.Instance r n) j)

-- "Inst there? 29, at `)`."
unfoldable pub with_inst : (ℕ → Tok) → View → Scope → ℕ → ℕ → NameOrId → Option ℕ → Res Selector
with_inst t view scope close next d None = refuse 29 close
with_inst t view scope close next d (Some n) = device_instance t view scope next d n

-- "Dev or group there? 28, at `)`."
unfoldable pub with_dev : (ℕ → Tok) → View → Args → ℕ → ℕ → Option NameOrId → Res Selector
with_dev t view a close next None = refuse 28 close
with_dev t view a close next (Some d) = with_inst t view a.scope close next d a.inst

-- "Group without dev and inst? 27, at the last group number." "Type counts only with group."
unfoldable pub with_group : (ℕ → Tok) → View → Args → ℕ → ℕ → Option (ℕ × ℕ) → Res Selector
with_group t view a close next None = with_dev t view a close next a.dev
with_group t view a close next (Some (g, i)) =
    pick (is_dev a.dev) (refuse 27 i)
    (pick (is_number a.inst) (refuse 27 i)
    (ok (Selector.Group (scope_or_primary view a.scope) g a.kind) next))

-- the arguments judged: close is the index of `)`, next the one behind it
unfoldable pub selected : (ℕ → Tok) → View → Args → ℕ → ℕ → Res Selector
selected t view a close next = with_group t view a close next a.group

-- ARGS, of at most fuel arguments
unfoldable pub close_args : (ℕ → Tok) → View → Args → ℕ → Res Selector
close_args t view a i = bind (take_kind t CLOSE i) (λ b j. selected t view a i j)

unfoldable pub input_selector : (ℕ → Tok) → View → ℕ → ℕ → Res Selector
input_selector t view fuel i =
    bind (take_kind t OPEN i) (λ a j. bind (args_from t view fuel no_args 0 j) (λ args k. close_args t view args k))

-- "One instance where the form needs one? 30, at `(`."
unfoldable pub one_instance : ℕ → ℕ → Selector → Res InputRef
one_instance paren next (Selector.Instance r n) = ok (record { device = r; instance = n }) next
one_instance paren next (Selector.Group a g k) = refuse 30 paren

unfoldable pub input_ref : (ℕ → Tok) → View → ℕ → ℕ → Res InputRef
input_ref t view fuel i = bind (input_selector t view fuel i) (λ s j. one_instance i j s)
