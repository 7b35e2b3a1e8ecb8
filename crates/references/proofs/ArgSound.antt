-- What the definitions of ARGS accept is a reading of the grammar.
use Prim.Native.Nat.{ℕ, zero, suc, ◌+◌}
use native.Mathlib.Omega.{arith}
use mathlib.Core.Path.{◌≡◌, refl}
use mathlib.Core.Bool.{Bool, true, false}
use mathlib.Core.List.{List}
use lib.Dec.{eqb, ltb}
use borrow.Author.Tests.{ne_eqb}
use Rattle.text.specs.Choice.{pick}
use Rattle.text.specs.Literal.{ascii}
use Rattle.text.specs.Part.{same_bytes}
use Rattle.text.proofs.PartLaws.{same-eq}
use Rattle.tokens.specs.Result.{Res, ok, no, bind, refuse}
use Rattle.tokens.specs.Cursor.{Tok, is_kind, take_kind, take_in}
use Rattle.model.specs.Limits.{last_short_address, last_instance, last_instance_group, last_instance_type}
use Rattle.sheet.specs.Kind.{input_kind}
use Rattle.sheet.specs.View.{View}
use Rattle.references.specs.Refs.{name_or_id, adapter_number, scope_or_primary, referred}
use Rattle.references.specs.Arguments.{no_slot, dev_slot, inst_slot, group_slot, type_slot, adapter_slot, no_type, push_button, absolute_input, occupancy_sensor, light_sensor}
use Rattle.references.specs.Args.{slot_of, is_named, key_slot, named_slot, unnamed_slot, slot_at, type_word, input_type_value, device_item, instance_item, group_item, type_item, adapter_item, item_at, is_repeat, put, no_args, arg_at, count_with, device_instance, with_inst, with_dev, is_dev, is_number, with_group, selected, close_args, input_selector, one_instance, input_ref}
use Rattle.tokens.specs.Grammar.{token, a_word}
use Rattle.references.specs.Grammar.{slot, TypeOf, number, button, absolute, occupancy, light, Arg, first, second, ArgList, one, more, Scoped, OnAdapter, primary, given, Typed, Selects, instance, instances, ArgsOf, args, OneInstance, one_instance_rule}
use Rattle.sheet.specs.declared.resolve.Scope.{Scope}
use Rattle.sheet.specs.declared.resolve.Scope.TheVariants.{Any, On}
use Rattle.model.specs.declared.Ref.{Ref}
use Rattle.references.specs.declared.refs.NameOrId.{NameOrId}
use Rattle.references.specs.declared.args.Item.{Item}
use Rattle.references.specs.declared.args.Args.{Args}
use Rattle.model.specs.declared.Selector.{Selector}
use Rattle.tokens.proofs.Okay.{Okay, bind_ok, pick-ok, perhaps-ok, mapped, both_true, token-kind, is_kind_lem, kind-sound, up_to-sound}
use Rattle.references.proofs.RefSound.{name_or_id-sound, adapter-sound, refers-sound}
use Rattle.references.proofs.RepeatLaws.{Fresh, fresh_end, fresh, fresh-allowed}
use Rattle.references.proofs.ItemLaws.{puts, put_all, items_from, args-items, DevIn, no_dev, dev, dev-left, InstIn, no_inst, inst, inst-left, GroupIn, no_group, in_group, group-left, type-left, scope-left}
use Rattle.std.specs.Prelude.{Option}

-- what a key and a type's word are
data Key : ℕ → List ℕ → Type 0 where
  other_key : {w : List ℕ} → Key 0 w
  key_dev : Key dev_slot (ascii "dev")
  key_inst : Key inst_slot (ascii "inst")
  key_group : Key group_slot (ascii "group")
  key_type : Key type_slot (ascii "type")
  key_adapter : Key adapter_slot (ascii "adapter")

data TypeWord : ℕ → List ℕ → Type 0 where
  other_type : {w : List ℕ} → TypeWord 0 w
  type_button : TypeWord push_button (ascii "button")
  type_absolute : TypeWord absolute_input (ascii "absolute")
  type_occupancy : TypeWord occupancy_sensor (ascii "occupancy")
  type_light : TypeWord light_sensor (ascii "light")

by_word : (P : ℕ → List ℕ → Type 0) (w v : List ℕ) (k n : ℕ) → P k v → P n w → P (pick (same_bytes w v) k n) w
by_word P w v k n h g = by (same_bytes w v) refl
  where
    by : (b : Bool) → same_bytes w v ≡ b → P (pick b k n) w
    by true e = rw (same-eq w v e) h
    by false e = g

key_of : (w : List ℕ) → Key (slot_of w) w
unfolding slot_of
key_of w =
    by_word Key w (ascii "dev") dev_slot _ key_dev
    (by_word Key w (ascii "inst") inst_slot _ key_inst
    (by_word Key w (ascii "group") group_slot _ key_group
    (by_word Key w (ascii "type") type_slot _ key_type (by_word Key w (ascii "adapter") adapter_slot no_slot key_adapter other_key))))

type_word-of : (w : List ℕ) → TypeWord (type_word w) w
unfolding type_word
type_word-of w =
    by_word TypeWord w (ascii "button") push_button _ type_button
    (by_word TypeWord w (ascii "absolute") absolute_input _ type_absolute
    (by_word TypeWord w (ascii "occupancy") occupancy_sensor _ type_occupancy (by_word TypeWord w (ascii "light") light_sensor no_type type_light other_type)))

type_word-sound : (t : ℕ → Tok) {i n : ℕ} {w : List ℕ} → (t i).kind ≡ 1 → (t i).bytes ≡ w → TypeWord n w →
    Okay (TypeOf t i) (pick (eqb n 0) (refuse 21 i) (ok n (i + 1)))
type_word-sound t p q other_type = tt
type_word-sound t p q type_button = button (a_word p q)
type_word-sound t p q type_absolute = absolute (a_word p q)
type_word-sound t p q type_occupancy = occupancy (a_word p q)
type_word-sound t p q type_light = light (a_word p q)

pub type-sound : (t : ℕ → Tok) (i : ℕ) → Okay (TypeOf t i) (input_type_value t i)
unfolding input_type_value
type-sound t i =
    let G = TypeOf t i in
    perhaps-ok G (is_kind t 1 i) i _ _
    (λ e. type_word-sound t (token-kind (is_kind_lem t 1 i e)) refl (type_word-of (t i).bytes))
    (λ e. mapped G (take_in t 0 last_instance_type i) (up_to-sound t last_instance_type i) (λ n j h. number h))

-- an instance group's adapter
on_adapter_rule : (view : View) (scope : Scope) → OnAdapter view scope (scope_or_primary view scope)
unfolding scope_or_primary
on_adapter_rule view Any = primary
on_adapter_rule view (On a) = given

-- what is read of the items that are put, for any form that goes on with it
put-ok : {P : List Item → ℕ → Type 0} {B : Type 0} (Q : B → ℕ → Type 0) (m : Res (List Item)) (f : Args → ℕ → Res B) → Okay P m →
    ((xs : List Item) (j : ℕ) → P xs j → Okay Q (f (puts no_args xs) j)) → Okay Q (bind (put_all no_args m) f)
put-ok Q (ok xs j) f h k = k xs j h
put-ok Q (no r) f h k = tt

module _ (t : ℕ → Tok) (view : View) where
  -- one argument behind those in a: a reading, and no repeat where none is allowed
  module _ (a : Args) where
    abbrev Read : ℕ → ℕ → ℕ → Item → ℕ → Type 0
    Read m i n x j = Arg t view m i x n j × (is_repeat view.repeats a (slot x) ≡ false)

    -- the value of an argument that is asked for repeats first
    abbrev asked : ℕ → ℕ → ℕ → Res Item
    asked i s j = pick (is_repeat view.repeats a s) (refuse 63 i) (item_at t view s j)

    not_set : (G : Item → ℕ → Type 0) (i s : ℕ) (x : Res Item) → (is_repeat view.repeats a s ≡ false → Okay G x) →
        Okay G (pick (is_repeat view.repeats a s) (refuse 63 i) x)
    not_set G i s x f = pick-ok G (is_repeat view.repeats a s) _ x (λ e. tt) f

    -- a named argument, by its key
    named-sound : (m : ℕ) {i s : ℕ} {w : List ℕ} → (t i).kind ≡ 1 → (t (i + 1)).kind ≡ 14 → (t i).bytes ≡ w → Key s w →
        Okay (Read m i m) (bind (pick (eqb s 0) (refuse 21 i) (ok s (i + 1 + 1))) (asked i))
    unfolding item_at device_item instance_item group_item type_item adapter_item slot
    named-sound m p r q other_key = tt
    named-sound m {i} p r q key_dev =
        not_set (Read m i m) i dev_slot (device_item t view (i + 1 + 1))
        (λ e.
        bind_ok _ (name_or_id t view (i + 1 + 1)) _ (name_or_id-sound t view (i + 1 + 1))
        (λ d j h. (Arg.dev (a_word p q) (token r) h, e)))
    named-sound m {i} p r q key_inst =
        not_set (Read m i m) i inst_slot (instance_item t (i + 1 + 1))
        (λ e.
        bind_ok _ (take_in t 0 last_instance (i + 1 + 1)) _ (up_to-sound t last_instance (i + 1 + 1))
        (λ n j h. (Arg.inst (a_word p q) (token r) h, e)))
    named-sound m {i} p r q key_group =
        not_set (Read m i m) i group_slot (group_item t (i + 1 + 1))
        (λ e.
        bind_ok _ (take_in t 0 last_instance_group (i + 1 + 1)) _ (up_to-sound t last_instance_group (i + 1 + 1))
        (λ n j h. (Arg.group (a_word p q) (token r) h, e)))
    named-sound m {i} p r q key_type =
        not_set (Read m i m) i type_slot (type_item t (i + 1 + 1))
        (λ e. bind_ok _ (input_type_value t (i + 1 + 1)) _ (type-sound t (i + 1 + 1)) (λ n j h. (Arg.type (a_word p q) (token r) h, e)))
    named-sound m {i} p r q key_adapter =
        not_set (Read m i m) i adapter_slot (adapter_item t view (i + 1 + 1))
        (λ e.
        bind_ok _ (adapter_number t view (i + 1 + 1)) _ (adapter-sound t view (i + 1 + 1))
        (λ n j h. (Arg.adapter (a_word p q) (token r) h, e)))

    -- an unnamed one behind m others
    unnamed-sound : (m i : ℕ) → Okay (Read m i (pick (ltb m 2) (m + 1) 2)) (bind (unnamed_slot m i) (asked i))
    unfolding unnamed_slot item_at device_item instance_item slot
    unnamed-sound zero i =
        not_set (Read 0 i 1) i dev_slot (device_item t view i)
        (λ e. bind_ok _ (name_or_id t view i) _ (name_or_id-sound t view i) (λ d j h. (first h, e)))
    unnamed-sound (suc zero) i =
        not_set (Read 1 i 2) i inst_slot (instance_item t i) (λ e. bind_ok _ (take_in t 0 last_instance i) _ (up_to-sound t last_instance i) (λ n j h. (second h, e)))
    unnamed-sound (suc (suc m)) i = rw (ne_eqb (suc (suc m)) 0 (λ e. omega arith), ne_eqb (suc (suc m)) 1 (λ e. omega arith)) tt

    -- a word and `=`, or not
    slot-sound : (m i : ℕ) (b : Bool) → is_named t i ≡ b →
        Okay (Read m i (pick b m (pick (ltb m 2) (m + 1) 2))) (bind (pick b (named_slot t i) (unnamed_slot m i)) (asked i))
    unfolding is_named named_slot take_kind key_slot
    slot-sound m i true e =
        let k = both_true (is_kind t 1 i) _ e in
        let word = token-kind (is_kind_lem t 1 i k.0) in
        let equals = token-kind (is_kind_lem t 14 (i + 1) k.1) in
        rw (k.0, k.1) (named-sound m word equals refl (key_of (t i).bytes))
    slot-sound m i false e = unnamed-sound m i

    -- with the number of unnamed ones that are there with it
    pub arg-sound : (m i : ℕ) → Okay (Read m i (count_with t m i)) (arg_at t view a m i)
    unfolding arg_at slot_at count_with
    arg-sound m i = slot-sound m i (is_named t i) refl

  pub items-sound : (fuel : ℕ) (a : Args) (m i : ℕ) →
      Okay (λ xs j. ArgList t view m i xs j × Fresh view.repeats a xs) (items_from t view fuel a m i)
  unfolding items_from
  items-sound zero a m i = tt
  items-sound (suc fuel) a m i =
      let G : List Item → ℕ → Type 0 = λ xs j. ArgList t view m i xs j × Fresh view.repeats a xs in
      bind_ok G (arg_at t view a m i) _ (arg-sound a m i)
      (λ x j h.
      perhaps-ok G (is_kind t 11 j) j _ _
      (λ e.
      bind_ok G (items_from t view fuel (put a x) (count_with t m i) (j + 1)) _ (items-sound fuel (put a x) (count_with t m i) (j + 1))
      (λ xs k g. (more h.0 (is_kind_lem t 11 j e) g.0, fresh h.1 g.1)))
      (λ e. (one h.0, fresh h.1 fresh_end)))

  -- what the items select, for any form that ends with it
  module _ (G : Selector → ℕ → Type 0) (xs : List Item) (close next : ℕ) (ends : (s : Selector) → Selects t view xs s → G s next) where
    -- fields that hold what the items say are judged as the grammar does
    judged : {d : Option NameOrId} {n : Option ℕ} {g : Option (ℕ × ℕ)} {k : Option ℕ} {s : Scope} →
        DevIn xs d → InstIn xs n → GroupIn xs g → Typed xs k → Scoped xs s →
        Okay G (selected t view (record { dev = d; inst = n; group = g; kind = k; scope = s }) close next)
    unfolding selected with_group with_dev with_inst device_instance is_dev is_number
    judged {s = s} (dev {d} l) (inst {n} m) (no_group w) k c =
        let With : Ref → ℕ → Type 0 = λ ref j. G (Selector.Instance ref n) j in
        bind_ok G (referred t view input_kind last_short_address s next d) _
        (refers-sound t view input_kind last_short_address With d s next (λ ref h. ends _ (instance w l m c h)))
        (λ ref j h. h)
    judged {s = s} (no_dev w) (no_inst v) (in_group l) k c = ends _ (instances l w v c (on_adapter_rule view s) k)
    judged (no_dev w) n (no_group v) k c = tt
    judged (dev l) (no_inst w) (no_group v) k c = tt
    judged (no_dev w) (inst m) (in_group l) k c = tt
    judged (dev d) n (in_group l) k c = tt

    pub selected-sound : Okay G (selected t view (puts no_args xs) close next)
    selected-sound = judged (dev-left xs) (inst-left xs) (group-left xs) (type-left xs) (scope-left xs)

  -- ARGS that are answered are a reading, whatever the fuel
  pub args-sound : (fuel i : ℕ) → Okay (ArgsOf t view i) (input_selector t view fuel i)
  unfolding input_selector close_args
  args-sound fuel i =
      let G = ArgsOf t view i in
      bind_ok G (take_kind t 7 i) _ (kind-sound t 7 i)
      (λ a j left.
      rw (args-items t view fuel no_args 0 j)
      (put-ok G (items_from t view fuel no_args 0 j) _ (items-sound fuel no_args 0 j)
      (λ xs k h.
      bind_ok G (take_kind t 8 k) _ (kind-sound t 8 k)
      (λ b l right. selected-sound G xs k l (λ s g. args left h.0 (fresh-allowed view.repeats h.1) right g)))))

  one-sound : {i j : ℕ} (s : Selector) → ArgsOf t view i s j → Okay (OneInstance t view i) (one_instance i j s)
  unfolding one_instance
  one-sound (Selector.Instance ref n) h = one_instance_rule h
  one-sound (Selector.Group a g k) h = tt

  -- one instance that is answered is a reading of ARGS with one
  pub one_instance-sound : (fuel i : ℕ) → Okay (OneInstance t view i) (input_ref t view fuel i)
  unfolding input_ref
  one_instance-sound fuel i =
      bind_ok (OneInstance t view i) (input_selector t view fuel i) _ (args-sound fuel i) (λ s j h. one-sound s h)
