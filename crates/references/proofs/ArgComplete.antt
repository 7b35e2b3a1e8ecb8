-- A reading of ARGS by the grammar is what the definitions accept, if the fuel reaches as far as the tokens.
use Prim.Native.Nat.{ℕ, zero, suc, ◌+◌, ◌<◌, ◌≤◌}
use native.Mathlib.Omega.{arith}
use mathlib.Core.Path.{◌≡◌, refl}
use mathlib.Core.Bool.{false}
use mathlib.Core.List.{List}
use lib.ListN.{length}
use lib.Dec.{eqb}
use borrow.Author.Tests.{ne_eqb}
use Rattle.text.specs.Part.{same_bytes}
use Rattle.tokens.specs.Record.{capacity}
use Rattle.tokens.specs.Result.{ok}
use Rattle.tokens.specs.Cursor.{Tok, tokens, take_kind}
use Rattle.tokens.proofs.CursorLaws.{no_kind_lem}
use Rattle.sheet.specs.View.{View}
use Rattle.references.specs.Refs.{scope_or_primary}
use Rattle.references.specs.Arguments.{no_slot, dev_slot, inst_slot}
use Rattle.references.specs.Args.{slot_of, is_named, key_slot, named_slot, unnamed_slot, slot_at, type_word, input_type_value, device_item, instance_item, group_item, type_item, adapter_item, item_at, is_repeat, put, no_args, arg_at, count_with, device_instance, with_inst, with_dev, is_dev, is_number, with_group, selected, close_args, input_selector, one_instance, input_ref}
use Rattle.tokens.specs.Grammar.{Token, token, Word, a_word, UpTo, up_to}
use Rattle.references.specs.Grammar.{slot, quoted, NameOrIdOf, name, id, Adapter, TypeOf, number, button, absolute, occupancy, light, Arg, first, second, ArgList, one, more, OnAdapter, primary, given, Selects, instance, instances, ArgsOf, args, OneInstance, one_instance_rule}
use Rattle.sheet.specs.declared.resolve.Scope.{Scope}
use Rattle.references.specs.declared.refs.NameOrId.{NameOrId}
use Rattle.references.specs.declared.args.Item.{Item}
use Rattle.model.specs.declared.Selector.{Selector}
use Rattle.model.specs.declared.InputRef.{InputRef}
use Rattle.tokens.proofs.Okay.{token-kind, stands-before, not-kind, kind-yes, kind-no, kind-complete, up_to-complete}
use Rattle.references.proofs.RefComplete.{name_or_id-complete, adapter-complete, refers-complete}
use Rattle.references.specs.declared.args.Args.{Args}
use Rattle.references.proofs.RepeatLaws.{Fresh, fresh_end, fresh, allowed-fresh}
use Rattle.references.proofs.ItemLaws.{puts, items_from, args-items, no_dev, dev, dev-is, no_inst, inst, inst-is, no_group, in_group, group-is, type-is, scope-is}

-- each part takes a token at least
token-next : {t : ℕ → Tok} {kind i n j : ℕ} → Token t kind i n j → i < j
token-next (token p) = omega arith

word_next : {t : ℕ → Tok} {word : List ℕ} {i j : ℕ} → Word t word i j → i < j
word_next (a_word p q) = omega arith

up_to-next : {t : ℕ → Tok} {most i n j : ℕ} → UpTo t most i n j → i < j
up_to-next (up_to h l) = token-next h

name_or_id-next : {t : ℕ → Tok} {view : View} {i j : ℕ} {d : NameOrId} → NameOrIdOf t view i d j → i < j
name_or_id-next (name (quoted h a b)) = token-next h
name_or_id-next (id h may) = token-next h

adapter-next : {t : ℕ → Tok} {view : View} {i a j : ℕ} → Adapter t view i a j → i < j
adapter-next (Adapter.adapter h l) = up_to-next h

type-next : {t : ℕ → Tok} {i n j : ℕ} → TypeOf t i n j → i < j
type-next (number h) = up_to-next h
type-next (button h) = word_next h
type-next (absolute h) = word_next h
type-next (occupancy h) = word_next h
type-next (light h) = word_next h

pub type-complete : {t : ℕ → Tok} {i n j : ℕ} → TypeOf t i n j → input_type_value t i ≡ ok n j
unfolding input_type_value type_word same_bytes
type-complete {t} (number (up_to (token {i} p) l)) = rw (kind-no t 1 i (not-kind t 1 refl p)) (up_to-complete t (up_to (token p) l))
type-complete {t} (button (a_word p q)) = rw (kind-yes t refl p, q)
type-complete {t} (absolute (a_word p q)) = rw (kind-yes t refl p, q)
type-complete {t} (occupancy (a_word p q)) = rw (kind-yes t refl p, q)
type-complete {t} (light (a_word p q)) = rw (kind-yes t refl p, q)

-- an argument's slot and where its value begins, with the number of unnamed ones
record Slot (t : ℕ → Tok) (m i slot n k : ℕ) : Type 0 where
  answered : slot_at t m i ≡ ok slot k
  counted : count_with t m i ≡ n
  behind : i ≤ k

-- a key: its slot, and no unnamed argument more
key_slot_lem : {t : ℕ → Tok} {m i a j k : ℕ} {w : List ℕ} → Word t w i j → Token t 14 j a k → (slot_of w ≡ no_slot → ⊥) → Slot t m i (slot_of w) m k
unfolding slot_at is_named named_slot take_kind key_slot count_with
key_slot_lem {t} {w = w} (a_word p q) (token r) n =
    record {
      answered = simp (kind-yes t refl p, kind-yes t refl r, q, ne_eqb (slot_of w) 0 n);
      counted = simp (kind-yes t refl p, kind-yes t refl r);
      behind = omega arith;
    }

-- no key: the first and the second unnamed argument
unnamed : (t : ℕ → Tok) {i kind : ℕ} → eqb kind 1 ≡ false → (t i).kind ≡ kind → is_named t i ≡ false
unfolding is_named
unnamed t {i} e p = rw (kind-no t 1 i (not-kind t 1 e p))

first_slot : {t : ℕ → Tok} {view : View} {i j : ℕ} {d : NameOrId} → NameOrIdOf t view i d j → Slot t 0 i dev_slot 1 i
unfolding slot_at unnamed_slot count_with
first_slot {t} {view} {i} h = record { answered = rw (not_named h); counted = rw (not_named h); behind = omega arith }
  where
    not_named : {j : ℕ} {d : NameOrId} → NameOrIdOf t view i d j → is_named t i ≡ false
    not_named (name (quoted (token p) a b)) = unnamed t refl p
    not_named (id (token p) may) = unnamed t refl p

second-slot : {t : ℕ → Tok} {most i n j : ℕ} → UpTo t most i n j → Slot t 1 i inst_slot 2 i
unfolding slot_at unnamed_slot count_with
second-slot {t} (up_to (token p) l) =
    record { answered = rw (unnamed t refl p); counted = rw (unnamed t refl p); behind = omega arith }

-- an argument at a slot, no repeat, read from k on
at_slot : {t : ℕ → Tok} (view : View) (a : Args) {m i s n k l : ℕ} {x : Item} → is_repeat view.repeats a s ≡ false → Slot t m i s n k →
    item_at t view s k ≡ ok x l → k < l → (arg_at t view a m i ≡ ok x l) × (count_with t m i ≡ n) × (i < l)
unfolding arg_at
at_slot view a f s e h = (rw (s.answered, f) e, s.counted, let p = s.behind in omega arith)

-- one argument, the number of unnamed ones with it, and that it takes a token
pub arg-complete : {t : ℕ → Tok} {view : View} {m i n j : ℕ} {x : Item} (a : Args) → is_repeat view.repeats a (slot x) ≡ false →
    Arg t view m i x n j → (arg_at t view a m i ≡ ok x j) × (count_with t m i ≡ n) × (i < j)
unfolding slot_of same_bytes item_at device_item instance_item group_item type_item adapter_item slot
arg-complete {view = view} a f (Arg.dev w e h) = at_slot view a f (key_slot_lem w e (λ z. omega arith)) (rw (name_or_id-complete h)) (name_or_id-next h)
arg-complete {t} {view} a f (Arg.inst w e h) = at_slot view a f (key_slot_lem w e (λ z. omega arith)) (rw (up_to-complete t h)) (up_to-next h)
arg-complete {t} {view} a f (Arg.group w e h) = at_slot view a f (key_slot_lem w e (λ z. omega arith)) (rw (up_to-complete t h)) (up_to-next h)
arg-complete {view = view} a f (Arg.type w e h) = at_slot view a f (key_slot_lem w e (λ z. omega arith)) (rw (type-complete h)) (type-next h)
arg-complete {view = view} a f (Arg.adapter w e h) = at_slot view a f (key_slot_lem w e (λ z. omega arith)) (rw (adapter-complete h)) (adapter-next h)
arg-complete {view = view} a f (first h) = at_slot view a f (first_slot h) (rw (name_or_id-complete h)) (name_or_id-next h)
arg-complete {t} {view} a f (second h) = at_slot view a f (second-slot h) (rw (up_to-complete t h)) (up_to-next h)

-- the list ends before a token that is no comma
pub items-complete : {t : ℕ → Tok} {view : View} {m i j : ℕ} {xs : List Item} (fuel : ℕ) (a : Args) → length xs ≤ fuel → ((t j).kind ≡ 11 → ⊥) →
    Fresh view.repeats a xs → ArgList t view m i xs j → items_from t view fuel a m i ≡ ok xs j
unfolding items_from
items-complete zero a l n f (one h) = absurd (omega arith)
items-complete zero a l n f (more h c g) = absurd (omega arith)
items-complete (suc fuel) a l n fresh_end h = elim h [ ]
items-complete {t} {j = j} (suc fuel) a l n (fresh f fs) (one h) = let p = arg-complete a f h in rw (p.0, kind-no t 11 j n)
items-complete {t} {m = m} (suc fuel) a l n (fresh {x = x} f fs) (more {n = n'} h (token p) g) =
    let q = arg-complete a f h in
    rw (q.0, kind-yes t refl p, q.1, items-complete {m = n'} fuel (put a x) (omega arith) n fs g)

items-next : {t : ℕ → Tok} {view : View} {a : Args} {m i j : ℕ} {xs : List Item} → Fresh view.repeats a xs → ArgList t view m i xs j →
    i + length xs ≤ j
items-next fresh_end h = elim h [ ]
items-next {a = a} (fresh f fs) (one h) = let p = arg-complete a f h in omega arith
items-next {a = a} (fresh f fs) (more h c g) = let p = arg-complete a f h in omega (arith, token-next c, items-next fs g)

-- an instance group's adapter
adapter-is : {view : View} {scope : Scope} {a : ℕ} → OnAdapter view scope a → scope_or_primary view scope ≡ a
unfolding scope_or_primary
adapter-is primary = refl
adapter-is given = refl

pub selected-complete : {t : ℕ → Tok} {view : View} {xs : List Item} {s : Selector} (close next : ℕ) → Selects t view xs s →
    selected t view (puts no_args xs) close next ≡ ok s next
unfolding selected with_group with_dev with_inst device_instance is_dev is_number
selected-complete close next (instance w l m c r) =
    rw (group-is (no_group w), dev-is (dev l), inst-is (inst m), scope-is c, refers-complete next r)
selected-complete close next (instances l w v c a k) =
    rw (group-is (in_group l), dev-is (no_dev w), inst-is (no_inst v), scope-is c, adapter-is a, type-is k)

-- past the records there is no token: their number is fuel enough
pub no_token_rule : (text words : List ℕ) (k : ℕ) → capacity words ≤ k → (tokens text words k).kind ≡ 0
unfolding tokens
no_token_rule text words k h = no_kind_lem words k h

-- a reading of ARGS is answered, with as much fuel as there are tokens
pub args-complete : {t : ℕ → Tok} {view : View} {fuel i j : ℕ} {s : Selector} → ((k : ℕ) → fuel ≤ k → (t k).kind ≡ 0) →
    ArgsOf t view i s j → input_selector t view fuel i ≡ ok s j
unfolding input_selector close_args
args-complete {t} {view} {fuel} end (args {j = j} {k = k} {l = l} {xs = xs} left h allowed right g) =
    let new = allowed-fresh view.repeats allowed in
    let few : length xs ≤ fuel = omega (arith, items-next new h, stands-before t end (λ e. omega arith) (token-kind right)) in
    let behind : (t k).kind ≡ 11 → ⊥ = not-kind t 11 refl (token-kind right) in
    rw (kind-complete t refl left, args-items t view fuel no_args 0 j, items-complete fuel no_args few behind new h)
    (rw (kind-complete t refl right) (selected-complete k l g))

-- and so is one instance
pub one_instance-complete : {t : ℕ → Tok} {view : View} {fuel i j : ℕ} {r : InputRef} → ((k : ℕ) → fuel ≤ k → (t k).kind ≡ 0) →
    OneInstance t view i r j → input_ref t view fuel i ≡ ok r j
unfolding input_ref one_instance
one_instance-complete end (one_instance_rule h) = rw (args-complete end h)
