-- Every refusal has one of the parser's numbers (`is_refusal`): one rule for each way in which a definition is built, and what a search with these
-- rules shows of references and ARGS.
use Prim.Native.Nat.{ℕ, zero, suc, ◌+◌, ◌≤◌}
use mathlib.Core.Path.{◌≡◌, refl}
use mathlib.Core.Bool.{Bool, true, false}
use mathlib.Core.List.{List, [], ◌∷◌}
use native.Mathlib.Omega.{arith}
use lib.Dec.{leb}
use borrow.Author.Tests.{leb-true, le-leb, lt-leb, ne_eqb}
use Rattle.text.specs.Choice.{pick, within}
use Rattle.tokens.specs.declared.cursor.Refusal.{Refusal}
use Rattle.tokens.specs.Result.{Res, ok, no, bind, perhaps}
use Rattle.tokens.specs.Buffer.{is_asked_first}
use Rattle.tokens.specs.Cursor.{Tok, take_kind, take_word, take_in}
use Rattle.sheet.specs.Sheet.{Entry}
use Rattle.sheet.specs.View.{View}
use Rattle.sheet.specs.Resolve.{none_of, chosen, pick_named, elsewhere}
use Rattle.references.specs.Refs.{checked_name, closed_name, quoted_name, name_or_id, adapter_number, adapter_assign, adapter_clause, found_at, referred, close_r, open_r, reference, lamp_ref, group_ref, device_ref, dev_name, input_device_ref, lamp_target, group_target, broadcast_target, light_target}
use Rattle.references.specs.Args.{key_slot, named_slot, unnamed_slot, slot_at, input_type_value, device_item, instance_item, group_item, type_item, adapter_item, item_at, arg_at, args_from, device_instance, with_inst, with_dev, with_group, selected, close_args, input_selector, one_instance, input_ref}
use Rattle.sheet.specs.declared.resolve.Scope.{Scope}
use Rattle.references.specs.declared.refs.NameOrId.{NameOrId}
use Rattle.references.specs.declared.refs.NameOrId.TheVariants.{Name, Id}
use Rattle.references.specs.declared.args.Args.{Args}
use Rattle.model.specs.declared.Selector.{Selector}
use Rattle.tokens.proofs.Okay.{both_true}
use Rattle.std.specs.Prelude.{Option, Some, None}

-- the numbers with which a rule is refused: 20 to 41, and of document 02 50, a word that is no day, 57 to 59, the shop profile's, 63, a repeated
-- argument, and 64 to 66, which are about topics
abbrev pub is_refusal : ℕ → Bool
is_refusal n = pick (within 20 41 n) true (pick (within 50 50 n) true (pick (within 57 59 n) true (within 63 66 n)))

-- a refusal, if it is one, has one of these numbers
unfoldable pub Refuses : {A : Type 0} → Res A → Type 0
Refuses (ok a j) = Unit {0}
Refuses (no r) = is_refusal r.number ≡ true

either_true : (x y : Bool) (P : Type 0) → (x ≡ true → P) → (y ≡ true → P) → pick x true y ≡ true → P
either_true true y P f g e = f refl
either_true false y P f g e = g e

-- what is true of each of these numbers
record Late (n : ℕ) : Type 0 where
  least : 20 ≤ n
  most : n ≤ 66
  no_primary : n ≡ 53 → ⊥

in_range : (low high n : ℕ) → 20 ≤ low → high ≤ 66 → (low ≤ 53 → 53 ≤ high → ⊥) → within low high n ≡ true → Late n
in_range low high n l m none e =
    let b = both_true (leb low n) _ e in
    let p = leb-true low n b.0 in
    let q = leb-true n high b.1 in
    record { least = omega arith; most = omega arith; no_primary = λ z. none (omega arith) (omega arith) }

late : (n : ℕ) → is_refusal n ≡ true → Late n
late n =
    either_true (within 20 41 n) _ (Late n) (in_range 20 41 n (omega arith) (omega arith) (λ p q. omega arith))
    (either_true (within 50 50 n) _ (Late n) (in_range 50 50 n (omega arith) (omega arith) (λ p q. omega arith))
    (either_true (within 57 59 n) _ (Late n) (in_range 57 59 n (omega arith) (omega arith) (λ p q. omega arith))
    (in_range 63 66 n (omega arith) (omega arith) (λ p q. omega arith))))

-- each is 20 or more: none is a question that is put before the parser's
pub refusal-least : (n : ℕ) → is_refusal n ≡ true → 20 ≤ n
refusal-least n e = (late n e).least

pub refusal-most : (n : ℕ) → is_refusal n ≡ true → n ≤ 66
refusal-most n e = (late n e).most

-- and none is one that is asked before the text is lexed
pub refusal-late : (n : ℕ) → is_refusal n ≡ true → is_asked_first n ≡ false
refusal-late n e =
    let h = late n e in
    rw (le-leb 1 n (omega (arith, h.least)), lt-leb n 4 (omega (arith, h.least)), ne_eqb n 53 h.no_primary)

pub ok-refuses : {A : Type 0} (a : A) (j : ℕ) → Refuses (ok a j)
unfolding Refuses
ok-refuses a j = tt

-- the test of a literal number is shown by `refl`
pub no-refuses : (A : Type 0) (r : Refusal) → is_refusal r.number ≡ true → Refuses {A = A} (no r)
unfolding Refuses
no-refuses A r e = e

pub bind-refuses : {A B : Type 0} (m : Res A) (f : A → ℕ → Res B) → Refuses m → ((a : A) (j : ℕ) → Refuses (f a j)) → Refuses (bind m f)
unfolding Refuses
bind-refuses (ok a j) f h k = k a j
bind-refuses (no r) f h k = h

pub pick-refuses : {A : Type 0} (b : Bool) (x y : Res A) → Refuses x → Refuses y → Refuses (pick b x y)
pick-refuses true x y h k = h
pick-refuses false x y h k = k

pub perhaps-refuses : {A : Type 0} (b : Bool) (i : ℕ) (f : ℕ → Res A) (other : Res A) → Refuses (f (i + 1)) → Refuses other →
    Refuses (perhaps b i f other)
perhaps-refuses true i f other h k = h
perhaps-refuses false i f other h k = k

-- the ways in which a definition is built
pub ruleset parts = (ok-refuses, no-refuses, bind-refuses, pick-refuses, perhaps-refuses)

pub kind-refuses : (t : ℕ → Tok) (kind i : ℕ) → Refuses (take_kind t kind i)
unfolding take_kind
kind-refuses t kind i = search parts

pub word-refuses : (t : ℕ → Tok) (word : List ℕ) (i : ℕ) → Refuses (take_word t word i)
unfolding take_word
word-refuses t word i = search parts

pub in_refuses : (t : ℕ → Tok) (low high i : ℕ) → Refuses (take_in t low high i)
unfolding take_in
in_refuses t low high i = search (parts, kind-refuses)

-- those, and the steps over tokens
pub ruleset numbers = (parts, kind-refuses, word-refuses, in_refuses)

-- a name that is looked up: 31 to 34
found-refuses : (i j : ℕ) (all some : List Entry) → Refuses (found_at i j (chosen all some))
unfolding found_at chosen none_of
found-refuses i j [] [] = search parts
found-refuses i j (e ∷ es) [] = search parts
found-refuses i j all (e ∷ []) = search parts
found-refuses i j all (e ∷ f ∷ es) = no-refuses _ _ (two (elsewhere e.adapter (f ∷ es)))
  where
    two : (b : Bool) → is_refusal (pick b 34 33) ≡ true
    two true = refl
    two false = refl

module _ (t : ℕ → Tok) where
  name-refuses : (i : ℕ) → Refuses (checked_name t i)
  unfolding checked_name
  name-refuses i = search numbers

  pub quoted-refuses : (i : ℕ) → Refuses (quoted_name t i)
  unfolding quoted_name closed_name
  quoted-refuses i = search (numbers, name-refuses)

  name_or_id-refuses : (view : View) (i : ℕ) → Refuses (name_or_id t view i)
  unfolding name_or_id
  name_or_id-refuses view i = search (numbers, name-refuses)

module _ (t : ℕ → Tok) (view : View) where
  adapter-refuses : (i : ℕ) → Refuses (adapter_number t view i)
  unfolding adapter_number
  adapter-refuses i = search numbers

  pub clause-refuses : (i : ℕ) → Refuses (adapter_clause t view i)
  unfolding adapter_clause adapter_assign
  clause-refuses i = search (numbers, adapter-refuses)

  referred-refuses : (kind most : ℕ) (scope : Scope) (j : ℕ) (target : NameOrId) → Refuses (referred t view kind most scope j target)
  unfolding referred pick_named
  referred-refuses kind most scope j (Name i) = found-refuses i j _ _
  referred-refuses kind most scope j (Id n i) = search numbers

  inside-refuses : (kind most i : ℕ) → Refuses (open_r t view kind most i)
  unfolding open_r close_r
  inside-refuses kind most i = search (numbers, name_or_id-refuses, clause-refuses, referred-refuses)

  ref_refuses : (kind most i : ℕ) → Refuses (reference t view kind most i)
  unfolding reference
  ref_refuses kind most i = search (numbers, inside-refuses)

  pub lamp-refuses : (i : ℕ) → Refuses (lamp_ref t view i)
  unfolding lamp_ref
  lamp-refuses i = search ref_refuses

  pub group-refuses : (i : ℕ) → Refuses (group_ref t view i)
  unfolding group_ref
  group-refuses i = search ref_refuses

  pub device-refuses : (i : ℕ) → Refuses (device_ref t view i)
  unfolding device_ref
  device-refuses i = search ref_refuses

  pub input-device-refuses : (i : ℕ) → Refuses (input_device_ref t view i)
  unfolding input_device_ref dev_name
  input-device-refuses i = search (numbers, inside-refuses)

  pub target-refuses : (i : ℕ) → Refuses (light_target t view i)
  unfolding light_target lamp_target group_target broadcast_target
  target-refuses i = search (numbers, lamp-refuses, group-refuses)

  -- one argument
  arg-refuses : (a : Args) (count i : ℕ) → Refuses (arg_at t view a count i)
  unfolding arg_at slot_at named_slot key_slot unnamed_slot item_at device_item instance_item group_item type_item input_type_value adapter_item
  arg-refuses a count i = search (numbers, name_or_id-refuses, adapter-refuses) depth 12

  args-refuses : (fuel : ℕ) (a : Args) (count i : ℕ) → Refuses (args_from t view fuel a count i)
  unfolding args_from
  args-refuses zero a count i = search numbers
  args-refuses (suc fuel) a count i = search (numbers, arg-refuses, args-refuses fuel)

  -- the arguments judged
  inst-refuses : (scope : Scope) (close next : ℕ) (d : NameOrId) (n : Option ℕ) → Refuses (with_inst t view scope close next d n)
  unfolding with_inst device_instance
  inst-refuses scope close next d None = search numbers
  inst-refuses scope close next d (Some n) = search (numbers, referred-refuses)

  dev-refuses : (a : Args) (close next : ℕ) (d : Option NameOrId) → Refuses (with_dev t view a close next d)
  unfolding with_dev
  dev-refuses a close next None = search numbers
  dev-refuses a close next (Some d) = search inst-refuses

  with_group-refuses : (a : Args) (close next : ℕ) (g : Option (ℕ × ℕ)) → Refuses (with_group t view a close next g)
  unfolding with_group
  with_group-refuses a close next None = search dev-refuses
  with_group-refuses a close next (Some (g, i)) = search numbers

  pub selector-refuses : (fuel i : ℕ) → Refuses (input_selector t view fuel i)
  unfolding input_selector close_args selected
  selector-refuses fuel i = search (numbers, args-refuses, with_group-refuses)

pub one-refuses : (paren next : ℕ) (s : Selector) → Refuses (one_instance paren next s)
unfolding one_instance
one-refuses paren next (Selector.Instance r n) = search numbers
one-refuses paren next (Selector.Group a g k) = search numbers

pub input-refuses : (t : ℕ → Tok) (view : View) (fuel i : ℕ) → Refuses (input_ref t view fuel i)
unfolding input_ref
input-refuses t view fuel i = search (numbers, selector-refuses, one-refuses)

-- those, and what a rule has of references
pub ruleset refusals = (
  numbers,
  quoted-refuses,
  clause-refuses,
  lamp-refuses,
  group-refuses,
  device-refuses,
  input-device-refuses,
  target-refuses,
  selector-refuses,
  one-refuses,
  input-refuses,
)
