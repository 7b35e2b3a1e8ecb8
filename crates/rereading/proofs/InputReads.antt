-- The arguments of `input(` as they are written, all named and none twice, are read as what they select.
use Rattle.std.specs.Prelude.{Option, Some, None}
use Prim.Native.Nat.{ℕ, ◌≤◌}
use mathlib.Core.Path.{◌≡◌, refl}
use mathlib.Core.Bool.{Bool, true, false, not}
use mathlib.Core.List.{List, [], ◌∷◌, ◌++◌}
use lib.Dec.{leb, eqb}
use borrow.Author.Tests.{leb-true, eqb-false, not-true}
use Rattle.text.specs.Choice.{pick}
use Rattle.text.specs.Literal.{ascii}
use Rattle.text.proofs.Tests.{both}
use Rattle.tokens.specs.Cursor.{Tok}
use Rattle.tokens.specs.Grammar.{up_to}
use Rattle.model.specs.Limits.{last_adapter, last_short_address, last_instance, last_instance_group}
use Rattle.model.specs.declared.Ref.{Ref}
use Rattle.model.specs.declared.InputRef.{InputRef}
use Rattle.model.specs.declared.Selector.{Selector}
use Rattle.sheet.specs.View.{View}
use Rattle.sheet.specs.declared.resolve.Scope.{Scope}
use Rattle.references.specs.declared.refs.NameOrId.{NameOrId}
use Rattle.references.specs.declared.args.Item.{Item}
use Rattle.references.specs.Grammar.{id, Clause, no_clause, clause, OnAdapter, primary, given, TypeOf, Arg, dev, inst, ArgList, one, more, slot, Without, none, past, Different, nothing, apart, different, last, later, nowhere, somewhere, untyped, typed, Selects, instance, instances, ArgsOf, args, OneInstance, one_instance_rule}
use Rattle.writing.specs.Write.{argument, adapter_pieces, type_pieces, instance_pieces, selector_pieces}
use Rattle.writing.specs.Possible.{possible_ref, possible_input, possible_type, possible_selector}
use Rattle.writing.specs.Reached.{is_reached, reached_selector}
use Rattle.rereading.proofs.Stands.{token_of, Stands}
use Rattle.rereading.proofs.StandsLaws.{head, rest, parted, parted-first, token-read}
use Rattle.rereading.proofs.ReferenceReads.{adapter-few, number-few, argument-word, argument-assign, argument-number, clause-read, id-refers}

-- ---- which items there are, by tests

is_without : ℕ → List Item → Bool
is_without k [] = true
is_without k (x ∷ xs) = pick (not (eqb (slot x) k)) (is_without k xs) false

without : (k : ℕ) (xs : List Item) → is_without k xs ≡ true → Without k xs
unfolding is_without
without k [] e = none
without k (x ∷ xs) e =
    let (a, b) = both (not (eqb (slot x) k)) e in past (eqb-false (slot x) k (not-true (eqb (slot x) k) a)) (without k xs b)

are_different : List Item → Bool
are_different [] = true
are_different (x ∷ xs) = pick (is_without (slot x) xs) (are_different xs) false

differ : (xs : List Item) → are_different xs ≡ true → Different xs
unfolding are_different
differ [] e = nothing
differ (x ∷ xs) e = let (a, b) = both (is_without (slot x) xs) e in apart (without (slot x) xs a) (differ xs b)

-- the items of an adapter and of a type
abbrev scope_items : Scope → List Item
scope_items Scope.Any = []
scope_items (Scope.On a) = Item.Adapter a ∷ []

abbrev type_items : Option ℕ → List Item
type_items None = []
type_items (Some n) = Item.Type n ∷ []

abbrev instance_items : NameOrId → ℕ → Scope → List Item
instance_items d n scope = Item.Device d ∷ Item.Instance n ∷ scope_items scope

abbrev group_items : ℕ → ℕ → Option ℕ → Scope → List Item
group_items g i kind scope = Item.Group g i ∷ type_items kind ++ scope_items scope

instance-differ : (d : NameOrId) (n : ℕ) (scope : Scope) → Different (instance_items d n scope)
unfolding are_different is_without slot
instance-differ d n Scope.Any = differ _ refl
instance-differ d n (Scope.On a) = differ _ refl

group-differ : (g i : ℕ) (kind : Option ℕ) (scope : Scope) → Different (group_items g i kind scope)
unfolding are_different is_without slot
group-differ g i None Scope.Any = differ _ refl
group-differ g i None (Scope.On a) = differ _ refl
group-differ g i (Some n) Scope.Any = differ _ refl
group-differ g i (Some n) (Scope.On a) = differ _ refl

module _ {t : ℕ → Tok} {view : View} where
  instance-selects : {n m i a : ℕ} {scope : Scope} → OnAdapter view scope a → n ≤ last_short_address →
      Selects t view (instance_items (NameOrId.Id n i) m scope) (Selector.Instance (record { adapter = a; number = n }) m)
  unfolding is_without slot
  instance-selects primary few =
      instance (without _ _ refl) (last refl (without _ _ refl)) (later (last refl none)) (nowhere (without _ _ refl)) (id-refers primary few)
  instance-selects given few =
      instance (without _ _ refl) (last refl (without _ _ refl)) (later (last refl (without _ _ refl))) (somewhere (later (later (last refl none))))
      (id-refers given few)

  group-selects : (g i : ℕ) (kind : Option ℕ) {a : ℕ} {scope : Scope} → OnAdapter view scope a →
      Selects t view (group_items g i kind scope) (Selector.Group a g kind)
  unfolding is_without slot
  group-selects g i None primary =
      instances (last refl none) (without _ _ refl) (without _ _ refl) (nowhere (without _ _ refl)) primary (untyped (without _ _ refl))
  group-selects g i None given =
      instances (last refl (without _ _ refl)) (without _ _ refl) (without _ _ refl) (somewhere (later (last refl none))) given
      (untyped (without _ _ refl))
  group-selects g i (Some n) primary =
      instances (last refl (without _ _ refl)) (without _ _ refl) (without _ _ refl) (nowhere (without _ _ refl)) primary
      (typed (later (last refl none)))
  group-selects g i (Some n) given =
      instances (last refl (without _ _ refl)) (without _ _ refl) (without _ _ refl) (somewhere (later (later (last refl none)))) given
      (typed (later (last refl (without _ _ refl))))

  -- ---- the arguments, one by one

  -- the last but for the adapter
  last-arg : {m i n j k : ℕ} {x : Item} {scope : Scope} → Arg t view m i x n j → Clause t view j scope k →
      ArgList t view m i (x ∷ scope_items scope) k
  last-arg x no_clause = one x
  last-arg x (clause c w e a) = more x c (one (Arg.adapter w e a))

  -- a group, and its type if it has one
  group-args : {m i n j k l : ℕ} {x : Item} {scope : Scope} (kind : Option ℕ) → possible_type kind ≡ true → Arg t view m i x n j →
      Stands t j (type_pieces kind) k → Clause t view k scope l → ArgList t view m i (x ∷ type_items kind ++ scope_items scope) l
  unfolding possible_type type_pieces token_of
  group-args None p x Stands.none c = last-arg x c
  group-args (Some n) p x s c =
      let type = TypeOf.number (up_to (argument-number (rest s)) (leb-true _ _ p)) in
      more x (token-read (head s)) (last-arg (Arg.type (argument-word (rest s)) (argument-assign (rest s)) type) c)

module _ {t : ℕ → Tok} {view : View} (any : (i : ℕ) → view.allows i ≡ true) where
  instance-args : (x : Ref) (n : ℕ) {i j : ℕ} → possible_ref last_short_address x ≡ true → n ≤ last_instance →
      is_reached view x.adapter ≡ true → Stands t i (instance_pieces view.primary x n) j → ArgsOf t view i (Selector.Instance x n) j
  unfolding instance_pieces token_of
  instance-args x n possible few reached s =
      let (k, device, behind) = parted (argument (ascii "dev") x.number) _ (rest s) in
      let (l, number, behind-both) = parted (argument (ascii "inst") n) _ (rest behind) in
      let (m, adapter, close) = parted (adapter_pieces view.primary x.adapter) _ behind-both in
      let scope = clause-read x.adapter (adapter-few last_short_address x possible) reached adapter in
      let first = dev (argument-word device) (argument-assign device) (id (argument-number device) (any _)) in
      let second = inst (argument-word number) (argument-assign number) (up_to (argument-number number) few) in
      args (token-read (head s)) (more first (token-read (head behind)) (last-arg second scope.reads))
      (different (instance-differ _ n scope.scope)) (token-read close)
      (instance-selects scope.comes_to (number-few last_short_address x possible))

  pub selector-read : (x : Selector) {i j : ℕ} → possible_selector x ≡ true → reached_selector view x ≡ true →
      Stands t i (selector_pieces view.primary x) j → ArgsOf t view i x j
  unfolding possible_selector reached_selector selector_pieces token_of
  selector-read (Selector.Instance x n) p h s =
      let (possible, few) = both (possible_ref last_short_address x) p in instance-args x n possible (leb-true _ _ few) h s
  selector-read (Selector.Group a g kind) p h s =
      let (listed, q) = both (leb a last_adapter) p in
      let (few, possible) = both (leb g last_instance_group) q in
      let (k, group, behind) = parted (argument (ascii "group") g) _ (rest s) in
      let (l, type, behind-both) = parted-first (type_pieces kind) _ _ behind in
      let (m, adapter, close) = parted (adapter_pieces view.primary a) _ behind-both in
      let scope = clause-read a (leb-true _ _ listed) h adapter in
      let first = Arg.group (argument-word group) (argument-assign group) (up_to (argument-number group) (leb-true _ _ few)) in
      args (token-read (head s)) (group-args kind possible first type scope.reads) (different (group-differ g _ kind scope.scope))
      (token-read close) (group-selects g _ kind scope.comes_to)

  -- one instance
  pub input-read : (x : InputRef) {i j : ℕ} → possible_input x ≡ true → is_reached view x.device.adapter ≡ true →
      Stands t i (instance_pieces view.primary x.device x.instance) j → OneInstance t view i x j
  unfolding possible_input
  input-read x p h s =
      let (possible, few) = both (possible_ref last_short_address x.device) p in
      one_instance_rule (instance-args x.device x.instance possible (leb-true _ _ few) h s)
