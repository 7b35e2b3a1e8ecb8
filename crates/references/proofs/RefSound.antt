-- What the definitions of references accept is a reading of the grammar.
use Prim.Native.Nat.{ℕ, ◌+◌, ◌≤◌}
use native.Mathlib.Omega.{arith}
use mathlib.Core.Path.{◌≡◌, refl}
use lib.ListN.{length}
use lib.Dec.{ltb, leb, eqb}
use borrow.Author.Tests.{ltb-false, leb-true, eqb-false}
use Rattle.text.specs.Literal.{ascii}
use Rattle.tokens.specs.Cursor.{Tok, is_kind, is_word, take_kind, take_word, take_in}
use Rattle.model.specs.Limits.{last_short_address, last_group, last_adapter, longest_name}
use Rattle.sheet.specs.Kind.{lamp_kind, group_kind, device_kind, input_kind}
use Rattle.sheet.specs.Sheet.{Entry}
use Rattle.sheet.specs.View.{View}
use Rattle.sheet.specs.Picks.{Picks}
use Rattle.sheet.specs.Resolve.{pick_named}
use Rattle.references.specs.Refs.{checked_name, closed_name, quoted_name, name_or_id, adapter_number, adapter_assign, adapter_clause, scope_or_primary, found_at, referred, close_r, open_r, reference, lamp_ref, group_ref, device_ref, dev_name, input_device_ref, lamp_target, group_target, broadcast_target, light_target}
use Rattle.tokens.specs.Grammar.{Token, Word}
use Rattle.references.specs.Grammar.{Quoted, quoted, Q, q, NameOrIdOf, name, id, Adapter, Clause, no_clause, clause, Refers, row, on_primary, on_adapter_rule, Inside, inside, R, r, Lamp, Group, Device, InputDevice, plain, with_dev_rule, Target, lamp, broadcast}
use Rattle.sheet.specs.declared.resolve.Scope.{Scope}
use Rattle.sheet.specs.declared.resolve.Scope.TheVariants.{Any, On}
use Rattle.sheet.specs.declared.resolve.Unfound.{Unfound}
use Rattle.model.specs.declared.Ref.{Ref}
use Rattle.references.specs.declared.refs.NameOrId.{NameOrId}
use Rattle.references.specs.declared.refs.NameOrId.TheVariants.{Name, Id}
use Rattle.sheet.proofs.ResolveLaws.{picks-sound}
use Rattle.tokens.proofs.Okay.{Okay, bind_ok, pick-ok, perhaps-ok, mapped, is_kind_lem, is_word_lem, kind-sound, word_sound, up_to-sound}
use Rattle.std.specs.Prelude.{Result, Ok, Err}

-- a name of 1 to 48 bytes; the value is the token's number, which no form uses
pub checked_name-sound : (t : ℕ → Tok) (i : ℕ) → Okay (λ n j. Quoted t i j) (checked_name t i)
unfolding checked_name
checked_name-sound t i =
    let G : ℕ → ℕ → Type 0 = λ n j. Quoted t i j in
    let size = length (t i).bytes in
    bind_ok G (take_kind t 2 i) _ (kind-sound t 2 i)
    (λ n j h.
    pick-ok G (eqb size 0) _ _ (λ e. tt)
    (λ some.
    pick-ok G (ltb longest_name size) _ _ (λ e. tt)
    (λ few. quoted h (not-zero size (eqb-false _ _ some)) (ltb-false _ _ few))))
  where
    not-zero : (n : ℕ) → (n ≡ 0 → ⊥) → 1 ≤ n
    not-zero n h = omega arith

pub quoted-sound : (t : ℕ → Tok) (i : ℕ) → Okay (λ n j. Q t i n j) (quoted_name t i)
unfolding quoted_name closed_name
quoted-sound t i =
    let G : ℕ → ℕ → Type 0 = λ n j. Q t i n j in
    bind_ok G (take_kind t 7 i) _ (kind-sound t 7 i)
    (λ a j left.
    bind_ok G (checked_name t j) _ (checked_name-sound t j)
    (λ n k h. bind_ok G (take_kind t 8 k) _ (kind-sound t 8 k) (λ b l right. q left h right)))

pub name_or_id-sound : (t : ℕ → Tok) (view : View) (i : ℕ) → Okay (NameOrIdOf t view i) (name_or_id t view i)
unfolding name_or_id
name_or_id-sound t view i =
    let G = NameOrIdOf t view i in
    pick-ok G (is_kind t 2 i) _ _
    (λ e. bind_ok G (checked_name t i) _ (checked_name-sound t i) (λ n j h. name h))
    (λ e.
    bind_ok G (take_kind t 3 i) _ (kind-sound t 3 i)
    (λ n j h. pick-ok G (view.allows i) _ _ (λ may. id h may) (λ may. tt)))

-- what was found, for any form that ends with it
found-sound : (G : Ref → ℕ → Type 0) (i j : ℕ) (f : Result Ref Unfound) →
    ((r : Ref) → f ≡ Ok r → G r j) → Okay G (found_at i j f)
unfolding found_at
found-sound G i j (Ok ref) h = h ref refl
found-sound G i j (Err e) h = tt

module _ (t : ℕ → Tok) (view : View) where
  pub adapter-sound : (i : ℕ) → Okay (Adapter t view i) (adapter_number t view i)
  unfolding adapter_number
  adapter-sound i =
      let G = Adapter t view i in
      bind_ok G (take_in t 0 last_adapter i) _ (up_to-sound t last_adapter i)
      (λ a j h. pick-ok G (view.listed a) _ _ (λ e. Adapter.adapter h e) (λ e. tt))

  -- `adapter = A`, for any form that ends with it
  pub assign-sound : (G : ℕ → ℕ → Type 0) (i : ℕ) →
      ((j b k a l : ℕ) → Word t (ascii "adapter") i j → Token t 14 j b k → Adapter t view k a l → G a l) →
      Okay G (adapter_assign t view i)
  unfolding adapter_assign
  assign-sound G i f =
      bind_ok G (take_word t (ascii "adapter") i) _ (word_sound t (ascii "adapter") i)
      (λ n j w.
      bind_ok G (take_kind t 14 j) _ (kind-sound t 14 j)
      (λ b k e. mapped G (adapter_number t view k) (adapter-sound k) (λ a l h. f j b k a l w e h)))

  pub clause-sound : (i : ℕ) → Okay (Clause t view i) (adapter_clause t view i)
  unfolding adapter_clause
  clause-sound i =
      let G = Clause t view i in
      let On-it : ℕ → ℕ → Type 0 = λ a j. G (On a) j in
      perhaps-ok G (is_kind t 11 i) i _ _
      (λ comma.
      bind_ok G (adapter_assign t view (i + 1)) _
      (assign-sound On-it (i + 1) (λ j b k a l w e h. clause (is_kind_lem t 11 i comma) w e h))
      (λ a j h. h))
      (λ e. no_clause)

  module _ (kind most : ℕ) where
    -- the row that was picked, by what it says
    row_is : {i a n : ℕ} {scope : Scope} {e : Entry} → Picks kind (t i).bytes scope view.rows e → e.adapter ≡ a → e.number ≡ n →
        Refers t view kind most (Name i) scope (record { adapter = a; number = n })
    row_is p x y = rw (← x, ← y) (row p)

    -- what is referred to, for any form that ends with it
    pub refers-sound : (G : Ref → ℕ → Type 0) (target : NameOrId) (scope : Scope) (j : ℕ) →
        ((ref : Ref) → Refers t view kind most target scope ref → G ref j) → Okay G (referred t view kind most scope j target)
    unfolding referred scope_or_primary
    refers-sound G (Name i) scope j h =
        found-sound G i j (pick_named kind (t i).bytes scope view.rows)
        (λ r e. let p = picks-sound kind (t i).bytes scope view.rows e in h _ (row_is p.1 p.2 p.3))
    refers-sound G (Id n i) Any j h = pick-ok G (leb n most) _ _ (λ e. h _ (on_primary (leb-true _ _ e))) (λ e. tt)
    refers-sound G (Id n i) (On a) j h = pick-ok G (leb n most) _ _ (λ e. h _ (on_adapter_rule (leb-true _ _ e))) (λ e. tt)

    pub inside-sound : (i : ℕ) → Okay (Inside t view kind most i) (open_r t view kind most i)
    unfolding open_r close_r
    inside-sound i =
        let G = Inside t view kind most i in
        bind_ok G (name_or_id t view i) _ (name_or_id-sound t view i)
        (λ target j h.
        bind_ok G (adapter_clause t view j) _ (clause-sound j)
        (λ scope k c.
        bind_ok G (take_kind t 8 k) _ (kind-sound t 8 k)
        (λ b l right. refers-sound G target scope l (λ ref f. inside h c right f))))

    pub ref_sound : (i : ℕ) → Okay (R t view kind most i) (reference t view kind most i)
    unfolding reference
    ref_sound i =
        let G = R t view kind most i in
        bind_ok G (take_kind t 7 i) _ (kind-sound t 7 i)
        (λ a j left. mapped G (open_r t view kind most j) (inside-sound j) (λ ref k h. r left h))

  pub lamp-sound : (i : ℕ) → Okay (Lamp t view i) (lamp_ref t view i)
  unfolding lamp_ref
  lamp-sound i = ref_sound lamp_kind last_short_address i

  pub group-sound : (i : ℕ) → Okay (Group t view i) (group_ref t view i)
  unfolding group_ref
  group-sound i = ref_sound group_kind last_group i

  pub device-sound : (i : ℕ) → Okay (Device t view i) (device_ref t view i)
  unfolding device_ref
  device-sound i = ref_sound device_kind last_short_address i

  -- perhaps `dev =`: what follows at j closes the form either way
  data DevFirst (i : ℕ) : ℕ → Type 0 where
    no_dev : DevFirst i i
    a_dev : {j a k : ℕ} → Word t (ascii "dev") i j → Token t 14 j a k → DevFirst i k

  dev_sound : (i : ℕ) → Okay (λ n j. DevFirst i j) (dev_name t i)
  unfolding dev_name
  dev_sound i =
      let G : ℕ → ℕ → Type 0 = λ n j. DevFirst i j in
      perhaps-ok G (is_word t (ascii "dev") i) i _ _
      (λ e. mapped G (take_kind t 14 (i + 1)) (kind-sound t 14 (i + 1)) (λ n j h. a_dev (is_word_lem t (ascii "dev") i e) h))
      (λ e. no_dev)

  dev_first : {i a j k l : ℕ} {ref : Ref} → Token t 7 i a j → DevFirst j k → Inside t view input_kind last_short_address k ref l →
      InputDevice t view i ref l
  dev_first left no_dev h = plain left h
  dev_first left (a_dev w e) h = with_dev_rule left w e h

  pub input_device_sound : (i : ℕ) → Okay (InputDevice t view i) (input_device_ref t view i)
  unfolding input_device_ref
  input_device_sound i =
      let G = InputDevice t view i in
      bind_ok G (take_kind t 7 i) _ (kind-sound t 7 i)
      (λ a j left.
      bind_ok G (dev_name t j) _ (dev_sound j)
      (λ b k dev.
      mapped G (open_r t view input_kind last_short_address k) (inside-sound input_kind last_short_address k) (λ ref l h. dev_first left dev h)))

  pub target_sound : (i : ℕ) → Okay (Target t view i) (light_target t view i)
  unfolding light_target lamp_target group_target broadcast_target
  target_sound i =
      let G = Target t view i in
      perhaps-ok G (is_word t (ascii "lamp") i) i _ _
      (λ e. bind_ok G (lamp_ref t view (i + 1)) _ (lamp-sound (i + 1)) (λ ref j h. lamp (is_word_lem t (ascii "lamp") i e) h))
      (λ n.
      perhaps-ok G (is_word t (ascii "group") i) i _ _
      (λ e. bind_ok G (group_ref t view (i + 1)) _ (group-sound (i + 1)) (λ ref j h. Target.group (is_word_lem t (ascii "group") i e) h))
      (λ n.
      perhaps-ok G (is_word t (ascii "broadcast") i) i _ _
      (λ e. pick-ok G (view.allows i) _ _ (λ may. broadcast (is_word_lem t (ascii "broadcast") i e) may) (λ may. tt))
      (λ n. tt)))
