-- A reading of a reference by the grammar is what the definitions accept.
use Prim.Native.Nat.{ℕ}
use native.Mathlib.Omega.{arith}
use mathlib.Core.Path.{◌≡◌, refl}
use mathlib.Core.Bool.{false}
use mathlib.Core.List.{List}
use lib.ListN.{length}
use borrow.Author.Tests.{le-ltb, le-leb, ne_eqb}
use Rattle.text.specs.Literal.{ascii}
use Rattle.text.specs.Part.{same_bytes}
use Rattle.tokens.specs.Result.{ok}
use Rattle.tokens.specs.Cursor.{Tok, is_word}
use Rattle.sheet.specs.View.{View}
use Rattle.model.specs.Limits.{longest_name}
use Rattle.references.specs.Refs.{checked_name, closed_name, quoted_name, name_or_id, adapter_number, adapter_assign, adapter_clause, scope_or_primary, found_at, referred, close_r, open_r, reference, lamp_ref, group_ref, device_ref, dev_name, input_device_ref, lamp_target, group_target, broadcast_target, light_target}
use Rattle.tokens.specs.Grammar.{Token, token, Word, a_word}
use Rattle.references.specs.Grammar.{Quoted, quoted, Q, q, NameOrIdOf, name, id, Adapter, Clause, no_clause, clause, Refers, row, on_primary, on_adapter_rule, Inside, inside, R, r, Lamp, Group, Device, InputDevice, plain, with_dev_rule, Target, lamp, broadcast}
use Rattle.sheet.specs.declared.resolve.Scope.{Scope}
use Rattle.model.specs.declared.Ref.{Ref}
use Rattle.references.specs.declared.refs.NameOrId.{NameOrId}
use Rattle.model.specs.declared.LightTarget.{LightTarget}
use Rattle.sheet.proofs.ResolveLaws.{picks-complete}
use Rattle.tokens.proofs.Okay.{token-kind, not-kind, kind-yes, kind-no, word-yes, word-no, word_none, kind-complete, word-complete, up_to-complete}

pub checked_name-complete : {t : ℕ → Tok} {i j : ℕ} → Quoted t i j → checked_name t i ≡ ok (t i).number j
unfolding checked_name
checked_name-complete {t} {i} (quoted (token p) some few) =
    simp (kind-complete t refl (token {i = i} p), ne_eqb (length (t i).bytes) 0 (λ e. omega arith), le-ltb longest_name _ few)

pub quoted-complete : {t : ℕ → Tok} {i n j : ℕ} → Q t i n j → quoted_name t i ≡ ok n j
unfolding quoted_name closed_name
quoted-complete {t} (q left h right) = simp (kind-complete t refl left, checked_name-complete h, kind-complete t refl right)

quoted-kind : {t : ℕ → Tok} {i j : ℕ} → Quoted t i j → (t i).kind ≡ 2
quoted-kind (quoted h some few) = token-kind h

-- a name or an id does not begin with a word
pub name_or_id-no_word : {t : ℕ → Tok} {view : View} (word : List ℕ) {i j : ℕ} {target : NameOrId} → NameOrIdOf t view i target j →
    is_word t word i ≡ false
name_or_id-no_word {t} word (name h) = word_none t word refl (quoted-kind h)
name_or_id-no_word {t} word (id h may) = word_none t word refl (token-kind h)

pub name_or_id-complete : {t : ℕ → Tok} {view : View} {i j : ℕ} {target : NameOrId} → NameOrIdOf t view i target j →
    name_or_id t view i ≡ ok target j
unfolding name_or_id
name_or_id-complete {t} (name h) = simp (kind-yes t refl (quoted-kind h), checked_name-complete h)
name_or_id-complete {t} {i = i} (id h may) = simp (kind-no t 2 i (not-kind t 2 refl (token-kind h)), kind-complete t refl h, may)

pub adapter-complete : {t : ℕ → Tok} {view : View} {i a j : ℕ} → Adapter t view i a j → adapter_number t view i ≡ ok a j
unfolding adapter_number
adapter-complete {t} (Adapter.adapter h e) = simp (up_to-complete t h, e)

-- `adapter = A`
pub assign-complete : {t : ℕ → Tok} {view : View} {i j b k a l : ℕ} → Word t (ascii "adapter") i j → Token t 14 j b k →
    Adapter t view k a l → adapter_assign t view i ≡ ok a l
unfolding adapter_assign
assign-complete {t} w e h = simp (word-complete t w, kind-complete t refl e, adapter-complete h)

-- the clause may be left out only where no comma stands
pub clause-complete : {t : ℕ → Tok} {view : View} {i j : ℕ} {scope : Scope} → ((t j).kind ≡ 11 → ⊥) → Clause t view i scope j →
    adapter_clause t view i ≡ ok scope j
unfolding adapter_clause
clause-complete {t} {i = i} n no_clause = simp (kind-no t 11 i n)
clause-complete {t} n (clause (token p) w e h) = simp (kind-yes t refl p, assign-complete w e h)

pub refers-complete : {t : ℕ → Tok} {view : View} {kind most : ℕ} {target : NameOrId} {scope : Scope} {ref : Ref} (j : ℕ) →
    Refers t view kind most target scope ref → referred t view kind most scope j target ≡ ok ref j
unfolding referred scope_or_primary found_at
refers-complete j (row p) = simp (picks-complete _ _ _ p)
refers-complete j (on_primary p) = simp (le-leb _ _ p)
refers-complete j (on_adapter_rule p) = simp (le-leb _ _ p)

pub inside-complete : {t : ℕ → Tok} {view : View} {kind most i j : ℕ} {ref : Ref} → Inside t view kind most i ref j →
    open_r t view kind most i ≡ ok ref j
unfolding open_r close_r
inside-complete {t} {j = j} (inside h c right f) =
    rw (
      name_or_id-complete h,
      clause-complete (not-kind t 11 refl (token-kind right)) c,
      kind-complete t refl right,
      refers-complete j f,
    )

pub ref_complete : {t : ℕ → Tok} {view : View} {kind most i j : ℕ} {ref : Ref} → R t view kind most i ref j →
    reference t view kind most i ≡ ok ref j
unfolding reference
ref_complete {t} (r left h) = simp (kind-complete t refl left, inside-complete h)

pub lamp-complete : {t : ℕ → Tok} {view : View} {i j : ℕ} {ref : Ref} → Lamp t view i ref j → lamp_ref t view i ≡ ok ref j
unfolding lamp_ref
lamp-complete h = ref_complete h

pub group-complete : {t : ℕ → Tok} {view : View} {i j : ℕ} {ref : Ref} → Group t view i ref j → group_ref t view i ≡ ok ref j
unfolding group_ref
group-complete h = ref_complete h

pub device-complete : {t : ℕ → Tok} {view : View} {i j : ℕ} {ref : Ref} → Device t view i ref j → device_ref t view i ≡ ok ref j
unfolding device_ref
device-complete h = ref_complete h

no_dev : {t : ℕ → Tok} {view : View} {kind most i j : ℕ} {ref : Ref} → Inside t view kind most i ref j → dev_name t i ≡ ok 0 i
unfolding dev_name
no_dev (inside h c right f) = simp (name_or_id-no_word (ascii "dev") h)

pub input-device-complete : {t : ℕ → Tok} {view : View} {i j : ℕ} {ref : Ref} → InputDevice t view i ref j →
    input_device_ref t view i ≡ ok ref j
unfolding input_device_ref dev_name
input-device-complete {t} (plain left h) = simp (kind-complete t refl left, no_dev h, inside-complete h)
input-device-complete {t} (with_dev_rule left (a_word p x) e h) =
    simp (kind-complete t refl left, word-yes t (a_word p x), kind-complete t refl e, inside-complete h)

pub target-complete : {t : ℕ → Tok} {view : View} {i j : ℕ} {target : LightTarget} → Target t view i target j →
    light_target t view i ≡ ok target j
unfolding light_target lamp_target group_target broadcast_target same_bytes
target-complete {t} (lamp (a_word p x) h) = simp (word-yes t (a_word p x), lamp-complete h)
target-complete {t} (Target.group (a_word p x) h) =
    simp (word-no t (ascii "lamp") refl (a_word p x), word-yes t (a_word p x), group-complete h)
target-complete {t} (broadcast (a_word p x) may) =
    simp (word-no t (ascii "lamp") refl (a_word p x), word-no t (ascii "group") refl (a_word p x), word-yes t (a_word p x), may)
