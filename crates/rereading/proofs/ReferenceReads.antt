-- References as they are written, by ids, are read as themselves.
use Prim.Native.Nat.{ℕ, ◌+◌, ◌≤◌}
use mathlib.Core.Path.{◌≡◌, refl, sym, subst}
use mathlib.Core.Bool.{Bool, true, false}
use mathlib.Core.List.{List, [], ◌∷◌, ◌++◌}
use lib.Dec.{leb, eqb}
use borrow.Author.Tests.{leb-true, eqb-true}
use Rattle.text.specs.Choice.{pick}
use Rattle.text.specs.Literal.{ascii}
use Rattle.text.proofs.Tests.{both}
use Rattle.tokens.specs.Cursor.{Tok}
use Rattle.tokens.specs.Kind.{CLOSE, COMMA, ASSIGN, INTEGER}
use Rattle.tokens.specs.Grammar.{Token, Word, up_to}
use Rattle.model.specs.Limits.{last_adapter, last_short_address}
use Rattle.model.specs.declared.Ref.{Ref}
use Rattle.model.specs.declared.LightTarget.{LightTarget}
use Rattle.sheet.specs.View.{View}
use Rattle.sheet.specs.Kind.{input_kind}
use Rattle.sheet.specs.declared.resolve.Scope.{Scope}
use Rattle.references.specs.declared.refs.NameOrId.{NameOrId}
use Rattle.references.specs.Grammar.{id, adapter, Clause, no_clause, clause, OnAdapter, primary, given, Refers, on_primary, on_adapter_rule, Inside, inside, R, r, InputDevice, with_dev_rule, Target, lamp, group, broadcast}
use Rattle.writing.specs.Pieces.{Piece}
use Rattle.writing.specs.Write.{argument, adapter_pieces, ref_pieces, device_pieces, target_pieces}
use Rattle.writing.specs.Possible.{possible_ref, possible_target}
use Rattle.writing.specs.Reached.{is_reached, reached_target}
use Rattle.rereading.proofs.Stands.{token_of, Stands, none}
use Rattle.rereading.proofs.StandsLaws.{head, rest, parted, token-read, word_read}

-- an adapter as a scope that comes to it
pub record ClauseRead (t : ℕ → Tok) (view : View) (i adapter j : ℕ) : Type 0 where
  pub scope : Scope
  pub reads : Clause t view i scope j
  pub comes_to : OnAdapter view scope adapter

-- the numbers of a possible reference
pub adapter-few : (most : ℕ) (x : Ref) → possible_ref most x ≡ true → x.adapter ≤ last_adapter
unfolding possible_ref
adapter-few most x e = leb-true _ _ (both (leb x.adapter last_adapter) e).0

pub number-few : (most : ℕ) (x : Ref) → possible_ref most x ≡ true → x.number ≤ most
unfolding possible_ref
number-few most x e = leb-true _ _ (both (leb x.adapter last_adapter) e).1

module _ {t : ℕ → Tok} where
  -- a named argument: its word, `=` and its number
  pub argument-word : {name : List ℕ} {n i j : ℕ} → Stands t i (argument name n) j → Word t name i (i + 1)
  argument-word s = word_read (head s)

  pub argument-assign : {name : List ℕ} {n i j : ℕ} → Stands t i (argument name n) j → Token t ASSIGN (i + 1) 0 (i + 1 + 1)
  unfolding token_of
  argument-assign s = token-read (head (rest s))

  pub argument-number : {name : List ℕ} {n i j : ℕ} → Stands t i (argument name n) j → Token t INTEGER (i + 1 + 1) n j
  unfolding token_of
  argument-number s = token-read (rest (rest s))

module _ {t : ℕ → Tok} {view : View} where
  -- `adapter=` where the adapter is not the primary
  pub clause-read : (a : ℕ) {i j : ℕ} → a ≤ last_adapter → is_reached view a ≡ true → Stands t i (adapter_pieces view.primary a) j →
      ClauseRead t view i a j
  unfolding adapter_pieces is_reached token_of
  clause-read a {i} few e s = by (eqb a view.primary) refl e s
    where
      by : (b : Bool) {j : ℕ} → eqb a view.primary ≡ b → pick b true (view.listed a) ≡ true →
          Stands t i (pick b [] (Piece.sign COMMA ∷ argument (ascii "adapter") a)) j → ClauseRead t view i a j
      by true same listed none =
          record { scope = Scope.Any; reads = no_clause; comes_to = rw (eqb-true a view.primary same) primary }
      by false other listed s =
          let number = up_to (argument-number (rest s)) few in
          record {
            scope = Scope.On a;
            reads = clause (token-read (head s)) (argument-word (rest s)) (argument-assign (rest s)) (adapter number listed);
            comes_to = given;
          }

  -- an id in that scope is the reference
  pub id-refers : {kind most n i a : ℕ} {scope : Scope} → OnAdapter view scope a → n ≤ most →
      Refers t view kind most (NameOrId.Id n i) scope (record { adapter = a; number = n })
  id-refers primary few = on_primary few
  id-refers given few = on_adapter_rule few

-- a call in which ids, `broadcast` and `event` may stand
module _ {t : ℕ → Tok} {view : View} (any : (i : ℕ) → view.allows i ≡ true) where
  -- the id, and all up to `)`
  inside-read : (kind most : ℕ) (x : Ref) {i j : ℕ} → possible_ref most x ≡ true → is_reached view x.adapter ≡ true →
      Stands t i (Piece.integer x.number ∷ adapter_pieces view.primary x.adapter ++ Piece.sign CLOSE ∷ []) j →
      Inside t view kind most i x j
  unfolding token_of
  inside-read kind most x {i} possible reached s =
      let (k, behind, close) = parted (adapter_pieces view.primary x.adapter) _ (rest s) in
      let scope = clause-read x.adapter (adapter-few most x possible) reached behind in
      inside (id (token-read (head s)) (any i)) scope.reads (token-read close) (id-refers scope.comes_to (number-few most x possible))

  pub ref_read : (kind most : ℕ) (x : Ref) {i j : ℕ} → possible_ref most x ≡ true → is_reached view x.adapter ≡ true →
      Stands t i (ref_pieces view.primary x) j → R t view kind most i x j
  unfolding ref_pieces token_of
  ref_read kind most x possible reached s = r (token-read (head s)) (inside-read kind most x possible reached (rest s))

  -- `input device(dev=…)`
  pub device-read : (x : Ref) {i j : ℕ} → possible_ref last_short_address x ≡ true → is_reached view x.adapter ≡ true →
      Stands t i (device_pieces view.primary x) j → InputDevice t view i x j
  unfolding device_pieces token_of
  device-read x possible reached s =
      let inside = rest (rest (rest s)) in
      with_dev_rule (token-read (head s)) (word_read (head (rest s))) (token-read (head (rest (rest s))))
      (inside-read input_kind last_short_address x possible reached inside)

  pub target-read : (x : LightTarget) {i j : ℕ} → possible_target x ≡ true → reached_target view x ≡ true →
      Stands t i (target_pieces view.primary x) j → Target t view i x j
  unfolding possible_target reached_target target_pieces
  target-read (LightTarget.Lamp x) p h s = lamp (word_read (head s)) (ref_read _ _ x p h (rest s))
  target-read (LightTarget.Group x) p h s = group (word_read (head s)) (ref_read _ _ x p h (rest s))
  target-read (LightTarget.Broadcast a) {i} {j} p h s =
      subst (λ (n : ℕ). Target t view i (LightTarget.Broadcast n) j) (sym (eqb-true a view.primary h)) (broadcast (word_read s) (any i))
