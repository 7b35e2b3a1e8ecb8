-- What is answered for a reference by name, and for what goes on behind it: a value made of the one row that is found, or the refusal.
use Prim.Native.Nat.{ℕ, ◌+◌}
use mathlib.Core.Path.{◌≡◌, refl}
use mathlib.Core.Bool.{Bool, true, false}
use mathlib.Core.List.{List, [], ◌∷◌}
use Rattle.std.specs.Prelude.{Result, Ok, Err}
use Rattle.text.specs.Choice.{pick}
use Rattle.tokens.specs.Result.{Res, ok, no, bind, refuse}
use Rattle.tokens.specs.Kind.{CLOSE, COMMA}
use Rattle.tokens.specs.Cursor.{Tok}
use Rattle.tokens.specs.Grammar.{up_to}
use Rattle.tokens.proofs.Okay.{token-kind, not-kind, kind-yes, kind-no, kind-complete, word-complete, up_to-complete}
use Rattle.model.specs.declared.Ref.{Ref}
use Rattle.sheet.specs.Line.{is_name}
use Rattle.sheet.specs.Resolve.{not_found, pick_named}
use Rattle.sheet.specs.View.{View}
use Rattle.sheet.specs.declared.resolve.Unfound.{Unfound}
use Rattle.sheet.specs.declared.resolve.Scope.{Scope}
use Rattle.references.specs.Grammar.{Quoted, quoted, name}
use Rattle.references.specs.Refs.{adapter_number, adapter_assign, adapter_clause, found_at, referred, close_r, open_r, reference}
use Rattle.references.proofs.RefComplete.{name_or_id-complete}
use Rattle.writing.specs.Pieces.{Piece}
use Rattle.rereading.proofs.Stands.{token_of, Stands, none as nothing}
use Rattle.rereading.proofs.StandsLaws.{head, rest, parted, token-read, word_read, bytes_read}
use Rattle.old_rows.specs.Convert.{is_seen}
use Rattle.row_meaning.specs.Meaning.{adapter_pieces, name_pieces}
use Rattle.row_meaning.proofs.OneRow.{InByte, name-long}

-- ---- answers by what is found

-- the value that f makes of the reference, and j is the next token; or the refusal with its detail, at some token
pub data ByFound {A : Type 0} (f : Ref → A) (j : ℕ) : Result Ref Unfound → Res A → Type 0 where
  one : {r : Ref} → ByFound f j (Ok r) (ok (f r) j)
  none : {at : ℕ} {u : Unfound} → ByFound f j (Err u) (no (record { number = u.number; token = at; detail = u.detail }))

-- a step that takes whichever value there is
pub found-then : {A B : Type 0} {f : Ref → A} {g : Ref → B} {j k : ℕ} {found : Result Ref Unfound} {m : Res A} (h : A → ℕ → Res B) → ByFound f j found m →
    ((r : Ref) → h (f r) j ≡ ok (g r) k) → ByFound g k found (bind m h)
found-then h one e = rw (e _) one
found-then h none e = none

-- a scope that is not seen is refused with 25 before any name is looked up
found-seen : {A : Type 0} {f : Ref → A} {found : Result Ref Unfound} {scope : Scope} {j k : ℕ} (b : Bool) (i : ℕ) (g : Scope → ℕ → Res A) →
    ByFound f k found (g scope j) → ByFound f k (pick b found (not_found 25 0)) (bind (pick b (ok scope j) (refuse 25 i)) g)
found-seen true i g h = h
found-seen false i g h = none

-- a name that is looked up is judged at its token
found_here : (i j : ℕ) (found : Result Ref Unfound) → ByFound (λ r. r) j found (found_at i j found)
unfolding found_at
found_here i j (Ok r) = one
found_here i j (Err u) = none

-- ---- the reference

-- an adapter that is taken as a scope
on-seen : (b : Bool) (a i j : ℕ) → bind (pick b (ok a j) (refuse 25 i)) (λ c k. ok (Scope.On c) k) ≡ pick b (ok (Scope.On a) j) (refuse 25 i)
on-seen true a i j = refl
on-seen false a i j = refl

module _ {t : ℕ → Tok} where
  name-quoted : {bytes : List ℕ} {i j : ℕ} → is_name bytes ≡ true → Stands t i (Piece.string bytes ∷ []) j → Quoted t i j
  unfolding token_of
  name-quoted {bytes} named s =
      let (some, few) = name-long bytes named in
      let are = bytes_read s in
      quoted (token-read s) (rw are some) (rw are few)

  module _ (view : View) where
    -- perhaps `, adapter = A`: 25 is refused at the number
    clause-answers : (scope : Scope) {i j : ℕ} → InByte scope → Stands t i (adapter_pieces scope) j → (t j).kind ≡ CLOSE →
        adapter_clause t view i ≡ pick (is_seen view scope) (ok scope j) (refuse 25 (i + 1 + 1 + 1))
    unfolding adapter_pieces adapter_clause adapter_assign adapter_number is_seen token_of
    clause-answers Scope.Any {i} small nothing end = rw (kind-no t COMMA i (not-kind t COMMA refl end))
    clause-answers (Scope.On a) {i} {j} small s end =
        rw (
          kind-yes t refl (token-kind (token-read (head s))),
          word-complete t (word_read (head (rest s))),
          kind-complete t refl (token-read (head (rest (rest s)))),
          up_to-complete t (up_to (token-read (rest (rest (rest s)))) small),
        )
        (on-seen (view.listed a) a (i + 1 + 1 + 1) j)

    -- `( "name" )`, or `( "name" , adapter = A )`
    pub named-reference : (scope : Scope) (bytes : List ℕ) (kind most : ℕ) {i j : ℕ} → InByte scope → is_name bytes ≡ true →
        Stands t i (name_pieces scope bytes) j →
        ByFound (λ r. r) j (pick (is_seen view scope) (pick_named kind bytes scope view.rows) (not_found 25 0)) (reference t view kind most i)
    unfolding name_pieces reference open_r close_r referred token_of
    named-reference scope bytes kind most {i} {j} small named s =
        let (k, behind, close) = parted (adapter_pieces scope) _ (rest (rest s)) in
        rw (
          kind-complete t refl (token-read (head s)),
          name_or_id-complete {view = view} (name (name-quoted named (head (rest s)))),
          clause-answers scope small behind (token-kind (token-read close)),
        )
        (found-seen (is_seen view scope) _ _ (rw (kind-complete t refl (token-read close), bytes_read (head (rest s))) (found_here _ j _)))
