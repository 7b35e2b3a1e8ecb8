-- The call with one row that says something: what the row keeps, and what is answered.
use Rattle.std.specs.Prelude.{Option, Some, None}
use Prim.Native.Nat.{ℕ, ◌-◌, ◌≤◌}
use native.Mathlib.Omega.{arith}
use mathlib.Core.Path.{◌≡◌, ◌∙◌, refl, ap, subst}
use mathlib.Core.Bool.{true}
use mathlib.Core.List.{List, [], ◌∷◌, ◌++◌}
use lib.ListN.{length, length-append}
use lib.Seq.{get_or_at}
use lib.Dec.{leb, eqb}
use borrow.Author.Tests.{leb-true, ne_eqb}
use Rattle.std.specs.Prelude.{Option, Some, None, Result}
use Rattle.text.specs.Split.{split}
use Rattle.text.specs.Choice.{within}
use Rattle.text.proofs.Tests.{picked, both}
use Rattle.tokens.specs.Rules.{Without}
use Rattle.model.specs.Limits.{last_adapter, longest_name}
use Rattle.model.specs.declared.Answer.{Answer}
use Rattle.model.specs.declared.Ref.{Ref}
use Rattle.sheet.specs.Line.{field, rest, has_comma, numeral, is_name}
use Rattle.sheet.specs.Sheet.{well_formed, sheet_check, lines}
use Rattle.sheet.specs.View.{View, seen, own_primary}
use Rattle.sheet.specs.declared.Call.{Call}
use Rattle.sheet.specs.declared.resolve.Unfound.{Unfound}
use Rattle.sheet.specs.declared.resolve.Scope.{Scope}
use Rattle.language.specs.Read.{rule_call}
use Rattle.old_rows.specs.Row.{says, change_of, is_known, on_adapter, scoped, behind_name, behind_kind, row_of, row_name}
use Rattle.old_rows.specs.Convert.{is_well, is_ended, is_whole, malformed_from, first_malformed, is_seen, found_of, found_in, change_in, converted, by_found, convert_from, answered, by_shape, by_primary, by_sheet, rows_of}
use Rattle.old_rows.specs.declared.row.Change.{Change}
use Rattle.old_rows.specs.declared.row.Row.{Row}

-- ---- what a row keeps

-- an adapter that is named is a byte
abbrev pub InByte : Scope → Type 0
InByte Scope.Any = Unit {0}
InByte (Scope.On a) = a ≤ last_adapter

-- a name, a change and a scope that a row can have
pub record Kept (name : List ℕ) (change : Change) (scope : Scope) : Type 0 where
  pub named : is_name name ≡ true
  pub known : is_known change ≡ true
  pub in_byte : InByte scope

abbrev Keeps : List ℕ → Option Row → Type 0
Keeps name (Some row) = Kept name row.change row.scope
Keeps name None = Unit {0}

module _ (name : List ℕ) (named : is_name name ≡ true) where
  adapter-keeps : (change : Change) (a : Option ℕ) → is_known change ≡ true → Keeps name (on_adapter change a)
  unfolding on_adapter
  adapter-keeps change None known = tt
  adapter-keeps change (Some a) known =
      picked (Keeps name) (leb a last_adapter) (λ h. record { named = named; known = known; in_byte = leb-true _ _ h }) (λ h. tt)

  scope-keeps : (change : Change) (a : List ℕ) → is_known change ≡ true → Keeps name (scoped change a)
  unfolding scoped
  scope-keeps change a known =
      picked (Keeps name) (eqb (length a) 0) (λ e. record { named = named; known = known; in_byte = tt })
      (λ e. adapter-keeps change (numeral a) known)

  word_keeps : (k l : List ℕ) → Keeps name (behind_name k l)
  unfolding behind_name
  word_keeps k l =
      picked (Keeps name) (has_comma l)
      (λ e. picked (Keeps name) (is_known (change_of k (rest l))) (λ known. scope-keeps (change_of k (rest l)) (field l) known) (λ f. tt)) (λ e. tt)

row_keeps : (l : List ℕ) → Keeps (row_name l) (row_of l)
unfolding row_of row_name behind_kind
row_keeps l =
    let K = Keeps (field (rest l)) in
    picked K (has_comma l)
    (λ e. picked K (has_comma (rest l)) (λ f. picked K (is_name (field (rest l))) (λ named. word_keeps _ named (field l) (rest (rest l))) (λ g. tt)) (λ f. tt))
    (λ e. tt)

pub kept : (l : List ℕ) {change : Change} {scope : Scope} → row_of l ≡ says change scope → Kept (row_name l) change scope
kept l e = subst (Keeps (row_name l)) e (row_keeps l)

-- "A name has 1 to 48 bytes"
pub name-long : (bytes : List ℕ) → is_name bytes ≡ true → (1 ≤ length bytes) × (length bytes ≤ longest_name)
unfolding is_name
name-long bytes h =
    let k = both (leb 1 (length bytes)) (both (within 1 longest_name (length bytes)) h).0 in
    (leb-true _ _ k.0, leb-true _ _ k.1)

-- ---- what is answered

-- a row is the one line of itself and LF
one_line : {l : List ℕ} → Without 0x0A l → lines (l ++ 0x0A ∷ []) ≡ l ∷ []
unfolding split
one_line Without.none = refl
one_line (Without.more {d} n w) = rw (ne_eqb d 0x0A n, one_line w)

line-ended : (l : List ℕ) → is_ended (l ++ 0x0A ∷ []) ≡ true
unfolding is_ended
line-ended l = rw (get_or_at l 0x0A [] 0 (length (l ++ 0x0A ∷ []) - 1) (simp length-append (omega arith)))

-- of one row that says something nothing is malformed
none-malformed : {l : List ℕ} → Without 0x0A l → is_well (row_of l) ≡ true → first_malformed (l ++ 0x0A ∷ []) ≡ 0
unfolding first_malformed malformed_from is_whole
none-malformed {l} w well = rw (one_line w, line-ended l, well)

-- the one row's trigger, or its refusal at row 1
abbrev pub row_answer : Change → Result Ref Unfound → Answer
row_answer change found = answered (by_found 1 change found (converted []))

-- what is found depends on the adapters and rows that are seen
pub same-found : (v w : View) → v.listed ≡ w.listed → v.rows ≡ w.rows → (change : Change) (scope : Scope) (name : List ℕ) →
    found_of v change scope name ≡ found_of w change scope name
unfolding found_of is_seen
same-found v w e f change Scope.Any name = rw f
same-found v w e f change (Scope.On a) name = rw (e, f)

-- where the questions before the rows' are met, and the one row says something, it is looked up
looked-up : (view : View) (l : List ℕ) {change : Change} {scope : Scope} → row_of l ≡ says change scope → Without 0x0A l →
    by_sheet view (l ++ 0x0A ∷ []) true well_formed ≡ row_answer change (found_of view change scope (row_name l))
unfolding by_sheet by_primary by_shape convert_from change_in found_in is_well
looked-up view l e w =
    let some = ne_eqb (length (l ++ 0x0A ∷ [])) 0 (λ z. omega (arith, length-append l (0x0A ∷ []))) in
    rw (some, none-malformed w (rw e), one_line w, e)

-- and so it is in the call, which sees of the sheet what any call of its party sees
pub one-row : (call : Call) (l sheet : List ℕ) {change : Change} {scope : Scope} → row_of l ≡ says change scope → Without 0x0A l →
    sheet_check sheet ≡ well_formed → own_primary call sheet ≡ true →
    rows_of call.party call.primary (l ++ 0x0A ∷ []) sheet ≡ row_answer change (found_of (seen call sheet) change scope (row_name l))
unfolding rows_of seen own_primary
one-row call l sheet {change} {scope} e w passes own =
    let view = seen (rule_call call.party call.primary) sheet in
    rw (passes, own) (looked-up view l e w ∙ ap (row_answer change) (same-found view (seen call sheet) refl refl change scope (row_name l)))
