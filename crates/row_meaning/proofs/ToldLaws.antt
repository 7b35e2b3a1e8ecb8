-- The row that is made for a reference is told by the sheet's rows (specs/Meaning.antt): its name is that of the first that fits.
use Prim.Native.Nat.{ℕ}
use mathlib.Core.Path.{◌≡◌, ◌∙◌, refl, sym, ap}
use mathlib.Core.Bool.{Bool, true}
use mathlib.Core.List.{List, [], ◌∷◌, ◌++◌, append-nil}
use lib.Dec.{eqb}
use borrow.Author.Tests.{eqb-true, eq-eqb}
use Rattle.text.proofs.Tests.{picked, both}
use Rattle.model.specs.Ranges.{Each}
use Rattle.sheet.specs.Names.{is_for, names_for}
use Rattle.sheet.specs.Picks.{InScope, None, none, none_past, Picks, past, here}
use Rattle.sheet.specs.Sheet.{Entry}
use Rattle.sheet.specs.View.{View}
use Rattle.sheet.specs.declared.names.Numbered.{Numbered}
use Rattle.sheet.specs.declared.resolve.Scope.{Scope}
use Rattle.sheet.proofs.ResolveLaws.{picks-sound, picks-complete}
use Rattle.rereading.specs.Given.{Among}
use Rattle.rereading.proofs.GivenPossible.{among-each}
use Rattle.old_rows.specs.Back.{is_fitting, first_fitting, name_back}
use Rattle.row_meaning.specs.Meaning.{Fitting, FirstFitting, ToldByRows}
use Rattle.row_meaning.proofs.FittingLaws.{fitting_fits, fits_fitting}

-- ---- a row that is picked is the only one in scope

module _ (kind : ℕ) (name : List ℕ) (scope : Scope) where
  none-scope : {es : List Entry} {f : Entry} → None kind name scope es → Each (λ (d : Entry). InScope kind name scope d → d ≡ f) es
  none-scope none = Each.none
  none-scope (none_past n w) = Each.more (λ c. absurd (n c)) (none-scope w)

  only_one : {es : List Entry} {f : Entry} → Picks kind name scope es f → Each (λ (d : Entry). InScope kind name scope d → d ≡ f) es
  only_one (past n p) = Each.more (λ c. absurd (n c)) (only_one p)
  only_one (here c w) = Each.more (λ _. refl) (none-scope w)

-- ---- what the tests of a row say

-- the row is for the reference
for_row : (of : Numbered) (d : Entry) → is_for of d.kind d.adapter d.number ≡ true →
    (d.kind ≡ of.kind) × (d.adapter ≡ of.adapter) × (d.number ≡ of.number)
unfolding is_for
for_row of d e =
    let h = both (eqb d.kind of.kind) e in
    let k = both (eqb d.adapter of.adapter) h.1 in
    (eqb-true _ _ h.0, eqb-true _ _ k.0, eqb-true _ _ k.1)

module _ (view : View) (of : Numbered) where
  abbrev is_row : Entry → Bool
  is_row d = is_for of d.kind d.adapter d.number

  row_fits : (d : Entry) → Among d view.rows → view.listed of.adapter ≡ true → is_row d ≡ true → is_fitting view of d.name ≡ true →
      Fitting view of d
  row_fits d among listed e f =
      let (k, a, n) = for_row of d e in
      let fits = fitting_fits view of d.name f in
      let found = picks-sound of.kind d.name (Scope.On of.adapter) view.rows fits.picks in
      let scope : InScope of.kind d.name (Scope.On of.adapter) d =
      record { same_kind = k; same_name = refl; same_adapter = λ b s. a ∙ (cc) } in
      let same = among-each among (only_one of.kind d.name (Scope.On of.adapter) found.1) scope in
      record {
        kind = k;
        adapter = a;
        number = n;
        listed = rw a listed;
        picks = rw (sym same) at found.1;
        no_comma = fits.no_comma;
      }

  fits-row : (e : Entry) → Fitting view of e → (view.listed of.adapter ≡ true) × (is_row e ≡ true) × (is_fitting view of e.name ≡ true)
  unfolding is_for
  fits-row e h = (
    rw h.adapter at h.listed,
    rw (eq-eqb _ _ h.kind, eq-eqb _ _ h.adapter) (eq-eqb _ _ h.number),
    fits_fitting view of e.name
        (record { no_comma = h.no_comma; picks = picks-complete _ _ _ h.picks ∙ rw (h.adapter, h.number) }),
  )

  -- ---- the first that fits

  -- rows that do not fit are passed over
  passed : {before : List Entry} (es : List Entry) → Each (λ (d : Entry). is_row d ≡ true → is_fitting view of d.name ≡ true → ⊥) before →
      first_fitting view of (names_for of (before ++ es)) ≡ first_fitting view of (names_for of es)
  unfolding names_for first_fitting
  passed es Each.none = refl
  passed es (Each.more {x = d} n ns) =
      let first : List ℕ = first_fitting view of (names_for of es) in
      picked (λ (names : List (List ℕ)). first_fitting view of names ≡ first) (is_row d)
      (λ e. picked (λ (name : List ℕ). name ≡ first) (is_fitting view of d.name) (λ f. absurd (n e f)) (λ _. passed es ns))
      (λ _. passed es ns)

  -- those of which it is said that they do not fit
  none_of_lem : {before : List Entry} (es : List Entry) → ((d : Entry) → Among d (before ++ es) → Among d view.rows) →
      view.listed of.adapter ≡ true → Each (λ (d : Entry). Fitting view of d → ⊥) before →
      Each (λ (d : Entry). is_row d ≡ true → is_fitting view of d.name ≡ true → ⊥) before
  none_of_lem es inside listed Each.none = Each.none
  none_of_lem es inside listed (Each.more {x = d} n ns) =
      Each.more (λ e f. n (row_fits d (inside d Among.here) listed e f)) (none_of_lem es (λ x a. inside x (Among.later a)) listed ns)

  told-name : (e : Entry) → FirstFitting view of e → name_back view of ≡ e.name
  unfolding name_back names_for first_fitting
  told-name e h =
      let (listed, row, fits) = fits-row e h.fits in
      let inside : (d : Entry) → Among d (h.before ++ e ∷ h.behind) → Among d view.rows = λ d a. rw h.stands a in
      rw listed
      (ap (λ (es : List Entry). first_fitting view of (names_for of es)) h.stands
      ∙ passed (e ∷ h.behind) (none_of_lem (e ∷ h.behind) inside listed h.none_before)
      ∙ rw (row, fits))

  told_none : Each (λ (e : Entry). Fitting view of e → ⊥) view.rows → name_back view of ≡ []
  unfolding name_back names_for first_fitting
  told_none ns =
      picked (λ (name : List ℕ). name ≡ []) (view.listed of.adapter)
      (λ listed. rw append-nil at (passed [] (none_of_lem [] (λ d a. rw append-nil at a) listed ns)))
      (λ _. refl)

pub told-by-rows : ToldByRows
told-by-rows = record { name = told-name; none = told_none }
