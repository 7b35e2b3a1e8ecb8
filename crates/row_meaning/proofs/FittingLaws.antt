-- A name that fits a reference (old_rows/specs/Back.antt): without comma, and with the adapter named it picks just that reference.
use Prim.Native.Nat.{ℕ}
use mathlib.Core.Path.{◌≡◌, refl}
use mathlib.Core.Bool.{Bool, true, false, false≢true}
use mathlib.Core.List.{List}
use lib.Dec.{eqb}
use borrow.Author.Tests.{eqb-true, eq-eqb}
use Rattle.std.specs.Prelude.{Result, Ok, Err}
use Rattle.text.proofs.Tests.{picked, both}
use Rattle.model.specs.declared.Ref.{Ref}
use Rattle.sheet.specs.Line.{has_comma}
use Rattle.sheet.specs.Names.{is_found}
use Rattle.sheet.specs.Resolve.{pick_named}
use Rattle.sheet.specs.View.{View}
use Rattle.sheet.specs.declared.names.Numbered.{Numbered}
use Rattle.sheet.specs.declared.resolve.Unfound.{Unfound}
use Rattle.sheet.specs.declared.resolve.Scope.{Scope}
use Rattle.old_rows.specs.Back.{is_fitting}

ref_is : (r : Ref) {a n : ℕ} → r.adapter ≡ a → r.number ≡ n → ◌≡◌ {A = Result Ref Unfound} (Ok r) (Ok (record { adapter = a; number = n }))
ref_is r e f = rw (← e, ← f)

found-one : (of : Numbered) (found : Result Ref Unfound) → is_found of found ≡ true → found ≡ Ok (record { adapter = of.adapter; number = of.number })
unfolding is_found
found-one of (Ok r) e =
    let h = both (eqb r.adapter of.adapter) e in
    ref_is r (eqb-true r.adapter of.adapter h.0) (eqb-true r.number of.number h.1)
found-one of (Err u) e = absurd (false≢true e)

one_found : (of : Numbered) → is_found of (Ok (record { adapter = of.adapter; number = of.number })) ≡ true
unfolding is_found
one_found of = rw (eq-eqb of.adapter of.adapter refl) (eq-eqb of.number of.number refl)

module _ (view : View) (of : Numbered) (name : List ℕ) where
  pub record Fits : Type 0 where
    pub no_comma : has_comma name ≡ false
    pub picks : pick_named of.kind name (Scope.On of.adapter) view.rows ≡ Ok (record { adapter = of.adapter; number = of.number })

  pub fitting_fits : is_fitting view of name ≡ true → Fits
  unfolding is_fitting
  fitting_fits =
      picked (λ (t : Bool). t ≡ true → Fits) (has_comma name)
      (λ _ e. absurd (false≢true e))
      (λ no_comma e. record { no_comma = no_comma; picks = found-one of _ e })

  pub fits_fitting : Fits → is_fitting view of name ≡ true
  unfolding is_fitting
  fits_fitting h = rw (h.no_comma, h.picks) (one_found of)
