-- An adapter is listed exactly if one of the lines is its own.
use Prim.Native.Nat.{ℕ}
use mathlib.Core.Path.{◌≡◌, refl, ap}
use mathlib.Core.Bool.{Bool, true, false}
use mathlib.Core.List.{List, [], ◌∷◌}
use borrow.Author.Tests.{eq-eqb, eqb-true}
use Rattle.std.specs.Prelude.{Option, Some, None}
use Rattle.text.specs.Choice.{pick}
use Rattle.text.proofs.Tests.{picked}
use Rattle.sheet.specs.Line.{line_of}
use Rattle.sheet.specs.Sheet.{is_listing, lists}
use Rattle.sheet.specs.Listed.{Listed, here, later}
use Rattle.sheet.specs.declared.line.Line.{Line}
use Rattle.sheet.specs.declared.line.Line.TheVariants.{Primary, Adapter, Party, Row}

never : {A : Type 0} → false ≡ true → A
never h = cc

either : (t : Bool) → pick t true true ≡ true
either true = refl
either false = refl

module _ (a : ℕ) where
  own_line : (l : Option Line) → is_listing a l ≡ true → l ≡ Some (Adapter a)
  unfolding is_listing
  own_line (Some (Primary b)) h = never h
  own_line (Some (Adapter b)) h = ap (λ (c : ℕ). Some (Adapter c)) (eqb-true b a h)
  own_line (Some (Party b party)) h = never h
  own_line (Some (Row kind adapter number)) h = never h
  own_line None h = never h

  pub listed-sound : (ls : List (List ℕ)) → lists a ls ≡ true → Listed a ls
  unfolding lists
  listed-sound [] h = never h
  listed-sound (l ∷ ls) h =
      picked (λ (t : Bool). t ≡ true → Listed a (l ∷ ls)) (is_listing a (line_of l))
      (λ e k. here (own_line (line_of l) e))
      (λ e k. later (listed-sound ls k))
      h

  pub listed-complete : {ls : List (List ℕ)} → Listed a ls → lists a ls ≡ true
  unfolding lists is_listing
  listed-complete (here e) = rw (e, eq-eqb a a refl)
  listed-complete (later {l} h) = rw (listed-complete h) (either (is_listing a (line_of l)))
