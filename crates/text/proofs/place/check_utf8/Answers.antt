use mathlib.Core.Path.{◌≡◌, ◌∙◌, refl, ap, sym, subst}
use mathlib.Core.List.{List}
use Prim.Native.Nat.{ℕ}
use lib.ListN.{length}
use Rattle.text.specs.Utf8.{chars, row_end}
use Rattle.text.specs.Place.{start, walked, judge, check_of, Judged}
use Rattle.text.specs.declared.place.Place.{Place}
use Rattle.text.specs.declared.place.IllFormed.{IllFormed}
use Rattle.std.specs.Prelude.{Result, Ok, Err}
use Rattle.text.proofs.Tests.{eq_yes, eq_no}
use Rattle.text.proofs.StepLaws.{walk-row}
use Rattle.text.proofs.PlaceRules.{judged}
use Rattle.text.proofs.place.check_utf8.Goals as goal

answered : (s : List ℕ) {r : Result Unit IllFormed} → r ≡ check_of s → (r ≡ check_of s) × Judged s r
answered s e = (e, subst (Judged s) (sym e) (judged s))

-- the row of characters ends at n: at the end of s
whole : (s : List ℕ) {n : ℕ} → n ≡ row_end 0 (chars s 0) → n ≡ length s → (Ok tt ≡ check_of s) × Judged s (Ok tt)
unfolding check_of judge
whole s e h = answered s (eq_yes _ _ _ _ (walk-row (chars s 0) start ∙ sym e ∙ h) refl)

-- or before it, and the walk over s from p, its start, ends at the place q
broken : (s : List ℕ) {n : ℕ} {p q : Place} → n ≡ row_end 0 (chars s 0) → (n ≡ length s → ⊥) → p ≡ start →
    q ≡ walked p (chars s p.at) → (Err (record { line = q.line; column = q.column }) ≡ check_of s) × Judged s (Err (record { line = q.line; column = q.column }))
unfolding check_of judge
broken s {n} {p} {q} e h b w =
    let k : q ≡ walked start (chars s 0) = w ∙ ap (λ (m : Place). walked m (chars s m.at)) b in
    answered s (rw k (eq_no _ _ _ _ (λ m. h (e ∙ sym (walk-row (chars s 0) start) ∙ m)) refl))

pub returns-then-row_end-s : goal.returns-then-row_end-s
returns-then-row_end-s c = let both = whole _ c.row_end.ensures c.if-row_end-s.true in record { value = both.0; rules = both.1 }

pub returns : goal.returns
returns c = let both = broken _ c.row_end.ensures c.if-row_end-s.false c.start.ensures c.walk-p.ensures in record { value = both.0; rules = both.1 }
