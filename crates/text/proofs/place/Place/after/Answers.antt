use Rattle.text.specs.Place.{counted, after}
use mathlib.Core.Path.{◌≡◌}
use Prim.Native.Nat.{ℕ, ◌+◌}
use borrow.Author.Tests.{eq-eqb, ne_eqb}
use Rattle.text.specs.declared.place.Place.{Place}
use Rattle.text.proofs.place.Place.after.Goals as goal

lf : (p : Place) (code next line : ℕ) → code ≡ 0x0A → line ≡ counted (p.line + 1) →
    record { at = next; line = line; column = 1 } ≡ after p (record { code = code; next = next })
unfolding after
lf p code next line h e = rw (eq-eqb code 0x0A h, e)

other : (p : Place) (code next column : ℕ) → (code ≡ 0x0A → ⊥) → column ≡ counted (p.column + 1) →
    record { at = next; line = p.line; column = column } ≡ after p (record { code = code; next = next })
unfolding after
other p code next column h e = rw (ne_eqb code 0x0A h, e)

pub returns-then-code-eq10 : goal.returns-then-code-eq10
returns-then-code-eq10 c = lf _ _ _ _ c.if-code-eq10.true c.count_up.ensures

pub returns : goal.returns
returns c = other _ _ _ _ c.if-code-eq10.false c.count_up-2.ensures
