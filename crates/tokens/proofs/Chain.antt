-- Rules that follow the code of a reading step: an answer that is taken apart is a step of the definition, which stands on the right.
use Prim.Native.Nat.{ℕ, ◌+◌}
use mathlib.Core.Bool.{Bool, true, false}
use mathlib.Core.Path.{◌≡◌, ◌∙◌, refl, ap, sym}
use native.Mathlib.Omega.{arith}
use borrow.Author.Rules.{rules}
use Rattle.std.specs.Prelude.{Option, Some, None, Ok, Err}
use Rattle.text.proofs.Tests.{lt_yes, lt_no, le_yes, le-no, eq_yes, eq_no, in_range, under-range, over-range, told-yes, told-no, eq-told-yes, eq-told-no}
use Rattle.tokens.specs.Result.{Res, ok, no, bind, perhaps}
use Rattle.tokens.specs.Cursor.{Taken, to_taken, accepted, at}
use Rattle.tokens.specs.declared.cursor.Cursor.{Cursor}
use Rattle.tokens.specs.declared.cursor.Refusal.{Refusal}

-- the step that an answer stands for
abbrev pub from_taken : {A : Type 0} → Taken A → Res A
from_taken (Ok p) = ok p.0 p.1.index
from_taken (Err r) = no r

pub is_taken : {A : Type 0} (x : Res A) {a b : Taken A} → a ≡ to_taken x → a ≡ b → x ≡ from_taken b
unfolding to_taken
is_taken (ok v i) e m = ap from_taken (sym e ∙ m)
is_taken (no r) e m = ap from_taken (sym e ∙ m)

-- the answer of a step, one that is passed on, and the next step after it
pub taken-ok : {A : Type 0} (x : Res A) {v : A} {c : Cursor} → ok v c.index ≡ x → Ok (v, c) ≡ to_taken x
unfolding to_taken
taken-ok x e = rw (sym e)

pub taken-no : {A : Type 0} (x : Res A) {r : Refusal} → no r ≡ x → Err r ≡ to_taken x
unfolding to_taken
taken-no x e = rw (sym e)

pub taken-same : {A : Type 0} {a : Taken A} {z : Res A} (x : Res A) → a ≡ to_taken z → z ≡ x → a ≡ to_taken x
taken-same x e h = e ∙ ap to_taken h

pub then-taken : {A B : Type 0} {a : Taken A} (x : Res A) (f : A → ℕ → Res B) {v : A} {c : Cursor} {y : Res B} →
    a ≡ to_taken x → a ≡ Ok (v, c) → y ≡ f v c.index → y ≡ bind x f
then-taken x f e m h = rw (is_taken x e m) h

pub stop_taken : {A B : Type 0} {a : Taken A} (x : Res A) (f : A → ℕ → Res B) {r : Refusal} →
    a ≡ to_taken x → a ≡ Err r → no r ≡ bind x f
stop_taken x f e m = rw (is_taken x e m)

-- a token that is taken if it is there
pub accepted-yes : {r : Bool} (t : Bool) (i : ℕ) → r ≡ t → r ≡ true → Some (at (i + 1)) ≡ accepted t i
unfolding accepted
accepted-yes t i e h = rw (sym e ∙ h)

pub accepted-no : {r : Bool} (t : Bool) (i : ℕ) → r ≡ t → r ≡ false → None ≡ accepted t i
unfolding accepted
accepted-no t i e h = rw (sym e ∙ h)

-- an optional token that was there, or was not
yes-accepted : (t : Bool) (i : ℕ) {c : Cursor} → accepted t i ≡ Some c → (t ≡ true) × (at (i + 1) ≡ c)
unfolding accepted
yes-accepted true i e = (refl, cc)
yes-accepted false i e = absurd (let z : ◌≡◌ {A = ℕ} 0 1 = cc in omega arith)

no-accepted : (t : Bool) (i : ℕ) → accepted t i ≡ None → t ≡ false
unfolding accepted
no-accepted true i e = absurd (let z : ◌≡◌ {A = ℕ} 0 1 = cc in omega arith)
no-accepted false i e = refl

pub perhaps-yes : {B : Type 0} {a : Option Cursor} (t : Bool) (i : ℕ) (f : ℕ → Res B) (other : Res B) {c : Cursor} {y : Res B} →
    a ≡ accepted t i → a ≡ Some c → y ≡ f c.index → y ≡ perhaps t i f other
perhaps-yes t i f other d m h =
    let q = yes-accepted t i (sym d ∙ m) in
    rw q.0 (h ∙ ap (λ (k : Cursor). f k.index) (sym q.1))

pub perhaps-no : {B : Type 0} {a : Option Cursor} (t : Bool) (i : ℕ) (f : ℕ → Res B) (other : Res B) {y : Res B} →
    a ≡ accepted t i → a ≡ None → y ≡ other → y ≡ perhaps t i f other
perhaps-no t i f other d m h = rw (no-accepted t i (sym d ∙ m)) h

-- nothing is there where nothing is some
pub none-left : {A : Type 0} {a : Option A} → ((x : A) → a ≡ Some x → ⊥) → a ≡ None
none-left {a = None} n = refl
none-left {a = Some x} n = absurd (n x refl)

-- closes what is left of a function that takes tokens
pub ruleset chain = (
  rules,
  lt_yes,
  lt_no,
  le_yes,
  le-no,
  eq_yes,
  eq_no,
  in_range,
  under-range,
  over-range,
  taken-ok,
  taken-no,
  taken-same,
  then-taken,
  stop_taken,
  accepted-yes,
  accepted-no,
  eq-told-yes,
  eq-told-no,
  told-yes,
  told-no,
)
