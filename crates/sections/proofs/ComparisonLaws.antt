-- A comparison is read at no token that is not there: a token that is there has its own kind.
use Prim.Native.Nat.{ℕ}
use mathlib.Core.Path.{◌≡◌, ◌∙◌, refl, ap, sym}
use mathlib.Core.Bool.{Bool, true, false, false≢true}
use mathlib.Core.List.{List}
use lib.Dec.{eqb}
use borrow.Author.Tests.{eq-eqb, eqb-true}
use Rattle.std.specs.Prelude.{Option, Some, None}
use Rattle.text.specs.Choice.{pick}
use Rattle.tokens.specs.Record.{kind_at}
use Rattle.tokens.specs.Result.{no}
use Rattle.tokens.specs.Cursor.{Tok, tokens, is_kind, accepted}
use Rattle.tokens.specs.declared.cursor.Cursor.{Cursor}
use Rattle.tokens.specs.declared.cursor.Refusal.{Refusal}
use Rattle.language.specs.Condition.{comparison_by, comparison_at}

-- no token is there if it has not even its own kind
abbrev there : Option Cursor → Bool
there (Some c) = true
there None = false

is-there : (b : Bool) (i : ℕ) {a d : Option Cursor} → a ≡ accepted b i → a ≡ d → b ≡ there d
unfolding accepted
is-there true i e m = ap there (sym e ∙ m)
is-there false i e m = ap there (sym e ∙ m)

own-kind : (n : ℕ) (b : Bool) → eqb n 0 ≡ b → pick b false (eqb n n) ≡ false → n ≡ 0
own-kind n true d e = eqb-true n 0 d
own-kind n false d e = absurd (false≢true (sym e ∙ eq-eqb n n refl))

none-there : (t : ℕ → Tok) (i : ℕ) {a : Option Cursor} {k : ℕ} → k ≡ (t i).kind →
    a ≡ accepted (is_kind t k i) i → a ≡ None → (t i).kind ≡ 0
unfolding is_kind
none-there t i d e m =
    own-kind (t i).kind (eqb (t i).kind 0) refl (ap (λ (k : ℕ). is_kind t k i) (sym d) ∙ is-there _ i e m)

pub no-comparison : (text words : List ℕ) (i : ℕ) {a : Option Cursor} {k : ℕ} {r : Refusal} →
    r ≡ record { number = 20; token = i; detail = 0 } → k ≡ kind_at words i →
    a ≡ accepted (is_kind (tokens text words) k i) i → a ≡ None → no r ≡ comparison_at (tokens text words) i
unfolding comparison_at comparison_by tokens
no-comparison text words i refuses d e m = rw (none-there (tokens text words) i d e m, refuses)
