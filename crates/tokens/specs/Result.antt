-- What reading at a token answers: a value and the index of the next token, or a refusal.
use Rattle.std.specs.Prelude.{ℕ, ◌+◌, Bool, true, false}
use Rattle.tokens.specs.declared.cursor.Refusal.{Refusal}

pub data Res (A : Type 0) : Type 0 where
  ok : A → ℕ → Res A
  no : Refusal → Res A

-- one step, then the next from where it left off; a refusal ends both
abbrev pub bind : {A B : Type 0} → Res A → (A → ℕ → Res B) → Res B
bind (ok a i) f = f a i
bind (no r) f = no r

-- an optional token at i: if it is there, the step behind it, else another
abbrev pub perhaps : {B : Type 0} → Bool → ℕ → (ℕ → Res B) → Res B → Res B
perhaps true i f other = f (i + 1)
perhaps false i f other = other

-- refused with a number at the token i
abbrev pub refuse : {A : Type 0} → ℕ → ℕ → Res A
refuse number i = no (record { number = number; token = i; detail = 0 })
