-- "Exactly one row in scope", said of the rows of a sheet themselves, without a count.
use Rattle.std.specs.Prelude.{ℕ, ◌≡◌, List, [], ◌∷◌}
use Rattle.sheet.specs.Sheet.{Entry}
use Rattle.sheet.specs.declared.resolve.Scope.{Scope}
use Rattle.sheet.specs.declared.resolve.Scope.TheVariants.{On}

-- a row of that kind with that name, and on that adapter if the scope names one
pub record InScope (kind : ℕ) (name : List ℕ) (scope : Scope) (e : Entry) : Type 0 where
  pub same_kind : e.kind ≡ kind
  pub same_name : e.name ≡ name
  pub same_adapter : (a : ℕ) → scope ≡ On a → e.adapter ≡ a

-- no row is one
pub data None (kind : ℕ) (name : List ℕ) (scope : Scope) : List Entry → Type 0 where
  none : None kind name scope []
  none_past : {e : Entry} {es : List Entry} → (InScope kind name scope e → ⊥) → None kind name scope es →
      None kind name scope (e ∷ es)

-- this row is one, and no other
pub data Picks (kind : ℕ) (name : List ℕ) (scope : Scope) : List Entry → Entry → Type 0 where
  past : {e f : Entry} {es : List Entry} → (InScope kind name scope e → ⊥) → Picks kind name scope es f →
      Picks kind name scope (e ∷ es) f
  here : {e : Entry} {es : List Entry} → InScope kind name scope e → None kind name scope es → Picks kind name scope (e ∷ es) e
