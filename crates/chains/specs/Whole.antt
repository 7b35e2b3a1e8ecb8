-- Document 02, §13: "Each stands in the list exactly once and nothing else does."
use Rattle.std.specs.Prelude.{ℕ, ◌≤◌, List, [], ◌∷◌, length}
use Rattle.chains.specs.Listed.{Listed, Before, chain, none_follows, Answered}

-- what the generator yields from v on, one sequence after the other, up to where none follows
pub data Yields : List ℕ → List (List ℕ) → Type 0 where
  stops : {v : List ℕ} → Answered v none_follows → Yields v []
  goes_on : {v w : List ℕ} {ws : List (List ℕ)} → Answered v (chain w) → 1 ≤ length w → Yields w ws → Yields v (w ∷ ws)

pub data Member (v : List ℕ) : List (List ℕ) → Type 0 where
  here : {ws : List (List ℕ)} → Member v (v ∷ ws)
  there : {w : List ℕ} {ws : List (List ℕ)} → Member v ws → Member v (w ∷ ws)

-- each comes before all that stand behind it
pub data Ascending : List (List ℕ) → Type 0 where
  none : Ascending []
  first : {w : List ℕ} {ws : List (List ℕ)} → ((u : List ℕ) → Member u ws → Before w u) → Ascending ws → Ascending (w ∷ ws)

pub record Whole (ws : List (List ℕ)) : Type 0 where
  pub ascending : Ascending ws
  pub all : (v : List ℕ) → Listed v → Member v ws
  pub only : (v : List ℕ) → Member v ws → Listed v
