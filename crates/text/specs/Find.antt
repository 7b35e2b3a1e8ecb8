-- Where a byte stands.
use Rattle.std.specs.Prelude.{ℕ, zero, suc, ◌+◌, Bool, true, false, List, [], ◌∷◌, length, drop, ltb, eqb}
use Rattle.text.specs.Choice.{pick}

-- one further, but where the byte asked for stands
unfoldable pub index_after : Bool → ℕ → ℕ
index_after true k = zero
index_after false k = suc k

-- how many bytes stand before the first b; all, where there is none
unfoldable pub index_of : ℕ → List ℕ → ℕ
index_of b [] = zero
index_of b (x ∷ l) = index_after (eqb x b) (index_of b l)

-- the offset of the first b at or behind an offset, or of the end of s
unfoldable pub first_at : ℕ → List ℕ → ℕ → ℕ
first_at b s at = pick (ltb at (length s)) (at + index_of b (drop at s)) (length s)
