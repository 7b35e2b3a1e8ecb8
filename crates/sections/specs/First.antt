-- The first words of triggers and of conditions, by their places.
use Rattle.std.specs.Prelude.{ℕ, ◌+◌, List, [], ◌∷◌}
use Rattle.text.specs.Choice.{pick}
use Rattle.text.specs.Part.{same_bytes}

-- how many there are, of triggers as of conditions
abbrev pub first_words : ℕ
first_words = 13

-- the place of the first word that is w, where the first of them has the place n; the one behind them all if none is
unfoldable pub place_from : ℕ → List ℕ → List (List ℕ) → ℕ
place_from n w [] = n
place_from n w (x ∷ xs) = pick (same_bytes w x) n (place_from (n + 1) w xs)
