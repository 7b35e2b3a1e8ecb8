-- The topics that are lent, and how many different ones may stand (document 02, §12).
use Rattle.std.specs.Prelude.{ℕ, ◌+◌, ◌≤◌, ◌≡◌, List, [], ◌∷◌, ◌++◌, Bool, true, false, length, leb, eqb}
use Rattle.text.specs.Choice.{pick}
use Rattle.text.specs.Part.{same_bytes}
use Rattle.text.specs.Split.{split}

-- "empty lines aside"
unfoldable pub filled : List (List ℕ) → List (List ℕ)
filled [] = []
filled (l ∷ ls) = pick (eqb (length l) 0) (filled ls) (l ∷ filled ls)

-- "The caller lends the topics of earlier rules, one a line, LF between, taken as they come, empty lines aside"
unfoldable pub lent_topics : List ℕ → List (List ℕ)
lent_topics lent = filled (split 0x0A lent)

-- whether a topic is one of these, byte for byte
unfoldable pub has : List ℕ → List (List ℕ) → Bool
has x [] = false
has x (y ∷ ys) = pick (same_bytes y x) true (has x ys)

-- how many different ones there are
unfoldable pub different : List (List ℕ) → ℕ
different [] = 0
different (x ∷ xs) = pick (has x xs) (different xs) (different xs + 1)

-- "at most eight different ones"
abbrev pub most_topics : ℕ
most_topics = 8

-- "lent topics alone break no limit, but where a text names one that is not lent, the text's and the lent come to at most eight
-- different ones"
pub data Allowed (lent named : List (List ℕ)) : Type 0 where
  all_lent : ((topic : List ℕ) → has topic named ≡ true → has topic lent ≡ true) → Allowed lent named
  few : different (lent ++ named) ≤ most_topics → Allowed lent named

-- "a new topic when eight or more others stand named": it is neither lent nor named earlier in the text
unfoldable pub too_many : List (List ℕ) → List (List ℕ) → List ℕ → Bool
too_many lent earlier topic =
    pick (has topic lent) false (pick (has topic earlier) false (leb most_topics (different (lent ++ earlier))))

-- whether none of the topics named behind the earlier ones is too many when it is met
unfoldable pub fits : List (List ℕ) → List (List ℕ) → List (List ℕ) → Bool
fits lent earlier [] = true
fits lent earlier (x ∷ xs) = pick (too_many lent earlier x) false (fits lent (earlier ++ x ∷ []) xs)
