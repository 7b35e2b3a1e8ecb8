-- The code's way to count different topics. Nothing here need be believed: `counting-full` and `counting-end` show that it comes to the same.
use Rattle.std.specs.Prelude.{ℕ, List, length, eqb}
use Rattle.text.specs.Choice.{pick}
use Rattle.text.specs.Part.{part_of}
use Rattle.topics.specs.Topics.{has}
use Rattle.topics.specs.Ranges.{with_range, topics_in}
use Rattle.topics.specs.declared.ranges.Ranges.{Ranges}

-- the lent lines that were counted, and one line more unless it is empty, named or counted already
unfoldable pub kept : List ℕ → Ranges → List (List ℕ) → ℕ → ℕ → Ranges
kept lent lines named start end =
    let line = part_of lent start end in
    pick (eqb (length line) 0) lines
    (pick (has line named) lines (pick (has line (topics_in lent lines)) lines (with_range lines start end)))
