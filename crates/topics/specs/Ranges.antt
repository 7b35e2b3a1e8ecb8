-- Topics as ranges of the bytes in which they stand.
use Rattle.std.specs.Prelude.{ℕ, zero, suc, ◌+◌, List, [], ◌∷◌, ◌++◌, get_or, set, replicate, ltb, Option, None, Some}
use Rattle.text.specs.Choice.{pick}
use Rattle.text.specs.Part.{part_of}
use Rattle.topics.specs.Topics.{most_topics, lent_topics}
use Rattle.model.specs.declared.Name.{Name}
use Rattle.topics.specs.declared.ranges.Range.{Range}
use Rattle.topics.specs.declared.ranges.Ranges.{Ranges}

-- what a row holds that is not in use
abbrev pub no_range : Range
no_range = record { start = 0; end = 0 }

unfoldable pub no_ranges : Ranges
no_ranges = record { rows = replicate most_topics no_range; count = 0 }

-- one range more; full ones stay
unfoldable pub with_range : Ranges → ℕ → ℕ → Ranges
with_range ranges start end =
    pick (ltb ranges.count most_topics)
    (record { rows = set ranges.rows ranges.count (record { start = start; end = end }); count = ranges.count + 1 })
    ranges

-- one name more
unfoldable pub with_name : Ranges → Name → Ranges
with_name ranges name = with_range ranges name.start (name.start + name.length)

-- one topic more, if there is one
unfoldable pub with_topic : Ranges → Option Name → Ranges
with_topic ranges None = ranges
with_topic ranges (Some name) = with_name ranges name

-- ranges given as words, a start and a length for each; those past eight, and a start alone, are not looked at
unfoldable pub ranges_from : Ranges → List ℕ → Ranges
ranges_from ranges [] = ranges
ranges_from ranges (start ∷ []) = ranges
ranges_from ranges (start ∷ size ∷ words) = ranges_from (with_name ranges (record { start = start; length = size })) words

unfoldable pub ranges_of : List ℕ → Ranges
ranges_of words = ranges_from no_ranges words

-- the words that give the ranges of names
unfoldable pub range_words : List Name → List ℕ
range_words [] = []
range_words (n ∷ ns) = n.start ∷ n.length ∷ range_words ns

-- a topic's bytes, if there is one; written gives those of a name
unfoldable pub topic_by : (Name → List ℕ) → Option Name → List (List ℕ)
topic_by written None = []
topic_by written (Some name) = written name ∷ []

-- the bytes of a range of s, and of a name of it
unfoldable pub range_in : List ℕ → Range → List ℕ
range_in s range = part_of s range.start range.end

unfoldable pub name_in : List ℕ → Name → List ℕ
name_in s name = part_of s name.start (name.start + name.length)

-- the topics in the first n ranges: the machine's array has all its rows, and no reading of it gets past them
unfoldable pub first_in : List ℕ → Ranges → ℕ → List (List ℕ)
first_in s ranges zero = []
first_in s ranges (suc n) = first_in s ranges n ++ range_in s (get_or ranges.rows n no_range) ∷ []

-- how many ranges are in use, and the topics in them
unfoldable pub in_use : Ranges → ℕ
in_use ranges = pick (ltb ranges.count most_topics) ranges.count most_topics

unfoldable pub topics_in : List ℕ → Ranges → List (List ℕ)
topics_in s ranges = first_in s ranges (in_use ranges)

-- the topics of an earlier rule, which stand in its text in the ranges that these words give
unfoldable pub topics_at : List ℕ → List ℕ → List (List ℕ)
topics_at first words = topics_in first (ranges_of words)

-- "The caller lends the topics of earlier rules", and, in joining, "the first text's topics count as earlier for the second" (document 02, §12): what counts
-- as lent
abbrev pub lent_with : List ℕ → List ℕ → List ℕ → List (List ℕ)
lent_with lent first words = lent_topics lent ++ topics_at first words
