-- Topics in ranges, one after the other.
use Rattle.std.specs.Prelude.{Option, None, Some}
use Prim.Native.Nat.{ℕ, zero, suc, ◌+◌, ◌<◌, ◌≤◌}
use mathlib.Core.Path.{◌≡◌, ◌∙◌, refl, ap, sym}
use mathlib.Core.List.{List, [], ◌∷◌, ◌++◌, map, append-nil, append_assoc}
use mathlib.Core.Bool.{Bool, true, false, not}
use native.Mathlib.Omega.{arith}
use native.Mathlib.Decide.{dec_le}
use native.Mathlib.Numerals.{add-one}
use lib.ListN.{length, get_or, set, length-set, length-append}
use lib.Seq.{get_or-set_same, get_or-set_other}
use lib.Dec.{ltb}
use borrow.Author.Tests.{lt-ltb, ltb-true, ltb-false, not-true, not-false}
use Rattle.text.specs.Part.{part_of, same_bytes}
use Rattle.text.proofs.Tests.{picked}
use Rattle.text.proofs.PartLaws.{same-eq}
use Rattle.topics.specs.Topics.{has, different, most_topics, lent_topics}
use Rattle.topics.specs.Ranges.{no_range, no_ranges, with_range, with_name, with_topic, topic_by, range_in, name_in, first_in, in_use, topics_in, ranges_from, ranges_of, range_words, topics_at, lent_with}
use Rattle.model.specs.declared.Name.{Name}
use Rattle.topics.specs.declared.ranges.Range.{Range}
use Rattle.topics.specs.declared.ranges.Ranges.{Ranges}
use Rattle.topics.proofs.DifferentLaws.{has_here, has_left, has_right, has_append, inserted, new-first, old_first}

-- at most eight are in use
pub most-used : (ranges : Ranges) {n : ℕ} → n ≡ in_use ranges → n ≤ most_topics
unfolding in_use
most-used ranges e =
    rw e
    (picked (λ (n : ℕ). n ≤ most_topics) (ltb ranges.count most_topics)
    (λ h. omega (arith, ltb-true ranges.count most_topics h))
    (λ h. omega arith))

module _ (s : List ℕ) (ranges : Ranges) where
  -- the topics in the first ranges are among those in more of them
  more_by : (x : List ℕ) (m n : ℕ) → m ≤ suc n → has x (first_in s ranges m) ≡ true →
      (m ≤ n → has x (first_in s ranges n) ≡ true) → Dec (m ≤ n) → has x (first_in s ranges (suc n)) ≡ true
  unfolding first_in
  more_by x m n l h r (yes k) = has_left x _ _ (r k)
  more_by x m n l h r (no k) =
      let e : m ≡ suc n = omega arith in
      rw e at h

  first_more : (x : List ℕ) (m n : ℕ) → m ≤ n → has x (first_in s ranges m) ≡ true → has x (first_in s ranges n) ≡ true
  first_more x m zero l h =
      let e : m ≡ zero = omega arith in
      rw e at h
  first_more x m (suc n) l h = more_by x m n l h (λ k. first_more x m n k h) (dec_le m n)

  -- the topic p in range i, as code reads it
  module _ (i : ℕ) {p : List ℕ} (read : p ≡ part_of s (get_or ranges.rows i no_range).start (get_or ranges.rows i no_range).end) where
    pub first_on : first_in s ranges (i + 1) ≡ first_in s ranges i ++ p ∷ []
    unfolding first_in range_in
    first_on = rw (add-one, read)

    module _ (topic : List ℕ) {r : Bool} (said : r ≡ same_bytes p topic) where
      pub found : (n : ℕ) → i < n → r ≡ true → true ≡ has topic (first_in s ranges n)
      found n l h =
          sym (first_more topic (i + 1) n (omega arith)
          (rw first_on (has_right topic (first_in s ranges i) (p ∷ []) (rw (same-eq p topic (sym said ∙ h)) (has_here topic [])))))

      pub passed : has topic (first_in s ranges i) ≡ false → r ≡ false → has topic (first_in s ranges (i + 1)) ≡ false
      unfolding has
      passed o h = rw (first_on, has_append topic (first_in s ranges i) (p ∷ []), o, ← said, h)

    -- and how many different ones there are with it, besides others
    module _ (others : List (List ℕ)) {r : Bool} (said : r ≡ has p (first_in s ranges i ++ others)) {count : ℕ}
        (counted : count ≡ different (first_in s ranges i ++ others)) where
      beside : first_in s ranges (i + 1) ++ others ≡ first_in s ranges i ++ p ∷ others
      beside = rw (first_on, append_assoc)

      pub one-different : {more : ℕ} → more ≡ count + 1 → not r ≡ true → more ≡ different (first_in s ranges (i + 1) ++ others)
      one-different e h = e ∙ rw (counted, beside, inserted (first_in s ranges i) others p) (sym (new-first p _ (sym said ∙ not-true r h)))

      pub none-different : {more : ℕ} → more ≡ count → not r ≡ false → more ≡ different (first_in s ranges (i + 1) ++ others)
      none-different e h = e ∙ rw (counted, beside, inserted (first_in s ranges i) others p) (sym (old_first p _ (sym said ∙ not-false r h)))

-- a range set behind the first n leaves those as they are
kept-first : (s : List ℕ) (ranges : Ranges) (i count : ℕ) (range : Range) (n : ℕ) → n ≤ i →
    first_in s (record { rows = set ranges.rows i range; count = count }) n ≡ first_in s ranges n
unfolding first_in
kept-first s ranges i count range zero h = refl
kept-first s ranges i count range (suc n) h =
    rw (kept-first s ranges i count range n (omega arith), get_or-set_other ranges.rows i n range no_range (omega arith))

-- as long as there is room, all that are counted are in use
use-all : (ranges : Ranges) → ranges.count ≤ most_topics → in_use ranges ≡ ranges.count
unfolding in_use
use-all ranges h = picked (λ (n : ℕ). n ≡ ranges.count) (ltb ranges.count most_topics) (λ k. refl) (λ k. omega (arith, ltb-false ranges.count most_topics k))

-- the ranges have all their rows, and these topics stand in them
pub record Stand (s : List ℕ) (ranges : Ranges) (topics : List (List ℕ)) : Type 0 where
  pub laid : length ranges.rows ≡ most_topics
  pub counted : ranges.count ≡ length topics
  pub are : topics_in s ranges ≡ topics

pub none-stand : (s : List ℕ) → Stand s no_ranges []
unfolding no_ranges topics_in in_use first_in
none-stand s = record { laid = refl; counted = refl; are = refl }

-- with one range more they stand with its topic behind them
module _ (s : List ℕ) {ranges : Ranges} {topics : List (List ℕ)} (g : Stand s ranges topics) (room : length topics < most_topics) where
  below : ranges.count < most_topics
  below = omega (arith, g.counted)

  module _ (start end : ℕ) where
    range : Range
    range = record { start = start; end = end }

    more : Ranges
    more = record { rows = set ranges.rows ranges.count range; count = ranges.count + 1 }

    added : with_range ranges start end ≡ more
    unfolding with_range more range
    added = rw (lt-ltb ranges.count most_topics below)

    in_row : part_of s start end ≡ part_of s (get_or more.rows ranges.count no_range).start (get_or more.rows ranges.count no_range).end
    unfolding more range
    in_row = rw (get_or-set_same ranges.rows ranges.count range no_range (omega (arith, below, g.laid)))

    topics-added : topics_in s more ≡ topics_in s ranges ++ part_of s start end ∷ []
    unfolding topics_in more
    topics-added =
        let n = ranges.count in
        ap (first_in s more) (use-all more (omega (arith, below)))
        ∙ first_on s more n in_row
        ∙ rw (kept-first s ranges n (n + 1) range n (omega arith), use-all ranges (omega (arith, below)))

    pub one-stands : Stand s (with_range ranges start end) (topics ++ part_of s start end ∷ [])
    unfolding more
    one-stands =
        rw added
        (record {
          laid = length-set ranges.rows ranges.count range ∙ g.laid;
          counted = rw (length-append, g.counted);
          are = topics-added ∙ rw g.are;
        })

  pub name-stands : (name : Name) → Stand s (with_name ranges name) (topics ++ name_in s name ∷ [])
  unfolding with_name name_in
  name-stands name = one-stands name.start (name.start + name.length)

  -- one topic more, if there is one
  pub topic-stands : (x : Option Name) → Stand s (with_topic ranges x) (topics ++ topic_by (name_in s) x)
  unfolding with_topic topic_by
  topic-stands None = rw append-nil g
  topic-stands (Some name) = name-stands name

pub topic-few : (written : Name → List ℕ) (topics : List (List ℕ)) (x : Option Name) → length (topics ++ topic_by written x) ≤ length topics + 1
unfolding topic_by
topic-few written topics None = rw append-nil (omega arith)
topic-few written topics (Some name) = rw length-append (omega arith)

-- names whose ranges words give: their topics stand behind those that stand already
pub words-stand : (s : List ℕ) {ranges : Ranges} {topics : List (List ℕ)} → Stand s ranges topics → (names : List Name) →
    length topics + length names ≤ most_topics → Stand s (ranges_from ranges (range_words names)) (topics ++ map (name_in s) names)
unfolding ranges_from range_words
words-stand s g [] room = rw append-nil g
words-stand s {ranges = ranges} {topics = topics} g (n ∷ ns) room =
    rw (append_assoc) at
    (words-stand s {ranges = with_name ranges n} {topics = topics ++ name_in s n ∷ []} (name-stands s g (omega arith) n) ns (omega (arith, length-append topics (name_in s n ∷ []))))

pub topics_at_lem : (s : List ℕ) (names : List Name) → length names ≤ most_topics → topics_at s (range_words names) ≡ map (name_in s) names
unfolding topics_at ranges_of
topics_at_lem s names room = (words-stand s (none-stand s) names (omega arith)).are

-- without earlier ones, those that are lent are all that count
pub lent-alone : (lent s : List ℕ) (words : List ℕ) → length words ≡ 0 → lent_with lent s words ≡ lent_topics lent
unfolding range_words
lent-alone lent s [] e = rw (topics_at_lem s [] (omega arith), append-nil)
lent-alone lent s (x ∷ words) e = absurd (omega arith)
