-- The answer of joining as words (include/tergyosul.h): an answer's, with six more in the words of row 0 that a reading leaves 0.
use Rattle.std.specs.Prelude.{ℕ, List, [], ◌∷◌, ◌++◌, length, eqb, ltb}
use Rattle.std.proofs.lemmas.List.Edits.{sets}
use Rattle.text.specs.Choice.{pick}
use Rattle.flat.specs.Flat.{answer_words, flat}
use Rattle.join.specs.declared.Joined.{Joined}

-- "word 6: the text that is refused, 1 or 2, else 0"
abbrev pub which_word : ℕ
which_word = 6

-- "word 11: the text of the conditions, 1, or 0 where there are none"
unfoldable pub conditions_from : Joined → ℕ
conditions_from j = pick (eqb j.answer.conditions.count 0) 0 1

-- "words 7 to 10: the text of each trigger, 1 or 2, or 0 for a row that is not in use"
unfoldable pub origin_words : Joined → List ℕ
origin_words j = j.which ∷ j.from ++ conditions_from j ∷ []

-- unchanged where there is no room for an answer
unfoldable pub flat_joined : List ℕ → Joined → List ℕ
flat_joined words j = pick (ltb (length words) answer_words) words (sets (flat words j.answer) which_word (origin_words j))
