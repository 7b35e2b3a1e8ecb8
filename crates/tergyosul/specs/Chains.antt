-- The answer of tergyosul_next_chain as words, for callers in C and Rust.
use Rattle.std.specs.Prelude.{ℕ, List, ◌∷◌}
use Rattle.std.proofs.lemmas.List.Edits.{sets}
use Rattle.text.specs.Place.{counted}
use Rattle.chains.specs.declared.Chain.{Chain}
use Rattle.tergyosul.specs.Room.{by_room}

-- "TERGYOSUL_CHAIN_WORDS": number, line, column, detail, the count of the pieces, and fifteen pieces
abbrev pub chain_answer_words : ℕ
chain_answer_words = 20

-- the refusal, whose place is 0:0, or four zeros; then the count and the pieces, those past the count 0
unfoldable pub chain_flat : Chain → List ℕ → List ℕ
chain_flat c answer = by_room chain_answer_words answer answer (sets answer 0 (c.number ∷ 0 ∷ 0 ∷ 0 ∷ counted c.count ∷ c.pieces))
