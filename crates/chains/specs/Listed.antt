-- Document 02, §13: which sequences of pieces are listed, in which order, and what the generator answers.
use Rattle.std.specs.Prelude.{ℕ, ◌-◌, ◌≤◌, ◌<◌, ◌≡◌, true, List, [], ◌∷◌, ◌++◌, length, replicate}
use Rattle.sheet.specs.View.{View}
use Rattle.model.specs.Ranges.{Each}
use Rattle.model.specs.declared.Name.{Name}
use Rattle.model.specs.declared.Condition.{Condition}
use Rattle.language.specs.grammar.Text.{ConditionsOf}
use Rattle.chains.specs.Vocabulary.{piece_count, chain_tokens}
use Rattle.chains.specs.declared.Chain.{Chain}

-- "of at most fifteen tokens in all"
abbrev pub most_pieces : ℕ
most_pieces = 15

-- "every accepted chain of one to four conditions joined by `and`": the grammar reads all of its tokens as conditions, whatever the sheet, in a
-- call where an id may stand (View.antt)
pub record Listed (v : List ℕ) : Type 0 where
  pub some : 1 ≤ length v
  pub few : length v ≤ most_pieces
  pub pieces : Each (λ q. q < piece_count) v
  pub accepted : (view : View) (range : ℕ → Name) → ((i : ℕ) → view.allows i ≡ true) → (ys : List Condition) × ConditionsOf (chain_tokens v) view range 0 ys (length v)

-- "by the vocabulary's order token by token"
pub data Earlier : List ℕ → List ℕ → Type 0 where
  less : {x y : ℕ} {u w : List ℕ} → x < y → Earlier (x ∷ u) (y ∷ w)
  same : {x : ℕ} {u w : List ℕ} → Earlier u w → Earlier (x ∷ u) (x ∷ w)

-- "Shorter ones come first, then by the vocabulary's order"; no pieces at all come before every listed sequence
pub data Before (u w : List ℕ) : Type 0 where
  shorter : length u < length w → Before u w
  as_long : length u ≡ length w → Earlier u w → Before u w

-- w is the next one listed behind v
pub record Follows (v w : List ℕ) : Type 0 where
  pub listed : Listed w
  pub later : Before v w
  pub none_between : (u : List ℕ) → Listed u → Before v u → Before u w → ⊥

-- nothing listed comes behind v
pub record Last (v : List ℕ) : Type 0 where
  pub none_later : (u : List ℕ) → Listed u → Before v u → ⊥

-- "no tokens", or "one listed"
pub data Starts : List ℕ → Type 0 where
  nothing : Starts []
  listed : {v : List ℕ} → Listed v → Starts v

abbrev pub zeros : ℕ → List ℕ
zeros n = replicate n 0

-- the pieces and their count, those past the count 0
unfoldable pub chain : List ℕ → Chain
chain w = record { number = 0; count = length w; pieces = w ++ zeros (most_pieces - length w) }

-- "none follows": no pieces
abbrev pub none_follows : Chain
none_follows = chain []

-- "refuses a start that has tokens and is not itself in the list with 67, at 0:0"
unfoldable pub refused : Chain
refused = record { number = 67; count = 0; pieces = zeros most_pieces }

-- "Given no tokens, the generator yields the first; given one listed, the next, or that none follows."
pub data Answered (v : List ℕ) : Chain → Type 0 where
  next : {w : List ℕ} → Starts v → Follows v w → Answered v (chain w)
  none : Starts v → Last v → Answered v none_follows
  not_listed : (Starts v → ⊥) → Answered v refused
