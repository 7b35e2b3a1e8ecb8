-- What a text gives, the records of its tokens and how that ends, and the limits on it.
use Rattle.std.specs.Prelude.{ℕ, ◌-◌, ◌*◌}
use Rattle.text.specs.Place.{counted}
use Rattle.text.specs.declared.place.Place.{Place}
use Rattle.tokens.specs.Record.{record_size}
use Rattle.tokens.specs.declared.record.Record.{Record}

-- at most 1,024 tokens
abbrev pub most_tokens : ℕ
most_tokens = 1024

-- the longest text, and the fewest words that are lent: room for the most tokens
abbrev pub most_bytes : ℕ
most_bytes = 16384

abbrev pub least_words : ℕ
least_words = most_tokens * record_size

-- the record of a token: its bytes, and the place where it begins
unfoldable pub record_of : ℕ → ℕ → ℕ → ℕ → Place → Record
record_of kind number start end p =
    record {
      kind = kind;
      number = number;
      start = counted start;
      length = counted (end - start);
      line = p.line;
      column = p.column;
    }

-- the records of a text, in order, and behind them how lexing ends: at the place of the text's end, or refused at a place
pub data Lexing : Type 0 where
  ended : Place → Lexing
  refused : ℕ → Place → Lexing
  token : Record → Lexing → Lexing
