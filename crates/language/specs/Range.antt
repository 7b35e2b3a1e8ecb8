-- A name or other string in a value: where its bytes stand in the rule text (document 01, "String a byte range").
use Rattle.std.specs.Prelude.{ℕ, List}
use Rattle.tokens.specs.Record.{start_at, length_at}
use Rattle.model.specs.declared.Name.{Name}

-- the range of a token's bytes. The definitions take it as a parameter of its own, apart from what they see of a token.
unfoldable pub range_of : List ℕ → ℕ → Name
range_of words i = record { start = start_at words i; length = length_at words i }
