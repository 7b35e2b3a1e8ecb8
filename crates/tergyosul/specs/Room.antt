-- The room for the answer of a call from C or Rust. "If answer is too short, nothing is read and nothing is written" (include/tergyosul.h).
use Rattle.std.specs.Prelude.{ℕ, List, length, ltb}
use Rattle.text.specs.Choice.{pick}

-- "TERGYOSUL_NO_ROOM": the result of a call without room for its answer
abbrev pub no_room : ℕ
no_room = 4294967295

-- "TERGYOSUL_LEX_WORDS": the length of an answer of tergyosul_lex; that of one of tergyosul_read is `answer_words`
abbrev pub lex_answer_words : ℕ
lex_answer_words = 4

-- what comes of a call whose answer takes so many words: one thing where the lent ones are fewer, another where there is room
unfoldable pub by_room : {A : Type 0} → ℕ → List ℕ → A → A → A
by_room needed answer none some = pick (ltb (length answer) needed) none some
