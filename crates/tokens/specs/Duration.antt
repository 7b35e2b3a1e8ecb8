-- Durations: the written decimal times the unit, exactly (document 01, questions 16 to 18, and document 02 §2).
use Rattle.std.specs.Prelude.{ℕ, ◌+◌, ◌*◌, ◌/◌, ◌%◌, ◌^◌, List, ltb, eqb, Result, Ok, Err}
use Rattle.text.specs.Choice.{pick}
use Rattle.text.specs.Literal.{ascii}
use Rattle.text.specs.Part.{same_bytes}
use Rattle.tokens.specs.Amount.{most_ms}

-- the milliseconds of ms, s, m and h; 0 of any other letters
unfoldable pub unit_of : List ℕ → ℕ
unit_of w =
    pick (same_bytes w (ascii "ms")) 1
    (pick (same_bytes w (ascii "s")) 1000
    (pick (same_bytes w (ascii "m")) 60000
    (pick (same_bytes w (ascii "h")) 3600000 0)))

-- at most 4,294,967,295? 17
unfoldable pub bounded_ms : ℕ → Result ℕ ℕ
bounded_ms ms = pick (ltb most_ms ms) (Err 17) (Ok ms)

-- n parts of which scale make a millisecond: a whole number of milliseconds? 18
unfoldable pub whole_ms : ℕ → ℕ → Result ℕ ℕ
whole_ms n scale = pick (eqb (n % scale) 0) (bounded_ms (n / scale)) (Err 18)

-- the amount of whole.frac, with d digits behind the point, of a unit: the one that Amount.antt allows (proofs/AmountLaws.antt)
unfoldable pub amount : ℕ → ℕ → ℕ → ℕ → Result ℕ ℕ
amount whole frac d unit = whole_ms ((whole * 10 ^ d + frac) * unit) (10 ^ d)
