-- The limits that document 01 sets to the forms of a rule; the ranges of the standards are in the model's Limits.
use Rattle.std.specs.Prelude.{ℕ}

-- "Text: one to four `when` TRIGGER" (37)
abbrev pub most_triggers : ℕ
most_triggers = 4

-- "with up to three `and` CONDITION" (39)
abbrev pub most_ands : ℕ
most_ands = 3

-- "Every period at least 1,000 ms? 35"
abbrev pub least_period : ℕ
least_period = 1000

-- "Solar offset within 32 signed bits? 36": the longest later than the event, and the longest before it
abbrev pub most_later : ℕ
most_later = 2147483647

abbrev pub most_earlier : ℕ
most_earlier = 2147483648

-- "var text at most 16? 24"
abbrev pub most_text : ℕ
most_text = 16
