-- The kinds of rows that have a name: "K is lamp, group, device or input" (document 01, "The name sheet").
use Rattle.std.specs.Prelude.{ℕ, List, eqb, Option, Some, None}
use Rattle.text.specs.Choice.{pick}
use Rattle.text.specs.Literal.{ascii}
use Rattle.text.specs.Part.{same_bytes}
use Rattle.model.specs.Limits.{last_group, last_short_address}

-- a kind's number; none is no kind
abbrev pub no_kind : ℕ
no_kind = 0

abbrev pub lamp_kind : ℕ
lamp_kind = 1

abbrev pub group_kind : ℕ
group_kind = 2

abbrev pub device_kind : ℕ
device_kind = 3

abbrev pub input_kind : ℕ
input_kind = 4

-- the kind that a word names, if it names one
unfoldable pub kind_of : List ℕ → Option ℕ
kind_of w =
    pick (same_bytes w (ascii "lamp")) (Some lamp_kind)
    (pick (same_bytes w (ascii "group")) (Some group_kind)
    (pick (same_bytes w (ascii "device")) (Some device_kind)
    (pick (same_bytes w (ascii "input")) (Some input_kind) None)))

-- "N at most 63 (15 for group)"
unfoldable pub most_of : ℕ → ℕ
most_of kind = pick (eqb kind group_kind) last_group last_short_address
