-- A test of what language/specs/Same.antt states of two entries: "Equality is by record, names and other strings by bytes, here and below" (document 02, §3).
-- The words of the entries without their names are the same (flat/specs/Flat.antt), and so are their names, byte for byte. `same_trigger_lem` and `same_condition_lem`
-- (proofs/SameLaws.antt) show that it says yes exactly for entries of readings that are the same, so that nothing here need be believed.
use Rattle.std.specs.Prelude.{ℕ, ◌≡◌, List, Bool, false, get_or}
use Rattle.text.specs.Choice.{pick}
use Rattle.text.specs.Part.{same_bytes}
use Rattle.topics.specs.Ranges.{name_in}
use Rattle.model.specs.declared.Name.{Name}
use Rattle.model.specs.declared.Trigger.{Trigger}
use Rattle.model.specs.declared.Condition.{Condition}
use Rattle.flat.specs.Flat.{trigger_words, condition_words, whole_row}
use Rattle.language.specs.Same.{Parts, no_name, trigger_parts, condition_parts}
use Rattle.compare.specs.declared.Entry.{Entry}

-- an entry: the row of it without its names, and its names, of which no entry has more than two; one that it does not have has no bytes
abbrev pub entry_with : List ℕ → List Name → Entry
entry_with row names = record { row = row; first = get_or names 0 no_name; second = get_or names 1 no_name }

-- the parts of an entry, or of a value in it, of which no part has more than two names
abbrev pub IsParts : {A : Type 0} → Parts A → A → Name → Name → Type 0
IsParts p bare first second = (bare ≡ p.bare) × (first ≡ get_or p.names 0 no_name) × (second ≡ get_or p.names 1 no_name)

unfoldable pub trigger_entry : Trigger → Entry
trigger_entry x = entry_with (whole_row (trigger_words (trigger_parts x).bare)) (trigger_parts x).names

unfoldable pub condition_entry : Condition → Entry
condition_entry y = entry_with (whole_row (condition_words (condition_parts y).bare)) (condition_parts y).names

-- whether two entries are the same: x, whose names stand in a, and y, whose names stand in b
unfoldable pub same_entry : List ℕ → List ℕ → Entry → Entry → Bool
same_entry a b x y =
    pick (same_bytes x.row y.row)
    (pick (same_bytes (name_in a x.first) (name_in b y.first)) (same_bytes (name_in a x.second) (name_in b y.second)) false)
    false

unfoldable pub same_trigger : List ℕ → List ℕ → Trigger → Trigger → Bool
same_trigger a b x y = same_entry a b (trigger_entry x) (trigger_entry y)

unfoldable pub same_condition : List ℕ → List ℕ → Condition → Condition → Bool
same_condition a b x y = same_entry a b (condition_entry x) (condition_entry y)
