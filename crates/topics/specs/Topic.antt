-- What a topic may be (document 02, §12).
use Rattle.std.specs.Prelude.{ℕ, List, [], ◌∷◌, Bool, true, false, length, ltb, eqb}
use Rattle.text.specs.Choice.{pick}
use Rattle.text.specs.Utf8.{Character, chars}
use Rattle.text.specs.Category.{is_control, is_noncharacter}
use Rattle.model.specs.Limits.{longest_name}

-- "no `+`, `#`, control character or Unicode noncharacter"
unfoldable pub is_forbidden : ℕ → Bool
is_forbidden c = pick (eqb c 0x2B) true (pick (eqb c 0x23) true (pick (is_control c) true (is_noncharacter c)))

unfoldable pub forbidden_among : List Character → Bool
forbidden_among [] = false
forbidden_among (ch ∷ cs) = pick (is_forbidden ch.code) true (forbidden_among cs)

-- whether one of a topic's characters is forbidden; of bytes that are not UTF-8 those before the first place where none begins are judged
unfoldable pub forbidden : List ℕ → Bool
forbidden topic = forbidden_among (chars topic 0)

-- "A topic has 1 to 48 bytes"; "an empty or forbidden topic with 64, then one over 48 bytes with 65"; 0 of any other
unfoldable pub topic_number : List ℕ → ℕ
topic_number topic =
    pick (eqb (length topic) 0) 64 (pick (forbidden topic) 64 (pick (ltb longest_name (length topic)) 65 0))
