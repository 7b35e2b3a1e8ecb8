-- Converting the previous owners' rows, for callers in C and Rust (include/tergyosul.h): what the words of an answer have of a list that is converted
-- back. The texts of names play no part, and of the conditions only their count does.
use Rattle.std.specs.Prelude.{ℕ, List, map}
use Rattle.model.specs.declared.TriggerRow.{TriggerRow}
use Rattle.model.specs.declared.Triggers.{Triggers}
use Rattle.flat.specs.Back.{word}
use Rattle.writing.specs.declared.TriggerFrom.{TriggerFrom}
use Rattle.writing.specs.declared.TriggersFrom.{TriggersFrom}
use Rattle.tergyosul.specs.Writing.{triggers_in}

-- of words that are no trigger's row it is a trigger that no row says (`trigger_from`), which is refused with 61
unfoldable pub without_text : TriggerFrom → TriggerRow
without_text x = record { trigger = x.trigger }

unfoldable pub without_texts : TriggersFrom → Triggers
without_texts t = record { rows = map without_text t.rows; count = t.count }

unfoldable pub triggers_alone : List ℕ → Triggers
triggers_alone words = without_texts (triggers_in words)

-- "count of conditions"
unfoldable pub condition_count : List ℕ → ℕ
condition_count words = word words 5
