-- Triggers without the texts of their names: four entries, one after the other; and words that are no trigger's.
use Prim.Native.Nat.{ℕ}
use native.Mathlib.Omega.{arith}
use mathlib.Core.Path.{◌≡◌, refl}
use mathlib.Core.Bool.{false}
use mathlib.Core.List.{List, [], ◌∷◌, map}
use lib.ListN.{length, get_or}
use Rattle.model.specs.declared.TriggerRow.{TriggerRow}
use Rattle.model.specs.declared.Triggers.{Triggers}
use Rattle.back.specs.Rows.{is_trigger_row}
use Rattle.old_rows.specs.Row.{is_known}
use Rattle.old_rows.specs.Back.{changed_by, other, changed_of, is_change}
use Rattle.writing.specs.declared.TriggerFrom.{TriggerFrom}
use Rattle.writing.specs.declared.TriggersFrom.{TriggersFrom}
use Rattle.tergyosul.specs.Converting.{without_text, without_texts}
use Rattle.tergyosul.specs.Writing.{trigger_from}

four-mapped : {A B : Type 0} (f : A → B) (xs : List A) (z : A) → length xs ≡ 4 →
    f (get_or xs 0 z) ∷ f (get_or xs 1 z) ∷ f (get_or xs 2 z) ∷ f (get_or xs 3 z) ∷ [] ≡ map f xs
four-mapped f (a ∷ b ∷ c ∷ d ∷ []) z h = refl
four-mapped f [] z h = absurd (omega arith)
four-mapped f (a ∷ []) z h = absurd (omega arith)
four-mapped f (a ∷ b ∷ []) z h = absurd (omega arith)
four-mapped f (a ∷ b ∷ c ∷ []) z h = absurd (omega arith)
four-mapped f (a ∷ b ∷ c ∷ d ∷ x ∷ xs) z h = absurd (omega arith)

pub four-without : {a b c d : TriggerRow} (t : TriggersFrom) (z : TriggerFrom) → length t.rows ≡ 4 →
    a ≡ without_text (get_or t.rows 0 z) → b ≡ without_text (get_or t.rows 1 z) → c ≡ without_text (get_or t.rows 2 z) → d ≡ without_text (get_or t.rows 3 z) →
    ◌≡◌ {A = Triggers} (record { rows = a ∷ b ∷ c ∷ d ∷ []; count = t.count }) (without_texts t)
unfolding without_texts
four-without t z size e f g h = rw (e, f, g, h, four-mapped without_text t.rows z size)

-- "another trigger": no row says it
pub no_trigger_lem : (from : ℕ) (row : List ℕ) → is_trigger_row row ≡ false → is_change (without_text (trigger_from from row)) ≡ false
unfolding trigger_from without_text is_change changed_of other changed_by is_known
no_trigger_lem from row e = rw e
