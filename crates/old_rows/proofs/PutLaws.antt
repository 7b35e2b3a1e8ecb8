-- What a row is made of, part by part.
use Prim.Native.Nat.{ℕ}
use mathlib.Core.Path.{◌≡◌, sym, ap, ◌∙◌}
use mathlib.Core.List.{List, [], ◌∷◌, append_assoc, append-nil}
use Rattle.spelling.proofs.PutLaws.{Made, joined}
use Rattle.writing.specs.Pieces.{decimal}
use Rattle.old_rows.specs.Back.{kind_word, change_word, row_bytes}
use Rattle.old_rows.specs.declared.row.Change.{Change}

-- what is written of a value, where the value is known
pub word-form : {A : Type 0} (f : A → List ℕ) {x y : A} {bytes : List ℕ} → x ≡ y → f y ≡ bytes → Made (f x) (bytes ∷ [])
unfolding joined
word-form f e h = record { parts_of = ap f e ∙ h ∙ sym (append-nil _) }

pub adapter-made : (adapter : ℕ) → Made (0x2C ∷ decimal adapter) ((0x2C ∷ []) ∷ decimal adapter ∷ [])
unfolding joined
adapter-made adapter = record { parts_of = rw append-nil }

pub row_made : (change : Change) (name : List ℕ) (adapter : ℕ) →
    Made (row_bytes change name adapter) (kind_word change ∷ name ∷ (0x2C ∷ decimal adapter) ∷ change_word change ∷ [])
unfolding joined row_bytes
row_made change name adapter = record { parts_of = simp (append_assoc, append-nil) }
