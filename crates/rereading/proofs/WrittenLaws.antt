-- A call writes where all that is asked of it is met, and only there; then it writes the pieces of its lists, with one space between.
use Prim.Native.Nat.{ℕ, ◌≤◌}
use native.Mathlib.Omega.{arith}
use mathlib.Core.Path.{◌≡◌, refl}
use mathlib.Core.Bool.{Bool, true, false}
use mathlib.Core.List.{List}
use lib.ListN.{length, drop}
use lib.Seq.{take-append_seam}
use lib.Dec.{ltb, eqb}
use borrow.Author.Tests.{le-ltb, ltb-false, eqb-true, eq-eqb}
use Rattle.text.proofs.Tests.{picked}
use Rattle.sheet.specs.Sheet.{Sheet, well_formed, bad_line_rule, sheet_check}
use Rattle.sheet.specs.View.{View, seen, own_primary}
use Rattle.language.specs.Read.{rule_call}
use Rattle.writing.specs.Pieces.{spaced}
use Rattle.writing.specs.Writing.{least_bytes, possible_counts, first_impossible, first_unreached, list_pieces, Outcome, refused_at, written_with, by_reached, by_possible, by_room, by_sheet, write_of}
use Rattle.writing.specs.declared.Lists.{Lists}
use Rattle.rereading.specs.Rereading.{written_in}

module _ (party primary : ℕ) (first second sheet : List ℕ) (l : Lists) where
  abbrev view : View
  view = seen (rule_call party primary) sheet

  -- 3, 53, 55 and 56
  pub record Writes : Type 0 where
    pub sheet_passes : sheet_check sheet ≡ well_formed
    pub own : own_primary (rule_call party primary) sheet ≡ true
    pub counts : possible_counts l ≡ true
    pub possible : first_impossible first second l ≡ 0
    pub reached : first_unreached view l ≡ 0

  abbrev pub text_for : List ℕ
  text_for = spaced (list_pieces first second primary l)

  -- and 54
  pub writes : (buffer : List ℕ) → Writes → least_bytes ≤ length buffer → write_of party primary first second sheet l buffer ≡ written_with text_for buffer
  unfolding write_of by_sheet by_room by_possible by_reached seen
  writes buffer w room =
      rw (w.sheet_passes, w.own, le-ltb (length buffer) least_bytes room, w.counts, eq-eqb _ 0 w.possible, eq-eqb _ 0 w.reached)

  module _ (buffer : List ℕ) where
    abbrev Only : Outcome → Type 0
    Only o = o.answer.number ≡ 0 → Writes × (least_bytes ≤ length buffer)

    only : (own : Bool) → own_primary (rule_call party primary) sheet ≡ own → (x : Sheet) → sheet_check sheet ≡ x →
        Only (by_sheet view first second l buffer own x)
    unfolding by_sheet by_room by_possible by_reached refused_at
    only own e (bad_line_rule n) f = λ z. absurd (omega arith)
    only false e well_formed f = λ z. absurd (omega arith)
    only true e well_formed f =
        picked Only (ltb (length buffer) least_bytes)
        (λ small z. absurd (omega arith))
        (λ room.
        picked Only (possible_counts l)
        (λ counts.
        picked Only (eqb (first_impossible first second l) 0)
        (λ possible.
        picked Only (eqb (first_unreached view l) 0)
        (λ reached z. (
          record { sheet_passes = f; own = e; counts = counts; possible = eqb-true _ _ possible; reached = eqb-true _ _ reached },
          ltb-false _ _ room,
        ))
        (λ other z. absurd (omega arith)))
        (λ other z. absurd (omega arith)))
        (λ other z. absurd (omega arith)))

    pub writes_only : Only (write_of party primary first second sheet l buffer)
    unfolding write_of
    writes_only = only _ refl _ refl

-- the text that stands in the buffer
pub text_in : (text buffer : List ℕ) → written_in (written_with text buffer) ≡ text
unfolding written_with
text_in text buffer = take-append_seam text (drop (length text) buffer)
