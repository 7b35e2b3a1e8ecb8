-- Rows that are made for a list convert to the same list (specs/Meaning.antt).
use Prim.Native.Nat.{ℕ, ◌≤◌, ◌<◌}
use native.Mathlib.Omega.{arith}
use mathlib.Core.Path.{◌≡◌, refl}
use mathlib.Core.Bool.{Bool, true, false}
use mathlib.Core.List.{List}
use lib.ListN.{length}
use lib.Seq.{length-take-le}
use lib.Dec.{ltb, leb, eqb}
use borrow.Author.Tests.{leb-true, eqb-true, eqb-false}
use Rattle.text.specs.Choice.{within}
use Rattle.text.proofs.Tests.{picked, both}
use Rattle.model.specs.Ranges.{Each}
use Rattle.model.specs.declared.TriggerRow.{TriggerRow}
use Rattle.model.specs.declared.Triggers.{Triggers}
use Rattle.sheet.specs.Sheet.{Sheet, well_formed, bad_line_rule, sheet_check}
use Rattle.sheet.specs.View.{View, seen, own_primary}
use Rattle.language.specs.Limits.{most_triggers}
use Rattle.language.specs.Read.{rule_call}
use Rattle.writing.specs.Writing.{Outcome, refused_at, written_with, failing}
use Rattle.writing.proofs.FailingLaws.{all_pass}
use Rattle.rereading.proofs.WrittenLaws.{text_in}
use Rattle.old_rows.specs.Convert.{by_primary, by_sheet as rows_by_sheet, rows_of}
use Rattle.old_rows.specs.Back.{least_bytes, triggers_in, rows_for, is_change, first_other, is_named, first_unnamed, by_names, by_entries, by_room, by_sheet, back_of}
use Rattle.row_meaning.specs.Meaning.{RowsConvertBack}
use Rattle.row_meaning.proofs.RowsConvert.{made-convert}

module _ (party primary : ℕ) (sheet : List ℕ) (l : Triggers) (conditions : ℕ) (buffer : List ℕ) where
  abbrev view : View
  view = seen (rule_call party primary) sheet

  -- rows are made only where 3, 53, 61 and 62 do not refuse, and then they are what is written
  record GoesBack (o : Outcome) : Type 0 where
    sheet_passes : sheet_check sheet ≡ well_formed
    own : own_primary (rule_call party primary) sheet ≡ true
    count : within 1 most_triggers l.count ≡ true
    changes : Each (λ (x : TriggerRow). is_change x ≡ true) (triggers_in l)
    named : Each (λ (x : TriggerRow). is_named view x ≡ true) (triggers_in l)
    writes : o ≡ written_with (rows_for view (triggers_in l)) buffer

  abbrev Only : Outcome → Type 0
  Only o = o.answer.number ≡ 0 → GoesBack o

  -- where no entry is another, every trigger is a change
  all_changes : first_other l conditions ≡ 0 → Each (λ (x : TriggerRow). is_change x ≡ true) (triggers_in l)
  unfolding first_other
  all_changes =
      let n = failing is_change 1 (triggers_in l) in
      picked (λ (k : ℕ). k ≡ 0 → Each (λ (x : TriggerRow). is_change x ≡ true) (triggers_in l)) (eqb n 0)
      (λ e _. all_pass is_change 0 (triggers_in l) (eqb-true n 0 e))
      (λ e h. absurd (eqb-false n 0 e h))

  only : (own : Bool) → own_primary (rule_call party primary) sheet ≡ own → (x : Sheet) → sheet_check sheet ≡ x →
      Only (by_sheet view l conditions buffer own x)
  unfolding by_sheet by_room by_entries by_names first_unnamed refused_at
  only own e (bad_line_rule n) f = λ z. absurd (omega arith)
  only false e well_formed f = λ z. absurd (omega arith)
  only true e well_formed f =
      picked Only (ltb (length buffer) least_bytes)
      (λ _ z. absurd (omega arith))
      (λ _.
      picked Only (within 1 most_triggers l.count)
      (λ count.
      picked Only (eqb (first_other l conditions) 0)
      (λ changes.
      picked Only (eqb (failing (is_named view) 1 (triggers_in l)) 0)
      (λ named z.
      record {
        sheet_passes = f;
        own = e;
        count = count;
        changes = all_changes (eqb-true _ _ changes);
        named = all_pass (is_named view) 0 (triggers_in l) (eqb-true _ _ named);
        writes = refl;
      })
      (λ _ z. absurd (omega arith)))
      (λ _ z. absurd (omega arith)))
      (λ _ z. absurd (omega arith)))

  goes_back : Only (back_of party primary sheet l conditions buffer)
  unfolding back_of
  goes_back = only _ refl _ refl

-- one to four rows are in use
in_use_lem : (l : Triggers) → length l.rows ≡ 4 → within 1 most_triggers l.count ≡ true →
    (0 < length (triggers_in l)) × (length (triggers_in l) ≤ most_triggers)
in_use_lem l four count =
    let h = both (leb 1 l.count) count in
    let least = leb-true 1 l.count h.0 in
    let most = leb-true l.count most_triggers h.1 in
    let long = length-take-le l.count l.rows (omega arith) in
    (omega arith, omega arith)

pub rows-convert_back : RowsConvertBack
unfolding rows_of rows_by_sheet by_primary
rows-convert_back party primary sheet l conditions buffer four z =
    let m = goes_back party primary sheet l conditions buffer z in
    let (some, few) = in_use_lem l four m.count in
    rw (m.writes, text_in, m.sheet_passes, m.own)
    (made-convert (rule_call party primary) sheet (triggers_in l) m.changes m.named some few)
