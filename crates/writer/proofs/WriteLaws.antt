-- The call's questions one after the other are the definition of the whole call.
use Prim.Native.Nat.{ℕ, ◌<◌, ◌≤◌}
use native.Mathlib.Omega.{arith}
use mathlib.Core.Path.{◌≡◌, ap}
use mathlib.Core.Bool.{Bool, true, false}
use mathlib.Core.List.{List}
use lib.ListN.{length}
use borrow.Author.Tests.{lt-ltb, le-ltb, eq-eqb, ne_eqb}
use mir.Syntax.{w8, w32}
use mir.Val
use Rattle.std.specs.Prelude.{Result, Ok, Err}
use Rattle.sheet.specs.Adapters.{has}
use Rattle.sheet.specs.Survey.{survey_of}
use Rattle.sheet.specs.View.{View, seen, view_of}
use Rattle.sheet.specs.declared.Habit.{Habit}
use Rattle.sheet.specs.declared.Settings.{Settings}
use Rattle.sheet.specs.declared.rows.BadLine.{BadLine}
use Rattle.sheet.specs.declared.rows.Said.{Said}
use Rattle.sheet.proofs.CallLaws.{sheet-bad, sheet-good, own_is, view-is}
use Rattle.language.specs.Read.{rule_call}
use Rattle.writing.specs.Pieces.{spaced}
use Rattle.writing.specs.Writing.{least_bytes, possible_counts, first_impossible, list_pieces, first_unreached, refused_at, written_with, by_reached, by_possible, by_room, by_sheet, write_of}
use Rattle.writing.specs.declared.Lists.{Lists}
use Rattle.writing.proofs.LengthLaws.{text-fits}
use Rattle.writing.proofs.OutcomeLaws.{handed_on}
use Rattle.spelling.specs.Put.{Put, Fits}
use Rattle.spelling.proofs.PutLaws.{put_whole}

-- there is room for the text of a possible list, and its length is a word
module _ (first second : List ℕ) (l : Lists) (b : List ℕ)
    (pre : (least_bytes ≤ length b) × ((possible_counts l ≡ true) × (first_impossible first second l ≡ 0))) where
  pub rule_fits : (primary : ℕ) → Fits b 0 (spaced (list_pieces first second primary l))
  rule_fits primary =
      let room = pre.0 in
      record { room = omega (arith, text-fits first second primary l pre.1.0 pre.1.1) }

  pub length_in_word : (primary : ℕ) → {to : ℕ} {after : List ℕ} → Put b 0 (spaced (list_pieces first second primary l)) after to → mir.Val.Fits w32 to
  length_in_word primary p =
      let place = p.place in
      record { fits = omega (arith, text-fits first second primary l pre.1.0 pre.1.1) }

  -- 56 and the text
  module _ (settings : Settings) (sheet : List ℕ) {n : ℕ} (unreached : n ≡ first_unreached (view_of settings sheet) l) where
    pub unnamed : (n ≡ 0 → ⊥) → refused_at 56 n b ≡ by_reached (view_of settings sheet) first second l b
    unfolding by_reached
    unnamed h = rw (← unreached, ne_eqb n 0 h)

    all_named : n ≡ 0 → written_with (spaced (list_pieces first second settings.primary l)) b ≡ by_reached (view_of settings sheet) first second l b
    unfolding by_reached view_of
    all_named h = rw (← unreached, eq-eqb n 0 h)

    pub written : {after : List ℕ} {to : ℕ} → n ≡ 0 → Put b 0 (spaced (list_pieces first second settings.primary l)) after to →
        (record { number = 0; line = 0; column = 0; detail = 0; length = to } ≡ (by_reached (view_of settings sheet) first second l b).answer)
        × (after ≡ (by_reached (view_of settings sheet) first second l b).buffer)
    unfolding written_with
    written h p =
        let room = (rule_fits settings.primary).room in
        let k = put_whole b (spaced (list_pieces first second settings.primary l)) (omega arith) p in
        handed_on (all_named h) (ap (λ (n : ℕ). record { number = 0; line = 0; column = 0; detail = 0; length = n }) k.1, k.0)

-- 54 and 55
module _ (view : View) (first second : List ℕ) (l : Lists) (b : List ℕ) where
  pub too_small : length b < least_bytes → refused_at 54 0 b ≡ by_room view first second l b true
  unfolding by_room
  too_small h = rw (lt-ltb (length b) least_bytes h)

  module _ (room : least_bytes ≤ length b) {counts : Bool} (counted : counts ≡ possible_counts l) where
    pub miscounted : counts ≡ false → refused_at 55 0 b ≡ by_room view first second l b true
    unfolding by_room by_possible
    miscounted e = rw (le-ltb (length b) least_bytes room, ← counted, e)

    module _ (few : counts ≡ true) {n : ℕ} (impossible : n ≡ first_impossible first second l) where
      pub not-possible : (n ≡ 0 → ⊥) → refused_at 55 n b ≡ by_room view first second l b true
      unfolding by_room by_possible
      not-possible h = rw (le-ltb (length b) least_bytes room, ← counted, few, ← impossible, ne_eqb n 0 h)

      pub all-possible : n ≡ 0 → by_reached view first second l b ≡ by_room view first second l b true
      unfolding by_room by_possible
      all-possible h = rw (le-ltb (length b) least_bytes room, ← counted, few, ← impossible, eq-eqb n 0 h)

-- the sheet and 53
module _ (party primary : ℕ) (first second sheet : List ℕ) (l : Lists) (b : List ℕ) {survey : Result Said BadLine} (checked : survey ≡ survey_of party sheet) where
  pub bad_sheet : {bad : BadLine} → survey ≡ Err bad → refused_at 3 bad.line b ≡ write_of party primary first second sheet l b
  unfolding write_of by_sheet
  bad_sheet is = rw (sheet-bad (rule_call party primary) sheet checked is)

  module _ {said : Said} (good : survey ≡ Ok said) (byte : mir.Val.Fits w8 primary) {own : Bool}
      (has-own : own ≡ has said.own primary) where
    outcome-is : by_room (seen (rule_call party primary) sheet) first second l b own ≡ write_of party primary first second sheet l b
    unfolding write_of by_sheet
    outcome-is =
        let call = rule_call party primary in
        rw (sheet-good call sheet checked good, ← own_is call sheet checked good byte has-own)

    pub not_own_lem : own ≡ false → refused_at 53 0 b ≡ write_of party primary first second sheet l b
    unfolding by_room
    not_own_lem h = rw h at outcome-is

    pub is_own : own ≡ true → by_room (view_of (record { primary = primary; habit = Habit.Rule; own = said.own; listed = said.listed }) sheet) first second l b true ≡ write_of party primary first second sheet l b
    is_own h = rw (view-is (rule_call party primary) sheet checked good) (rw h at outcome-is)
