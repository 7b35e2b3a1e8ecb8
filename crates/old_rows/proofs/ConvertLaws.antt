-- The rows one by one, and the call's questions one after the other, are the definition of the whole call.
use Rattle.std.specs.Prelude.{Option}
use Prim.Native.Nat.{ℕ, ◌+◌, ◌*◌, ◌<◌, ◌≤◌}
use native.Mathlib.Omega.{arith}
use mathlib.Core.Path.{◌≡◌, refl, sym, ap, ◌∙◌}
use mathlib.Core.Bool.{Bool, true, false}
use mathlib.Core.List.{List, [], ◌∷◌, ◌++◌, append_assoc, append-nil}
use lib.ListN.{length, drop, set, length-append}
use borrow.Author.Rules.{rules}
use borrow.Author.Tests.{eq-eqb, ne_eqb}
use mir.Syntax.{w8, w32, w64}
use mir.Val
use Rattle.std.specs.Prelude.{Result, Ok, Err}
use Rattle.text.specs.Part.{part_of}
use Rattle.text.proofs.SplitLaws.{split-on, split-none, part-read}
use Rattle.model.specs.Lists.{triggers_of, conditions_of, accepted_with, refused_with}
use Rattle.model.specs.declared.Answer.{Answer}
use Rattle.model.specs.declared.Conditions.{Conditions}
use Rattle.model.specs.declared.Trigger.{Trigger}
use Rattle.model.specs.declared.Triggers.{Triggers}
use Rattle.model.proofs.AnswerLaws.{trigger-put}
use Rattle.model.specs.declared.Ref.{Ref}
use Rattle.sheet.specs.Adapters.{has}
use Rattle.sheet.specs.Sheet.{lines, line_end}
use Rattle.sheet.specs.Survey.{survey_of}
use Rattle.sheet.specs.View.{View, view_of}
use Rattle.sheet.specs.declared.Habit.{Habit}
use Rattle.sheet.specs.declared.resolve.Unfound.{Unfound}
use Rattle.sheet.specs.declared.rows.BadLine.{BadLine}
use Rattle.sheet.specs.declared.rows.Said.{Said}
use Rattle.sheet.proofs.CallLaws.{sheet-bad, sheet-good, own_is, view-is}
use Rattle.language.specs.Limits.{most_triggers}
use Rattle.language.specs.Read.{rule_call}
use Rattle.old_rows.specs.Row.{row_of, row_name}
use Rattle.old_rows.specs.Convert.{first_malformed, trigger_by, found_in, change_in, Conversion, converted, stopped, onto, by_found, convert_from, answered, by_shape, by_primary, by_sheet, rows_of}
use Rattle.old_rows.specs.declared.row.Change.{Change}
use Rattle.old_rows.specs.declared.row.Row.{Row}

-- triggers before those that rows are converted to
abbrev after : List Trigger → Conversion → Conversion
after xs (converted ys) = converted (xs ++ ys)
after xs (stopped number row detail) = stopped number row detail

after_none : (m : Conversion) → m ≡ after [] m
after_none (converted ys) = refl
after_none (stopped number row detail) = refl

after_more : (xs : List Trigger) (x : Trigger) (m : Conversion) → after xs (onto x m) ≡ after (xs ++ (x ∷ [])) m
unfolding onto
after_more xs x (converted ys) = ap converted (sym (append_assoc xs (x ∷ []) ys))
after_more xs x (stopped number row detail) = refl

-- the list holds the triggers of the rows before an offset, and what is left gives the whole answer
module _ (view : View) (s : List ℕ) where
  pub record Going (list : Triggers) (at : ℕ) : Type 0 where
    pub entries : List Trigger
    pub stored : list ≡ triggers_of entries
    pub room : length entries + length (lines (drop at s)) ≤ most_triggers
    pub same : convert_from view 1 (lines s) ≡ after entries (convert_from view (length entries + 1) (lines (drop at s)))

  pub begin : {list : Triggers} → length (lines s) ≤ most_triggers → list ≡ triggers_of [] → Going list 0
  begin h e = record { entries = []; stored = e; room = omega arith; same = after_none _ }

  module _ {list : Triggers} {at : ℕ} (g : Going list at) where
    count_is : list.count ≡ length g.entries
    unfolding triggers_of
    count_is = ap (λ (l : Triggers). l.count) g.stored

    pub all_converted : {conditions : Conditions} → length s ≤ at → conditions ≡ conditions_of [] →
        record { number = 0; line = 0; column = 0; detail = 0; triggers = list; conditions = conditions } ≡ answered (convert_from view 1 (lines s))
    unfolding answered convert_from accepted_with
    all_converted h e = rw (g.same, split-none 0x0A s at h, append-nil, e, g.stored)

    module _ (h : at < length s) where
      pub one_free : list.count < 4
      one_free =
          let c = count_is in
          let r = rw (split-on 0x0A s at h) at g.room in
          omega arith

      pub count_fits : mir.Val.Fits w32 list.count
      count_fits = let f = one_free in record { fits = omega arith }

      pub place_fits : mir.Val.Fits w64 (list.count * 32)
      place_fits = let f = one_free in record { fits = omega arith }

      pub next_place_fits : mir.Val.Fits w64 (list.count + 1)
      next_place_fits = let f = one_free in record { fits = omega arith }

      pub next_count_fits : mir.Val.Fits w32 (list.count + 1)
      next_count_fits = let f = one_free in record { fits = omega arith }

      module _ {end : ℕ} (e : end ≡ line_end s at) {l : List ℕ} (q : l ≡ part_of s at end) {row : Option Row} (read : row ≡ row_of l) {name : List ℕ}
          (named : name ≡ row_name l) {found : Result Ref Unfound} (looked : found ≡ found_in view row name) where
        turned : convert_from view 1 (lines s) ≡
            after g.entries (by_found (length g.entries + 1) (change_in row) found (convert_from view (length g.entries + 1 + 1) (lines (drop (end + 1) s))))
        unfolding convert_from
        turned = g.same ∙ rw (part-read 0x0A s at e h q, ← read, ← named, ← looked)

        pub one_refused : {u : Unfound} {a : Answer} → found ≡ Err u → a ≡ refused_with u.number (list.count + 1) 0 u.detail →
            a ≡ answered (convert_from view 1 (lines s))
        unfolding by_found answered
        one_refused is made = made ∙ rw (turned, is, count_is)

        pub one_more : {r : Ref} {change : Change} {x : Trigger} → found ≡ Ok r → change ≡ change_in row → x ≡ trigger_by change r →
            Going (record { rows = set list.rows list.count (record { trigger = x }); count = list.count + 1 }) (end + 1)
        unfolding by_found
        one_more {x = x} is change made =
            let c = count_is in
            let size = length-append g.entries (x ∷ []) in
            let size_is : length (g.entries ++ (x ∷ [])) ≡ length g.entries + 1 = omega arith in
            let f = one_free in
            record {
              entries = g.entries ++ (x ∷ []);
              stored =
                  ap (λ (n : ℕ). record { rows = set list.rows n (record { trigger = x }); count = n + 1 }) count_is
                  ∙ ap (λ (m : Triggers). record { rows = set m.rows (length g.entries) (record { trigger = x }); count = length g.entries + 1 }) g.stored
                  ∙ trigger-put g.entries x (omega arith);
              room =
                  let r = rw (part-read 0x0A s at e h q) at g.room in
                  omega arith;
              same = turned ∙ rw (is, ← change, ← made, size_is) (after_more g.entries x _);
            }

-- 60 and the rows
module _ (view : View) (s : List ℕ) where
  pub no_row : {a : Answer} → length s ≡ 0 → a ≡ refused_with 60 0 0 0 → a ≡ by_shape view s
  unfolding by_shape
  no_row h e = rw (eq-eqb (length s) 0 h) e

  module _ (some : length s ≡ 0 → ⊥) {n : ℕ} (asked : n ≡ first_malformed s) {a : Answer} where
    pub ill_shaped : (n ≡ 0 → ⊥) → a ≡ refused_with 60 n 0 0 → a ≡ by_shape view s
    unfolding by_shape
    ill_shaped h e = rw (ne_eqb (length s) 0 some, ← asked, ne_eqb n 0 h) e

    pub well_shaped : n ≡ 0 → a ≡ answered (convert_from view 1 (lines s)) → a ≡ by_shape view s
    unfolding by_shape
    well_shaped h e = rw (ne_eqb (length s) 0 some, ← asked, eq-eqb n 0 h) e

-- the sheet and 53
module _ (party primary : ℕ) (s sheet : List ℕ) {survey : Result Said BadLine} (checked : survey ≡ survey_of party sheet) {a : Answer} where
  pub bad_sheet : {bad : BadLine} → survey ≡ Err bad → a ≡ refused_with 3 bad.line 0 0 → a ≡ rows_of party primary s sheet
  unfolding rows_of by_sheet
  bad_sheet is e = rw (sheet-bad (rule_call party primary) sheet checked is) e

  module _ {said : Said} (good : survey ≡ Ok said) (byte : mir.Val.Fits w8 primary) {own : Bool}
      (asked : own ≡ has said.own primary) where
    pub not_own_lem : own ≡ false → a ≡ refused_with 53 0 0 0 → a ≡ rows_of party primary s sheet
    unfolding rows_of by_sheet by_primary
    not_own_lem h e =
        let c = rule_call party primary in
        rw (sheet-good c sheet checked good, ← own_is c sheet checked good byte asked, h) e

    pub is_own : own ≡ true →
        a ≡ by_shape (view_of (record { primary = primary; habit = Habit.Rule; own = said.own; listed = said.listed }) sheet) s →
        a ≡ rows_of party primary s sheet
    unfolding rows_of by_sheet by_primary
    is_own h e =
        let c = rule_call party primary in
        rw (sheet-good c sheet checked good, ← own_is c sheet checked good byte asked, h, ← view-is c sheet checked good) e

pub ruleset converting = (rules, begin, all_converted, one_free, count_fits, place_fits, next_place_fits, next_count_fits, one_refused, one_more)

pub ruleset calling = (rules, no_row, ill_shaped, well_shaped, bad_sheet, not_own_lem, is_own)
