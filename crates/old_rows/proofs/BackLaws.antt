-- The name for a reference, line by line, and the rows of a list one behind the other.
use Rattle.std.specs.Prelude.{Result, Ok, Err}
use Rattle.std.proofs.lemmas.List.{take_all}
use Prim.Native.Nat.{ℕ, ◌+◌, ◌*◌, ◌<◌, ◌≤◌}
use native.Mathlib.Omega.{arith}
use native.Mathlib.Numerals.{add-one}
use mathlib.Core.Path.{◌≡◌, ◌∙◌, refl, sym, ap, subst}
use mathlib.Core.Bool.{Bool, true, false, not}
use mathlib.Core.List.{List, [], ◌∷◌, ◌++◌, append_assoc, append-nil}
use lib.ListN.{length-take, length, drop, take, get_or}
use lib.Dec.{eqb}
use lib.Seq.{take-suc, length-take-le, take-append_seam}
use borrow.Author.Rules.{rules}
use borrow.Author.Tests.{lt-ltb, le-ltb, lt-leb, le-leb, eq-eqb, ne_eqb}
use mir.Syntax.{w8}
use mir.Val
use Rattle.std.specs.Prelude.{Result, Ok, Err}
use Rattle.text.specs.Choice.{pick}
use Rattle.text.specs.Part.{part_of}
use Rattle.text.proofs.SplitLaws.{split-none, part-read}
use Rattle.sheet.specs.Line.{line_of, name_of}
use Rattle.sheet.specs.Sheet.{line_end, entries}
use Rattle.sheet.specs.Party.{entries_on}
use Rattle.sheet.specs.View.{View, view_of}
use Rattle.sheet.specs.Names.{is_for_line, names_for}
use Rattle.sheet.specs.Adapters.{has}
use Rattle.sheet.specs.Survey.{survey_of}
use Rattle.sheet.specs.declared.Habit.{Habit}
use Rattle.sheet.specs.declared.Settings.{Settings}
use Rattle.sheet.specs.declared.rows.BadLine.{BadLine}
use Rattle.sheet.specs.declared.rows.Said.{Said}
use Rattle.sheet.proofs.CallLaws.{sheet-bad, sheet-good, own_is, view-is}
use Rattle.language.specs.Read.{rule_call}
use Rattle.sheet.specs.declared.names.Numbered.{Numbered}
use Rattle.sheet.proofs.NamesLaws.{names_from, names-line, naming}
use Rattle.sheet.proofs.LineLaws.{reading}
use Rattle.language.specs.Limits.{most_triggers}
use Rattle.model.specs.Limits.{last_adapter, longest_name}
use Rattle.model.specs.declared.TriggerRow.{TriggerRow}
use Rattle.model.specs.declared.Triggers.{Triggers}
use Rattle.spelling.specs.Put.{Put, Fits}
use Rattle.spelling.proofs.PutLaws.{Made, joined, put-none, put_2, put-length, put_whole}
use Rattle.writing.specs.Writing.{failing, refused_at, written_with}
use Rattle.writing.proofs.OutcomeLaws.{handed_on}
use Rattle.writing.proofs.PassedLaws.{array_length, passed_none, passed_on, passed-not, passed-all}
use Rattle.old_rows.specs.Back.{changed_of, is_fitting, first_fitting, name_back, row_bytes, row_for, rows_for, is_change, after_all, first_other, is_named, least_bytes, first_unnamed, by_names, by_entries, by_room, by_sheet, back_of}
use Rattle.old_rows.specs.Made.{most_bytes, unnamed_in, RowsMade}
use Rattle.old_rows.specs.declared.restore.Changed.{Changed}
use Rattle.old_rows.proofs.SheetNames.{back-name-short, back-adapter, row-short}

-- of the names from an offset of the sheet on, the first that fits is x
module _ (view : View) (own : ℕ → Bool) (of : Numbered) (s : List ℕ) (at : ℕ) {x : List ℕ} (i : first_fitting view of (names_from own of s at) ≡ x) where
  pub fitting-none : length s ≤ at → [] ≡ x
  unfolding names_for entries_on entries first_fitting
  fitting-none h = rw (split-none 0x0A s at h) at i

  module _ (h : at < length s) {end : ℕ} (e : end ≡ line_end s at) {l : List ℕ} (q : l ≡ part_of s at end) {r : Bool}
      (t : r ≡ is_for_line own of (line_of l)) where
    pub fitting-past : r ≡ false → first_fitting view of (names_from own of s (end + 1)) ≡ x
    fitting-past f = rw (part-read 0x0A s at e h q, names-line, ← t, f) at i

    module _ (f : r ≡ true) {name : List ℕ} (g : name ≡ name_of l) {fits : Bool} (u : fits ≡ is_fitting view of name) where
      at_row : pick fits name (first_fitting view of (names_from own of s (end + 1))) ≡ x
      unfolding first_fitting
      at_row = rw (part-read 0x0A s at e h q, names-line, ← t, f, ← g, ← u) at i

      pub fitting-here : fits ≡ true → name ≡ x
      fitting-here k = rw k at at_row

      pub fitting-on : fits ≡ false → first_fitting view of (names_from own of s (end + 1)) ≡ x
      fitting-on k = rw k at at_row

pub ruleset fitting = (rules, fitting-none, fitting-past, fitting-here, fitting-on)

-- a name with a comma is none that fits
pub ruleset fits = (reading, naming)

-- ---- the rows one behind the other

rows_append : (view : View) (xs ys : List TriggerRow) → rows_for view (xs ++ ys) ≡ rows_for view xs ++ rows_for view ys
unfolding rows_for
rows_append view [] ys = refl
rows_append view (x ∷ xs) ys = ap (λ (l : List ℕ). row_for view (changed_of x.trigger) ++ l) (rows_append view xs ys)
    ∙ sym (append_assoc (row_for view (changed_of x.trigger)) (rows_for view xs) (rows_for view ys))

-- what is told of the one side of a result
ok_same : {m n : ℕ} → ◌≡◌ {A = Result ℕ ℕ} (Ok m) (Ok n) → m ≡ n
ok_same e = cc

err_same : {m n : ℕ} → ◌≡◌ {A = Result ℕ ℕ} (Err m) (Err n) → m ≡ n
err_same e = cc

ok_err : {m n : ℕ} → ◌≡◌ {A = Result ℕ ℕ} (Ok m) (Err n) → ⊥
ok_err e = cc

-- the rows of the triggers before i are written, all of them have a name, and none of their rows has more than 68 bytes
module _ (view : View) (rows : List TriggerRow) (before : List ℕ) where
  pub record Making (made : List ℕ) (end i : ℕ) : Type 0 where
    pub passed : failing (is_named view) (1 + i) (drop i rows) ≡ failing (is_named view) 1 rows
    pub few : length rows ≤ most_triggers
    pub put : Put before 0 (rows_for view (take i rows)) made end
    pub short : end ≤ i * 68
    pub long : length made ≡ most_bytes

  pub none_made : length rows ≤ most_triggers → length before ≡ most_bytes → Making before 0 0
  unfolding rows_for
  none_made e k = record { passed = passed_none (is_named view) 1 rows; few = e; put = put-none; short = omega arith; long = k }

  module _ {made : List ℕ} {end i : ℕ} (m : Making made end i) where
    pub all_made : i ≤ length rows → length rows ≤ i → RowsMade view rows (Ok end) before made
    all_made w h =
        let few = m.few in
        let s = m.short in
        record {
          first = passed-all (is_named view) 1 rows i m.passed h;
          put = λ n e.
              subst (λ (k : ℕ). Put before 0 (rows_for view rows) made k) (ok_same e)
              (subst (λ (xs : List TriggerRow). Put before 0 (rows_for view xs) made end) (take_all i rows h) m.put);
          short = λ n e. let d : end ≡ n = ok_same e in omega arith;
          some = λ n e. absurd (ok_err e);
          long = m.long;
        }

    -- the trigger at i, with what it says and the name that was found for it
    module _ (here : i < length rows) (unused : TriggerRow) {c : Changed} (says : c ≡ changed_of (get_or rows i unused).trigger)
        {name : List ℕ} (found : name ≡ name_back view c.of) where
      asked : not (eqb (length name) 0) ≡ is_named view (get_or rows i unused)
      unfolding is_named
      asked = rw (← says, ← found)

      pub one_unnamed : length name ≡ 0 → RowsMade view rows (Err (1 + i)) before made
      one_unnamed z =
          let t : not (eqb (length name) 0) ≡ false = rw (eq-eqb (length name) 0 z) in
          record {
            first = passed-not (is_named view) 1 rows i m.passed here unused asked t;
            put = λ n e. absurd (ok_err (sym e));
            short = λ n e. absurd (ok_err (sym e));
            some = λ n e. let d : 1 + i ≡ n = err_same e in omega arith;
            long = m.long;
          }

      row_is : row_bytes c.change name c.of.adapter ≡ row_for view (changed_of (get_or rows i unused).trigger)
      unfolding row_for
      row_is = rw (← says, ← found)

      last : rows_for view (take (i + 1) rows) ≡ rows_for view (take i rows) ++ row_bytes c.change name c.of.adapter
      unfolding rows_for
      last =
          ap (rows_for view) (ap (λ (n : ℕ). take n rows) (add-one i) ∙ take-suc rows i unused here)
          ∙ rows_append view (take i rows) _
          ∙ ap (λ (l : List ℕ). rows_for view (take i rows) ++ l) (append-nil _ ∙ sym row_is)

      two_parts : Made (rows_for view (take (i + 1) rows)) (rows_for view (take i rows) ∷ row_bytes c.change name c.of.adapter ∷ [])
      unfolding joined
      two_parts = record { parts_of = last ∙ ap (λ (l : List ℕ). rows_for view (take i rows) ++ l) (sym (append-nil (row_bytes c.change name c.of.adapter))) }

      -- its name is short and its adapter one of the 256
      module _ (brief : length name ≤ longest_name) (known : c.of.adapter ≤ last_adapter) where
        pub row_fits : Fits made end (row_bytes c.change name c.of.adapter)
        row_fits =
            let e = m.long in
            let s = m.short in
            let few = m.few in
            let r = row-short c.change name c.of.adapter brief known in
            record { room = omega arith }

        pub one_made : (length name ≡ 0 → ⊥) → {after : List ℕ} {to : ℕ} → Put made end (row_bytes c.change name c.of.adapter) after to →
            Making after to (i + 1)
        one_made some {after} {to} p =
            let t : not (eqb (length name) 0) ≡ true = rw (ne_eqb (length name) 0 some) in
            let s = m.short in
            let r = row-short c.change name c.of.adapter brief known in
            let place = p.place in
            record {
              passed = passed_on (is_named view) 1 rows i m.passed here unused asked t;
              few = m.few;
              put = put_2 two_parts _ _ _ _ _ _ m.put p;
              short = omega arith;
              long = put-length p ∙ m.long;
            }

pub few_taken : (count : ℕ) (rows : List TriggerRow) → count ≤ most_triggers → length (take count rows) ≤ most_triggers
few_taken count rows h = simp length-take (omega arith)

-- the name that was found
module _ (settings : Settings) (s : List ℕ) (of : Numbered) {name : List ℕ} (found : name ≡ name_back (view_of settings s) of) where
  pub found_brief : length name ≤ longest_name
  found_brief = rw found (back-name-short settings s of)

  pub found-known : (length name ≡ 0 → ⊥) → of.adapter ≤ last_adapter
  found-known some = back-adapter settings s of (λ z. some (rw found z))

-- ---- 61

module _ (l : Triggers) (conditions : ℕ) {n : ℕ} (asked : n ≡ failing is_change 1 (take l.count l.rows)) where
  pub other_trigger_lem : (n ≡ 0 → ⊥) → n ≡ first_other l conditions
  unfolding first_other
  other_trigger_lem h = asked ∙ rw (ne_eqb (failing is_change 1 (take l.count l.rows)) 0 (λ z. h (asked ∙ z)))

  none_other : n ≡ 0 → after_all l.count conditions ≡ first_other l conditions
  unfolding first_other
  none_other h = rw (eq-eqb (failing is_change 1 (take l.count l.rows)) 0 (sym asked ∙ h))

  pub no_condition_lem : n ≡ 0 → conditions ≡ 0 → 0 ≡ first_other l conditions
  unfolding after_all
  no_condition_lem h z = rw (eq-eqb conditions 0 z) at (none_other h)

  pub some-condition : n ≡ 0 → (conditions ≡ 0 → ⊥) → l.count + 1 ≡ first_other l conditions
  unfolding after_all
  some-condition h z = rw (ne_eqb conditions 0 z) at (none_other h)

pub ruleset making = (rules, array_length, few_taken, none_made, all_made, one_unnamed, row_fits, one_made, found_brief, found-known)

-- ---- the call

-- 62 and the rows
module _ (view : View) (l : Triggers) (b : List ℕ) {r : Result ℕ ℕ} {before made : List ℕ} (m : RowsMade view (take l.count l.rows) r before made) where
  pub unnamed : {n : ℕ} → r ≡ Err n → refused_at 62 n b ≡ by_names view l b
  unfolding by_names first_unnamed
  unnamed {n} e =
      let f : n ≡ failing (is_named view) 1 (take l.count l.rows) = ap unnamed_in (sym e) ∙ m.first in
      let k = m.some n e in
      rw (← f, ne_eqb n 0 (λ z. omega arith))

  module _ {n : ℕ} (is : r ≡ Ok n) where
    -- room in the buffer and in what was made
    pub made_room : n ≤ length made
    made_room = let short = m.short n is in let long = m.long in omega arith

    pub buffer_room : least_bytes ≤ length b → n ≤ length b
    buffer_room h = let short = m.short n is in omega arith

    rows_are : take n made ≡ rows_for view (take l.count l.rows)
    rows_are =
        let bytes = rows_for view (take l.count l.rows) in
        let p = m.put n is in
        let short = m.short n is in
        let long = m.long in
        let same = put-length p in
        let place = p.place in
        let w = put_whole before bytes (omega arith) p in
        ap (λ (k : ℕ). take k made) w.1 ∙ ap (take (length bytes)) w.0 ∙ take-append_seam bytes (drop (length bytes) before)

    all_named : written_with (rows_for view (take l.count l.rows)) b ≡ by_names view l b
    unfolding by_names first_unnamed
    all_named =
        let none : failing (is_named view) 1 (take l.count l.rows) ≡ 0 = sym m.first ∙ ap unnamed_in is in
        rw none

    -- the buffer's first bytes are those that were made
    pub written : {ys : List ℕ} → ys ≡ take n made →
        (record { number = 0; line = 0; column = 0; detail = 0; length = n } ≡ (by_names view l b).answer)
        × (ys ++ drop n b ≡ (by_names view l b).buffer)
    unfolding written_with
    written {ys} h =
        let bytes = rows_for view (take l.count l.rows) in
        let size : n ≡ length bytes = sym (length-take-le n made made_room) ∙ ap length rows_are in
        handed_on all_named (
          ap (λ (k : ℕ). record { number = 0; line = 0; column = 0; detail = 0; length = k }) size,
          ap (λ (xs : List ℕ). xs ++ drop n b) (h ∙ rows_are) ∙ ap (λ (k : ℕ). bytes ++ drop k b) size,
        )

-- 54 and 61
module _ (view : View) (l : Triggers) (conditions : ℕ) (b : List ℕ) where
  pub too_small : length b < least_bytes → refused_at 54 0 b ≡ by_room view l conditions b true
  unfolding by_room
  too_small h = rw (lt-ltb (length b) least_bytes h)

  module _ (room : least_bytes ≤ length b) where
    pub no_trigger_lem : l.count < 1 → refused_at 61 0 b ≡ by_room view l conditions b true
    unfolding by_room by_entries
    no_trigger_lem h = rw (le-ltb (length b) least_bytes room, lt-leb 1 l.count h)

    module _ (some : 1 ≤ l.count) where
      pub too_many_lem : most_triggers < l.count → refused_at 61 0 b ≡ by_room view l conditions b true
      unfolding by_room by_entries
      too_many_lem h = rw (le-ltb (length b) least_bytes room, le-leb 1 l.count some, lt-leb l.count most_triggers h)

      module _ (few : l.count ≤ most_triggers) {n : ℕ} (asked : n ≡ first_other l conditions) where
        pub no_change : (n ≡ 0 → ⊥) → refused_at 61 n b ≡ by_room view l conditions b true
        unfolding by_room by_entries
        no_change h = rw (le-ltb (length b) least_bytes room, le-leb 1 l.count some, le-leb l.count most_triggers few, ← asked, ne_eqb n 0 h)

        pub all_changes : n ≡ 0 → by_names view l b ≡ by_room view l conditions b true
        unfolding by_room by_entries
        all_changes h = rw (le-ltb (length b) least_bytes room, le-leb 1 l.count some, le-leb l.count most_triggers few, ← asked, eq-eqb n 0 h)

-- the sheet and 53
module _ (party primary : ℕ) (sheet : List ℕ) (l : Triggers) (conditions : ℕ) (b : List ℕ) {survey : Result Said BadLine} (checked : survey ≡ survey_of party sheet) where
  pub bad_sheet : {bad : BadLine} → survey ≡ Err bad → refused_at 3 bad.line b ≡ back_of party primary sheet l conditions b
  unfolding back_of by_sheet
  bad_sheet is = rw (sheet-bad (rule_call party primary) sheet checked is)

  module _ {said : Said} (good : survey ≡ Ok said) (byte : mir.Val.Fits w8 primary) {own : Bool}
      (asked : own ≡ has said.own primary) where
    pub not_own_lem : own ≡ false → refused_at 53 0 b ≡ back_of party primary sheet l conditions b
    unfolding back_of by_sheet by_room
    not_own_lem h =
        let c = rule_call party primary in
        rw (sheet-good c sheet checked good, ← own_is c sheet checked good byte asked, h)

    pub is_own : own ≡ true →
        by_room (view_of (record { primary = primary; habit = Habit.Rule; own = said.own; listed = said.listed }) sheet) l conditions b true
        ≡ back_of party primary sheet l conditions b
    unfolding back_of by_sheet
    is_own h =
        let c = rule_call party primary in
        rw (sheet-good c sheet checked good, ← own_is c sheet checked good byte asked, h, view-is c sheet checked good)
