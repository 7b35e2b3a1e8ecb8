use mathlib.Core.Path.{◌≡◌}
use mathlib.Core.Bool.{Bool, true, false}
use mathlib.Core.List.{List}
use Prim.Native.Nat.{ℕ, ◌+◌, ◌<◌, ◌≤◌}
use native.Mathlib.Omega.{arith}
use lib.ListN.{length, drop}
use borrow.Author.Rules.{rules}
use borrow.Author.Tests.{lt-ltb, le-ltb}
use Rattle.std.specs.Prelude.{Option, Result}
use Rattle.text.specs.Part.{part_of}
use Rattle.sheet.specs.Line.{line_of}
use Rattle.sheet.specs.Sheet.{lines, line_end, is_primary, longest_sheet}
use Rattle.sheet.specs.Survey.{none_said, bad_line, survey_from, survey_lines, survey_of}
use Rattle.sheet.specs.declared.line.Line.{Line}
use Rattle.sheet.specs.declared.rows.Said.{Said}
use Rattle.sheet.specs.declared.rows.BadLine.{BadLine}
use Rattle.text.proofs.SplitLaws.{split-none, part-read, next_fits}
use Rattle.sheet.proofs.rows.check.Goals as goal

module _ (party : ℕ) (s : List ℕ) {none : Said} (nothing : none ≡ none_said party) where
  long : {x : Result Said BadLine} → longest_sheet < length s → x ≡ bad_line 0 none → x ≡ survey_of party s
  unfolding survey_of
  long h e = rw (lt-ltb longest_sheet (length s) h, ← nothing) e

  -- a sheet that is not too long goes by its lines
  module _ (h : length s ≤ longest_sheet) where
    empty : {x : Result Said BadLine} → length s ≡ 0 → x ≡ bad_line 1 none → x ≡ survey_of party s
    unfolding survey_of survey_lines
    empty z e = let n : length s ≤ 0 = omega arith in rw (le-ltb longest_sheet (length s) h, split-none 0x0A s 0 n, ← nothing) e

    module _ {end : ℕ} (e : end ≡ line_end s 0) {p : List ℕ} (q : p ≡ part_of s 0 end) {l : Option Line} (w : l ≡ line_of p)
        {r : Bool} (a : r ≡ is_primary l) (z : length s ≡ 0 → ⊥) where
      yes : {x : Result Said BadLine} → r ≡ true → x ≡ survey_from party 2 none (lines (drop (end + 1) s)) → x ≡ survey_of party s
      unfolding survey_of survey_lines
      yes k f = rw (le-ltb longest_sheet (length s) h, part-read 0x0A s 0 e (omega arith) q, ← w, ← a, k, ← nothing) f

      no : {x : Result Said BadLine} → r ≡ false → x ≡ bad_line 1 none → x ≡ survey_of party s
      unfolding survey_of survey_lines
      no k f = rw (le-ltb longest_sheet (length s) h, part-read 0x0A s 0 e (omega arith) q, ← w, ← a, k, ← nothing) f

pub returns-then-s-gt-MAX_SHEET_BYTES : goal.returns-then-s-gt-MAX_SHEET_BYTES
returns-then-s-gt-MAX_SHEET_BYTES c = search (rules, long)

pub returns-then-s-eq0 : goal.returns-then-s-eq0
returns-then-s-eq0 c = search (rules, empty)

pub overflow_add-end : goal.overflow_add-end
overflow_add-end c = search (rules, next_fits)

pub returns-then-is_primary : goal.returns-then-is_primary
returns-then-is_primary c = search (rules, yes)

pub returns : goal.returns
returns c = search (rules, no)
