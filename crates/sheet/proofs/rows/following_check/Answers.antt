use mathlib.Core.Path.{◌≡◌, ◌∙◌, refl, sym}
use mathlib.Core.Bool.{Bool, true, false, not, false≢true}
use mathlib.Core.List.{List}
use Prim.Native.Nat.{ℕ, ◌+◌, ◌<◌, ◌≤◌}
use lib.ListN.{length, drop}
use borrow.Author.Rules.{rules}
use borrow.Author.Tests.{lt-ltb, le-ltb, not-true, not-false}
use Rattle.std.specs.Prelude.{Option, Some, None, Result, Ok}
use Rattle.text.specs.Part.{part_of}
use Rattle.sheet.specs.Line.{line_of}
use Rattle.sheet.specs.Sheet.{lines, line_end, last_line}
use Rattle.sheet.specs.Survey.{is_named, may_add, added, bad_line, survey_from}
use Rattle.sheet.specs.declared.line.Line.{Line}
use Rattle.sheet.specs.declared.line.Line.TheVariants.{Primary, Adapter, Party, Row}
use Rattle.sheet.specs.declared.rows.Said.{Said}
use Rattle.sheet.specs.declared.rows.BadLine.{BadLine}
use Rattle.text.proofs.SplitLaws.{split-on, split-none, part-read, less-left, next_fits}
use Rattle.sheet.proofs.rows.following_check.Goals as goal
use Rattle.sheet.proofs.rows.following_check.Goals.{then-not-is_named+else-not-may_add, else-not-is_named}

-- a row with a name may follow, and says nothing
named-may : (said : Said) (l : Option Line) → is_named l ≡ true → may_add said l ≡ true
unfolding is_named may_add
named-may said (Some (Primary a)) h = absurd (false≢true h)
named-may said (Some (Adapter a)) h = refl
named-may said (Some (Party a party)) h = absurd (false≢true h)
named-may said (Some (Row kind a n)) h = refl
named-may said None h = absurd (false≢true h)

named-adds : (party : ℕ) (said : Said) (l : Option Line) → is_named l ≡ true → added party said l ≡ said
unfolding is_named added
named-adds party said (Some (Primary a)) h = refl
named-adds party said (Some (Adapter a)) h = absurd (false≢true h)
named-adds party said (Some (Party a p)) h = absurd (false≢true h)
named-adds party said (Some (Row kind a n)) h = refl
named-adds party said None h = refl

-- the lines from an offset are judged as all of them are, which is start: so is what the code answers there
module _ (party n : ℕ) (said : Said) (s : List ℕ) (at : ℕ) {start : Result Said BadLine} (i : survey_from party n said (lines (drop at s)) ≡ start) where
  none : length s ≤ at → Ok said ≡ start
  unfolding survey_from
  none h = rw (split-none 0x0A s at h) at i

  over : at < length s → last_line < n → {x : Result Said BadLine} → x ≡ bad_line n said → x ≡ start
  unfolding survey_from
  over h k e = e ∙ rw (split-on 0x0A s at h, lt-ltb last_line n k) at i

  module _ (h : at < length s) {end : ℕ} (e : end ≡ line_end s at) {p : List ℕ} (q : p ≡ part_of s at end) {l : Option Line} (w : l ≡ line_of p)
      (k : n ≤ last_line) {r : Bool} where
    bad : r ≡ may_add said l → not r ≡ true → {x : Result Said BadLine} → x ≡ bad_line n said → x ≡ start
    unfolding survey_from
    bad a b d = d ∙ rw (part-read 0x0A s at e h q, le-ltb last_line n k, ← w, ← a, not-true r b) at i

    on : {x y : Said} → r ≡ may_add said l → not r ≡ false → x ≡ added party said l → y ≡ x →
        survey_from party (n + 1) y (lines (drop (end + 1) s)) ≡ start
    unfolding survey_from
    on a b x y = rw (y, x) (rw (part-read 0x0A s at e h q, le-ltb last_line n k, ← w, ← a, not-false r b) at i)

    past : {y : Said} → r ≡ is_named l → not r ≡ false → y ≡ said → survey_from party (n + 1) y (lines (drop (end + 1) s)) ≡ start
    unfolding survey_from
    past a b y =
        let t = sym a ∙ not-false r b in
        rw (y, ← (named-adds party said l t)) (rw (part-read 0x0A s at e h q, le-ltb last_line n k, ← w, named-may said l t) at i)

pub returns-then-n-gt-LAST_LINE : goal.returns-then-n-gt-LAST_LINE
returns-then-n-gt-LAST_LINE c = search (rules, over)

pub returns-then-not-may_add : goal.returns-then-not-may_add
returns-then-not-may_add c = search (rules, bad)

pub overflow_add-at : goal.overflow_add-at
overflow_add-at c = search (rules, next_fits)

pub loop-at-smaller : goal.loop-at-smaller
loop-at-smaller c = search (rules, less-left)

pub loop-at-preserved : goal.loop-at-preserved
loop-at-preserved c =
    elim c.if-not-is_named.branch [
      | then-not-is_named+else-not-may_add w ↦ search (rules, on)
      | else-not-is_named w ↦ search (rules, past)
    ]

pub returns : goal.returns
returns c = search (rules, none)
