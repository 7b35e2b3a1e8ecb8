use mathlib.Core.Path.{◌≡◌, refl, ap}
use mathlib.Core.List.{List, [], ◌∷◌}
use Prim.Native.Nat.{ℕ}
use native.Mathlib.Omega.{arith}
use borrow.Author.Rules.{rules}
use Rattle.std.specs.Prelude.{Option}
use Rattle.text.specs.Find.{index_of}
use Rattle.text.specs.Part.{part_of}
use Rattle.text.specs.Find.{first_at}
use Rattle.text.specs.Split.{split}
use Rattle.sheet.specs.Line.{without_return, has_comma, bare_line, line_of}
use Rattle.sheet.specs.Sheet.{lines, line_end, primary_by, primary_line}
use Rattle.sheet.specs.declared.line.Line.{Line}
use Rattle.text.proofs.SplitLaws.{split-on}
use Rattle.sheet.proofs.rows.primary.Goals as goal

-- the line at the start is the first; of an empty sheet it is empty, and says nothing
first : (s : List ℕ) → primary_line (lines s) ≡ primary_by (line_of (part_of s 0 (line_end s 0)))
unfolding primary_line split first_at part_of without_return bare_line line_of has_comma index_of
first [] = refl
first (c ∷ s) = ap primary_line (split-on 0x0A (c ∷ s) 0 (omega arith))

-- by what the code read of that line
says : (s : List ℕ) {end : ℕ} {p : List ℕ} {l v : Option Line} {r : ℕ} →
    end ≡ line_end s 0 → p ≡ part_of s 0 end → l ≡ line_of p → l ≡ v → r ≡ primary_by v → r ≡ primary_line (lines s)
says s e q w k h = rw (first s, ← e, ← q, ← w, k) h

pub returns-in-Some-Primary : goal.returns-in-Some-Primary
returns-in-Some-Primary c = search (rules, says)

pub returns-in_default : goal.returns-in_default
returns-in_default c = search (rules, says)

pub returns-in_default-2 : goal.returns-in_default-2
returns-in_default-2 c = search (rules, says)
