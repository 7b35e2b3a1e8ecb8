-- The names for a number, line by line.
use Prim.Native.Nat.{ℕ, zero, suc, ◌+◌, ◌-◌, ◌<◌, ◌≤◌}
use native.Mathlib.Omega.{arith}
use mathlib.Core.Path.{◌≡◌, ◌∙◌, refl, sym}
use mathlib.Core.Bool.{Bool, true, false}
use mathlib.Core.List.{List, [], ◌∷◌}
use lib.ListN.{length, drop, get_or}
use Rattle.std.specs.Prelude.{Option, Some, None, Result}
use Rattle.text.specs.Choice.{pick}
use Rattle.text.specs.Part.{part_of}
use Rattle.text.proofs.SplitLaws.{split-none, part-read}
use Rattle.text.proofs.Tests.{steps}
use Rattle.model.specs.declared.Ref.{Ref}
use Rattle.sheet.specs.Line.{line_of, name_of}
use Rattle.sheet.specs.Sheet.{lines, line_end, Entry, entries, entry_by}
use Rattle.sheet.specs.Party.{entries_on}
use Rattle.sheet.specs.Names.{is_for, is_for_line, names_for, is_found}
use Rattle.sheet.specs.declared.line.Line.{Line}
use Rattle.sheet.specs.declared.line.Line.TheVariants.{Primary, Adapter, Party, Row}
use Rattle.sheet.specs.declared.resolve.Unfound.{Unfound}
use Rattle.sheet.specs.declared.names.Numbered.{Numbered}
use Rattle.sheet.proofs.ResolveLaws.{not-told-no, not-told-yes}

-- a row that stands among the others or not
names-there : (of : Numbered) (e : Entry) (es : List Entry) (there : Bool) →
    names_for of (pick there (e ∷ es) es)
    ≡ pick (pick there (is_for of e.kind e.adapter e.number) false) (e.name ∷ names_for of es) (names_for of es)
unfolding names_for
names-there of e es true = refl
names-there of e es false = refl

names-entry : (own : ℕ → Bool) (of : Numbered) (written : List ℕ) (es : List Entry) (l : Option Line) →
    names_for of (entries_on own (entry_by l written es))
    ≡ pick (is_for_line own of l) (written ∷ names_for of (entries_on own es)) (names_for of (entries_on own es))
unfolding entries_on is_for_line
names-entry own of written es (Some (Row k adapter number)) =
    names-there of (record { kind = k; adapter = adapter; number = number; name = written }) (entries_on own es) (own adapter)
names-entry own of written es (Some (Primary a)) = refl
names-entry own of written es (Some (Adapter a)) = refl
names-entry own of written es (Some (Party a party)) = refl
names-entry own of written es None = refl

-- the names of a sheet whose first line is l
pub names-line : (own : ℕ → Bool) (of : Numbered) (l : List ℕ) (ls : List (List ℕ)) →
    names_for of (entries_on own (entries (l ∷ ls)))
    ≡ pick (is_for_line own of (line_of l)) (name_of l ∷ names_for of (entries_on own (entries ls))) (names_for of (entries_on own (entries ls)))
unfolding entries
names-line own of l ls = names-entry own of (name_of l) (entries ls) (line_of l)

first_of : (x : List ℕ) (xs : List (List ℕ)) (n : ℕ) → n ≡ 0 → get_or (x ∷ xs) n [] ≡ x
first_of x xs zero e = refl
first_of x xs (suc n) e = absurd (omega arith)

later_of : (x : List ℕ) (xs : List (List ℕ)) (n : ℕ) → (n ≡ 0 → ⊥) → get_or (x ∷ xs) n [] ≡ get_or xs (n - 1) []
later_of x xs zero h = absurd (h refl)
later_of x xs (suc n) h =
    let e : suc n - 1 ≡ n = omega arith in
    rw e

-- the names from an offset of the sheet on
abbrev pub names_from : (ℕ → Bool) → Numbered → List ℕ → ℕ → List (List ℕ)
names_from own of s at = names_for of (entries_on own (entries (lines (drop at s))))

-- from an offset on so many names are left before the one that is asked for, which is x
module _ (own : ℕ → Bool) (of : Numbered) (s : List ℕ) (at left : ℕ) {x : List ℕ} (i : get_or (names_from own of s at) left [] ≡ x) where
  pub names-none : length s ≤ at → [] ≡ x
  unfolding names_for entries_on entries
  names-none h = rw (split-none 0x0A s at h) at i

  -- the line there, which the code has read, is a row for it or not
  module _ (h : at < length s) {end : ℕ} (e : end ≡ line_end s at) {l : List ℕ} (q : l ≡ part_of s at end) {r : Bool}
      (t : r ≡ is_for_line own of (line_of l)) where
    pub names-past : r ≡ false → {n : ℕ} → n ≡ left → get_or (names_from own of s (end + 1)) n [] ≡ x
    names-past f k = rw k (rw (part-read 0x0A s at e h q, names-line, ← t, f) at i)

    module _ (f : r ≡ true) where
      at_row : get_or (name_of l ∷ names_from own of s (end + 1)) left [] ≡ x
      at_row = rw (part-read 0x0A s at e h q, names-line, ← t, f) at i

      pub names-here : left ≡ 0 → {n : List ℕ} → n ≡ name_of l → n ≡ x
      names-here z g = g ∙ sym (first_of (name_of l) (names_from own of s (end + 1)) left z) ∙ at_row

      pub names-on : (left ≡ 0 → ⊥) → {n : ℕ} → n ≡ left - 1 → get_or (names_from own of s (end + 1)) n [] ≡ x
      names-on z k = rw k (sym (later_of (name_of l) (names_from own of s (end + 1)) left z) ∙ at_row)

-- what a name picks, taken apart, or handed on by a callee
pub found_as : (of : Numbered) (found : Result Ref Unfound) {v : Result Ref Unfound} {x : Bool} → found ≡ v → x ≡ is_found of v → x ≡ is_found of found
found_as of found was h = rw was h

pub found-told : (of : Numbered) (asked : Result Ref Unfound) {found : Result Ref Unfound} {r : Bool} → found ≡ asked → r ≡ is_found of found → r ≡ is_found of asked
found-told of asked e h = rw (sym e) h

-- closes what is left of a function that looks for names
pub ruleset naming = (found_as, found-told, not-told-no, not-told-yes, steps)
