-- Rules by which a search follows the code that reads a row, and looks up its name.
use Rattle.std.specs.Prelude.{Option, None}
use native.Mathlib.Omega.{arith}
use mathlib.Core.Path.{◌≡◌, sym}
use mathlib.Core.Bool.{Bool, true, false}
use mathlib.Core.List.{List}
use Prim.Native.Nat.{ℕ}
use lib.ListN.{length, take}
use lib.Seq.{length-take-le}
use Rattle.std.specs.Prelude.{Option, Result}
use Rattle.text.specs.Find.{index_of}
use Rattle.text.specs.Choice.{pick}
use Rattle.text.proofs.FindLaws.{first-is, first-within}
use Rattle.text.proofs.Tests.{steps}
use Rattle.model.specs.declared.Ref.{Ref}
use Rattle.model.specs.declared.Trigger.{Trigger}
use Rattle.sheet.specs.Line.{field, rest, numeral, is_name}
use Rattle.sheet.specs.Resolve.{pick_named}
use Rattle.sheet.specs.Sheet.{Entry}
use Rattle.sheet.specs.View.{View}
use Rattle.sheet.specs.declared.resolve.Scope.{Scope}
use Rattle.sheet.specs.declared.resolve.Unfound.{Unfound}
use Rattle.sheet.proofs.LineLaws.{field-slice, reading}
use Rattle.old_rows.specs.Row.{change_of, is_known, on_adapter, scoped, behind_name, behind_kind, row_name}
use Rattle.old_rows.specs.Convert.{changed_kind, trigger_by, is_seen, found_in, change_in}
use Rattle.old_rows.specs.Back.{changed_by, changed_of}
use Rattle.old_rows.specs.declared.row.Change.{Change}
use Rattle.old_rows.specs.declared.row.Row.{Row}
use Rattle.old_rows.specs.declared.restore.Changed.{Changed}

-- what the callees read, given to another
pub by_number : (change : Change) (a : List ℕ) {n : Option ℕ} {x : Option Row} → n ≡ numeral a → x ≡ on_adapter change n → x ≡ on_adapter change (numeral a)
by_number change a d e = rw (← d) e

pub by_kind : (k l : List ℕ) {h m : List ℕ} {x : Option Row} → h ≡ k → m ≡ l → x ≡ behind_kind h m → x ≡ behind_kind k l
by_kind k l d f e = rw (← d, ← f) e

-- the name is asked before what is behind it
module _ (k l : List ℕ) {f : List ℕ} {r : Bool} (is : f ≡ field l) (asked : r ≡ is_name f) where
  pub named-yes : {m : List ℕ} {x : Option Row} → r ≡ true → m ≡ rest l → x ≡ behind_name k m →
      x ≡ pick (is_name (field l)) (behind_name k (rest l)) None
  named-yes h g e = rw (← is, ← asked, h, ← g) e

  pub named-no : (y : Option Row) → r ≡ false → None ≡ pick (is_name (field l)) y None
  named-no y h = rw (← is, ← asked, h)

-- the change that the code found
module _ (k l : List ℕ) {w : List ℕ} {change : Change} {known : Bool} (behind : w ≡ rest l) (is : change ≡ change_of k w)
    (asked : known ≡ is_known change) where
  pub change-yes : {a : List ℕ} {x : Option Row} → known ≡ true → a ≡ field l → x ≡ scoped change a →
      x ≡ pick (is_known (change_of k (rest l))) (scoped (change_of k (rest l)) (field l)) None
  change-yes h f e = rw (← behind, ← is, ← asked, h, ← f) e

  pub change-no : (y : Option Row) → known ≡ false → None ≡ pick (is_known (change_of k (rest l))) y None
  change-no y h = rw (← behind, ← is, ← asked, h)

-- the name between the first two commas
pub name-inside : (m : List ℕ) {i : ℕ} → i ≡ index_of 0x2C m → i ≡ length (take i m)
name-inside m e =
    let k = first-is 0x2C m 0 (omega arith) in
    sym (length-take-le _ _ (omega (arith, first-within 0x2C m 0)))

pub name-read : (l : List ℕ) {m : List ℕ} {i : ℕ} → m ≡ rest l → i ≡ index_of 0x2C m → take i m ≡ row_name l
unfolding row_name
name-read l d e = rw (← d) (field-slice _ e)

-- closes what is left of a function that reads a row
pub ruleset row-reading = (by_number, by_kind, named-yes, named-no, change-yes, change-no, name-read, reading)

-- a value that the code takes apart
pub trigger_as : (change : Change) (r : Ref) {v : Change} {x : Trigger} → change ≡ v → x ≡ trigger_by v r → x ≡ trigger_by change r
trigger_as change r was e = rw was e

pub seen_as : (view : View) (scope : Scope) {v : Scope} {x : Bool} → scope ≡ v → x ≡ is_seen view v → x ≡ is_seen view scope
seen_as view scope was e = rw was e

pub found_as : (view : View) (row : Option Row) (name : List ℕ) {v : Option Row} {x : Result Ref Unfound} → row ≡ v → x ≡ found_in view v name → x ≡ found_in view row name
found_as view row name was e = rw was e

pub change_as : (row : Option Row) {v : Option Row} {x : Change} → row ≡ v → x ≡ change_in v → x ≡ change_in row
change_as row was e = rw was e

pub changed_as : (x : Trigger) {v : Trigger} {c : Changed} → x ≡ v → c ≡ changed_of v → c ≡ changed_of x
changed_as x was e = rw was e

-- the kind that a callee told
pub kind-told : (change : Change) (name : List ℕ) (scope : Scope) (es : List Entry) {k : ℕ} {x : Result Ref Unfound} → k ≡ changed_kind change →
    x ≡ pick_named k name scope es → x ≡ pick_named (changed_kind change) name scope es
kind-told change name scope es d e = rw (← d) e

pub changed-made : (change : Change) (r : Ref) {k : ℕ} → k ≡ changed_kind change →
    record { change = change; of = record { kind = k; adapter = r.adapter; number = r.number } } ≡ changed_by change r
unfolding changed_by
changed-made change r e = rw e

pub known-told : (t : Trigger) {c : Changed} {r : Bool} → c ≡ changed_of t → r ≡ is_known c.change → r ≡ is_known (changed_of t).change
known-told t d e = rw (← d) e

-- closes what is left of a function that looks up a row's name
pub ruleset row_finding = (trigger_as, seen_as, found_as, change_as, changed_as, kind-told, changed-made, known-told, steps)
