-- The names that a call sees for a lamp, group, device or input device, and how one of them is written so that it refers to it: what is offered in the
-- place of an id that the shop profile refuses.
use Rattle.std.specs.Prelude.{ℕ, List, [], ◌∷◌, Bool, false, eqb, Option, Some, None, Result, Ok, Err}
use Rattle.text.specs.Choice.{pick}
use Rattle.model.specs.declared.Ref.{Ref}
use Rattle.sheet.specs.Sheet.{Entry}
use Rattle.sheet.specs.View.{View}
use Rattle.sheet.specs.Resolve.{pick_named}
use Rattle.sheet.specs.declared.line.Line.{Line}
use Rattle.sheet.specs.declared.line.Line.TheVariants.{Primary, Adapter, Party, Row}
use Rattle.sheet.specs.declared.resolve.Scope.TheVariants.{Any, On}
use Rattle.sheet.specs.declared.resolve.Unfound.{Unfound}
use Rattle.sheet.specs.declared.names.Numbered.{Numbered}
use Rattle.sheet.specs.declared.names.Form.{Form}
use Rattle.sheet.specs.declared.names.Form.TheVariants.{Alone, WithAdapter, Nowise}

-- a row for it
unfoldable pub is_for : Numbered → ℕ → ℕ → ℕ → Bool
is_for of kind adapter number =
    pick (eqb kind of.kind) (pick (eqb adapter of.adapter) (eqb number of.number) false) false

-- the names in the rows for it, in their order
unfoldable pub names_for : Numbered → List Entry → List (List ℕ)
names_for of [] = []
names_for of (e ∷ es) = pick (is_for of e.kind e.adapter e.number) (e.name ∷ names_for of es) (names_for of es)

-- whether just it was found by a name
unfoldable pub is_found : Numbered → Result Ref Unfound → Bool
is_found of (Ok r) = pick (eqb r.adapter of.adapter) (eqb r.number of.number) false
is_found of (Err e) = false

-- a name refers to it alone, or with its adapter, which must be listed (25), or is refused or refers to another (31 to 34)
unfoldable pub form_of : View → List ℕ → Numbered → Form
form_of view name of =
    pick (is_found of (pick_named of.kind name Any view.rows)) Alone
    (pick (view.listed of.adapter)
    (pick (is_found of (pick_named of.kind name (On of.adapter) view.rows)) WithAdapter Nowise) Nowise)

-- The code's way to `names_for`, line by line; it need not be believed.
unfoldable pub is_for_line : (ℕ → Bool) → Numbered → Option Line → Bool
is_for_line own of (Some (Row kind adapter number)) = pick (own adapter) (is_for of kind adapter number) false
is_for_line own of (Some (Primary a)) = false
is_for_line own of (Some (Adapter a)) = false
is_for_line own of (Some (Party a party)) = false
is_for_line own of None = false
