-- What a row of the archive says (document 02, §10): "one trigger a row: `K,name,A,word`". Fields, numbers and names are the sheet's.
use Rattle.std.specs.Prelude.{ℕ, List, Bool, true, false, length, leb, eqb, Option, Some, None}
use Rattle.text.specs.Choice.{pick}
use Rattle.text.specs.Literal.{ascii}
use Rattle.text.specs.Part.{same_bytes}
use Rattle.model.specs.Limits.{last_adapter}
use Rattle.model.specs.declared.Power.TheVariants.{On, Off}
use Rattle.model.specs.declared.Aggregate.TheVariants.{AnyOn, AllOff}
use Rattle.model.specs.declared.Online.TheVariants.{GoesOffline, ComesOnline}
use Rattle.sheet.specs.Line.{field, rest, has_comma, numeral, is_name}
use Rattle.sheet.specs.declared.resolve.Scope.{Scope}
use Rattle.old_rows.specs.declared.row.Change.{Change}
use Rattle.old_rows.specs.declared.row.Change.TheVariants.{Lamp, Group, Device, Unknown}
use Rattle.old_rows.specs.declared.row.Row.{Row}

-- "K being lamp (on, off), group (any_on, all_off) or device (offline, online)"
unfoldable pub lamp_change : List ℕ → Change
lamp_change w = pick (same_bytes w (ascii "on")) (Lamp On) (pick (same_bytes w (ascii "off")) (Lamp Off) Unknown)

unfoldable pub group_change : List ℕ → Change
group_change w = pick (same_bytes w (ascii "any_on")) (Group AnyOn) (pick (same_bytes w (ascii "all_off")) (Group AllOff) Unknown)

unfoldable pub device_change : List ℕ → Change
device_change w =
    pick (same_bytes w (ascii "offline")) (Device GoesOffline) (pick (same_bytes w (ascii "online")) (Device ComesOnline) Unknown)

unfoldable pub change_of : List ℕ → List ℕ → Change
change_of k w =
    pick (same_bytes k (ascii "lamp")) (lamp_change w)
    (pick (same_bytes k (ascii "group")) (group_change w) (pick (same_bytes k (ascii "device")) (device_change w) Unknown))

unfoldable pub is_known : Change → Bool
is_known (Lamp power) = true
is_known (Group state) = true
is_known (Device state) = true
is_known Unknown = false

-- a change of what has the row's name, on one adapter or on any; None of a malformed row
abbrev pub says : Change → Scope → Option Row
says change scope = Some (record { change = change; scope = scope })

-- "A empty when no adapter is named"
unfoldable pub on_adapter : Change → Option ℕ → Option Row
on_adapter change None = None
on_adapter change (Some a) = pick (leb a last_adapter) (says change (Scope.On a)) None

unfoldable pub scoped : Change → List ℕ → Option Row
scoped change a = pick (eqb (length a) 0) (says change Scope.Any) (on_adapter change (numeral a))

-- A,word of a kind
unfoldable pub behind_name : List ℕ → List ℕ → Option Row
behind_name k l =
    pick (has_comma l) (pick (is_known (change_of k (rest l))) (scoped (change_of k (rest l)) (field l)) None) None

-- name,A,word: "its name keeps the sheet's name rule without commas"
unfoldable pub behind_kind : List ℕ → List ℕ → Option Row
behind_kind k l = pick (has_comma l) (pick (is_name (field l)) (behind_name k (rest l)) None) None

-- a row without the LF at its end, and its name
unfoldable pub row_of : List ℕ → Option Row
row_of l = pick (has_comma l) (behind_kind (field l) (rest l)) None

unfoldable pub row_name : List ℕ → List ℕ
row_name l = field (rest l)
