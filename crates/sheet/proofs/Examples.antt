-- Lines of an office sheet and lookups in it (document 02, §8), evaluated from the definitions.
use mathlib.Core.Path.{◌≡◌, refl}
use mathlib.Core.List.{List, [], ◌∷◌, ◌++◌}
use Prim.Native.Nat.{ℕ}
use Prim.Native.String.{String}
use Rattle.std.specs.Prelude.{Some, None, Result, Ok}
use Rattle.text.specs.Find.{index_of, index_after}
use Rattle.text.specs.Literal.{ascii}
use Rattle.text.specs.Part.{same_bytes}
use Rattle.text.specs.Ascii.{is_digit}
use Rattle.text.specs.Split.{split}
use Rattle.model.specs.Limits.{last_group, last_short_address}
use Rattle.model.specs.declared.Ref.{Ref}
use Rattle.sheet.specs.Kind.{lamp_kind, kind_of, most_of}
use Rattle.sheet.specs.Line.{without_return, field, rest, has_comma, digits_on, numeral, is_mark, plain, is_name, checked_row, read_row, primary_of, adapter_of, party_by, party_of, line_by, bare_line, bare_name, line_of, name_of}
use Rattle.sheet.specs.Sheet.{lines, bad_line_rule, following_check, may_follow, is_primary, lines_check, sheet_check, entries}
use Rattle.sheet.specs.Resolve.{is_candidate, candidates, is_in, in_scope, not_found, none_of, chosen, pick_named}
use Rattle.sheet.specs.declared.line.Line.TheVariants.{Primary, Adapter, Party, Row}
use Rattle.sheet.specs.declared.resolve.Scope.TheVariants.{Any}
use Rattle.sheet.specs.declared.resolve.Unfound.{Unfound}

-- a line that the office saved, up to its LF
abbrev saved : String → List ℕ
saved s = ascii s ++ 0x0D ∷ []

-- ---- what a line says

lines-say :
    (line_of (ascii "lamp,0,1,Aisle 3, cold") ≡ Some (Row lamp_kind 0 1))
    × (line_of (saved "lamp,0,1,Aisle 3, cold") ≡ Some (Row lamp_kind 0 1))
    × (line_of (saved "primary,0") ≡ Some (Primary 0))
    × (line_of (saved "adapter,1") ≡ Some (Adapter 1))
    × (line_of (saved "party,1,2") ≡ Some (Party 1 2))
unfolding index_of index_after same_bytes is_digit last_group last_short_address kind_of most_of without_return field rest has_comma digits_on numeral is_mark plain is_name checked_row read_row primary_of adapter_of party_by party_of line_by bare_line line_of
lines-say = (refl, refl, refl, refl, refl)

-- an empty name, a quote behind a comma, and commas at the end of what is no name
bad-lines :
    (line_of (saved "lamp,0,1,") ≡ None)
    × (line_of (ascii "lamp,0,1,Aisle 3,\"cold") ≡ None)
    × (line_of (ascii "adapter,1,") ≡ None)
    × (line_of (ascii "party,1,2,") ≡ None)
unfolding index_of index_after same_bytes is_digit last_group last_short_address kind_of most_of without_return field rest has_comma digits_on numeral is_mark plain is_name checked_row read_row adapter_of party_by party_of line_by bare_line line_of
bad-lines = (refl, refl, refl, refl)

names :
    (name_of (saved "lamp,0,1,Aisle 3, cold") ≡ ascii "Aisle 3, cold")
    × (name_of (ascii "lamp,0,1,,") ≡ ascii ",")
    × (name_of (ascii "lamp,0,1,a,") ≡ ascii "a,")
unfolding index_of index_after without_return rest bare_name name_of
names = (refl, refl, refl)

-- a CR alone is a line, which is empty
return_alone : sheet_check (ascii "primary,0" ++ 0x0A ∷ 0x0D ∷ []) ≡ bad_line_rule 2
unfolding index_of index_after same_bytes is_digit split without_return field rest has_comma digits_on numeral primary_of line_by bare_line line_of following_check may_follow is_primary lines_check sheet_check
return_alone = refl

-- ---- names are compared whole

abbrev sheet : List ℕ
sheet = saved "lamp,0,1,Aisle 3, cold" ++ 0x0A ∷ saved "lamp,0,2,Till"

abbrev one : ℕ → ℕ → Result Ref Unfound
one adapter number = Ok (record { adapter = adapter; number = number })

abbrev lamp : List ℕ → Result Ref Unfound
lamp name = pick_named lamp_kind name Any (entries (lines sheet))

found :
    (lamp (ascii "Aisle 3, cold") ≡ one 0 1)
    × (lamp (ascii "cold") ≡ not_found 31 0)
    × (lamp (ascii " cold") ≡ not_found 31 0)
    × (lamp (ascii "Till") ≡ one 0 2)
    × (lamp (saved "Till") ≡ not_found 31 0)
unfolding index_of index_after same_bytes is_digit split last_group last_short_address kind_of most_of without_return field rest has_comma digits_on numeral is_mark plain is_name checked_row read_row line_by bare_line bare_name line_of name_of entries is_candidate candidates is_in in_scope none_of chosen pick_named
found = (refl, refl, refl, refl, refl)
