-- The code's way to question 3 and to the party's adapters, in one pass over the lines. Nothing here need be believed: `survey_bad` and
-- `survey_well` show what it comes to.
use Rattle.std.specs.Prelude.{ℕ, ◌+◌, List, [], ◌∷◌, Bool, true, false, not, length, eqb, ltb, Option, Some, None, Result, Ok, Err}
use Rattle.text.specs.Choice.{pick}
use Rattle.sheet.specs.Line.{line_of}
use Rattle.sheet.specs.Sheet.{lines, last_line, is_primary, longest_sheet}
use Rattle.sheet.specs.Adapters.{has, packed, put}
use Rattle.sheet.specs.declared.line.Line.{Line}
use Rattle.sheet.specs.declared.line.Line.TheVariants.{Primary, Adapter, Party, Row}
use Rattle.sheet.specs.declared.rows.Said.{Said}
use Rattle.sheet.specs.declared.rows.BadLine.{BadLine}

-- a row with a name
unfoldable pub is_named : Option Line → Bool
is_named (Some (Primary a)) = false
is_named (Some (Adapter a)) = false
is_named (Some (Party a party)) = false
is_named (Some (Row kind adapter number)) = true
is_named None = false

-- `may_follow`, by what the earlier lines said
unfoldable pub may_add : Said → Option Line → Bool
may_add said (Some (Primary a)) = false
may_add said (Some (Adapter a)) = true
may_add said (Some (Party a party)) = not (has said.owners a)
may_add said (Some (Row kind adapter number)) = true
may_add said None = false

-- what is said with one line more
unfoldable pub added : ℕ → Said → Option Line → Said
added party said (Some (Primary a)) = said
added party said (Some (Adapter a)) = record { owners = said.owners; own = said.own; listed = put said.listed a true }
added party said (Some (Party a p)) =
    record { owners = put said.owners a true; own = put said.own a (eqb p party); listed = said.listed }
added party said (Some (Row kind adapter number)) = said
added party said None = said

unfoldable pub none_said : ℕ → Said
none_said party = record { owners = packed (λ a. false); own = packed (λ a. eqb party 0); listed = packed (λ a. false) }

abbrev pub bad_line : ℕ → Said → Result Said BadLine
bad_line n said = Err (record { line = n; said = said })

unfoldable pub survey_from : ℕ → ℕ → Said → List (List ℕ) → Result Said BadLine
survey_from party n said [] = Ok said
survey_from party n said (l ∷ ls) =
    pick (ltb last_line n) (bad_line n said)
    (pick (may_add said (line_of l)) (survey_from party (n + 1) (added party said (line_of l)) ls) (bad_line n said))

unfoldable pub survey_lines : ℕ → List (List ℕ) → Result Said BadLine
survey_lines party [] = bad_line 1 (none_said party)
survey_lines party (l ∷ ls) = pick (is_primary (line_of l)) (survey_from party 2 (none_said party) ls) (bad_line 1 (none_said party))

unfoldable pub survey_of : ℕ → List ℕ → Result Said BadLine
survey_of party s = pick (ltb longest_sheet (length s)) (bad_line 0 (none_said party)) (survey_lines party (lines s))
