-- A name looked up among the rows of a sheet (document 01, questions 31 to 34).
use Rattle.std.specs.Prelude.{ℕ, List, [], ◌∷◌, Bool, true, false, length, eqb, Result, Ok, Err}
use Rattle.text.specs.Choice.{pick}
use Rattle.text.specs.Part.{same_bytes}
use Rattle.text.specs.Place.{counted}
use Rattle.model.specs.declared.Ref.{Ref}
use Rattle.sheet.specs.Sheet.{Entry}
use Rattle.sheet.specs.declared.resolve.Scope.{Scope}
use Rattle.sheet.specs.declared.resolve.Scope.TheVariants.{Any, On}
use Rattle.sheet.specs.declared.resolve.Unfound.{Unfound}

-- "A row of that kind with that name": names match byte for byte
unfoldable pub is_candidate : ℕ → List ℕ → Entry → Bool
is_candidate kind name e = pick (eqb e.kind kind) (same_bytes e.name name) false

unfoldable pub candidates : ℕ → List ℕ → List Entry → List Entry
candidates kind name [] = []
candidates kind name (e ∷ es) =
    pick (is_candidate kind name e) (e ∷ candidates kind name es) (candidates kind name es)

-- "A name's rows in scope are those of its kind on the last adapter in its parentheses, or on all if none is there"
unfoldable pub is_in : Scope → ℕ → Bool
is_in Any adapter = true
is_in (On a) adapter = eqb adapter a

unfoldable pub in_scope : Scope → List Entry → List Entry
in_scope scope [] = []
in_scope scope (e ∷ es) = pick (is_in scope e.adapter) (e ∷ in_scope scope es) (in_scope scope es)

-- whether one of these rows is on another adapter than a
unfoldable pub elsewhere : ℕ → List Entry → Bool
elsewhere a [] = false
elsewhere a (e ∷ es) = pick (eqb e.adapter a) (elsewhere a es) true

-- a refusal's number and detail
abbrev pub not_found : ℕ → ℕ → Result Ref Unfound
not_found number detail = Err (record { number = number; detail = detail })

-- "A row of that kind with that name? 31. One in scope? 32, detail the adapter of the first such row."
unfoldable pub none_of : List Entry → Result Ref Unfound
none_of [] = not_found 31 0
none_of (e ∷ es) = not_found 32 e.adapter

-- "Only one? 33, or 34 if they span adapters; detail their count." The candidates, and those of them in scope
unfoldable pub chosen : List Entry → List Entry → Result Ref Unfound
chosen all [] = none_of all
chosen all (e ∷ []) = Ok (record { adapter = e.adapter; number = e.number })
chosen all (e ∷ f ∷ es) =
    not_found (pick (elsewhere e.adapter (f ∷ es)) 34 33) (counted (length (e ∷ f ∷ es)))

unfoldable pub pick_named : ℕ → List ℕ → Scope → List Entry → Result Ref Unfound
pick_named kind name scope es = chosen (candidates kind name es) (in_scope scope (candidates kind name es))
