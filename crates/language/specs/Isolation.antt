-- Document 02, §6: one hirer's rows have no part in what another's call answers.
use Rattle.std.specs.Prelude.{◌≡◌, List, ℕ}
use Rattle.sheet.specs.Sheet.{well_formed, sheet_check}
use Rattle.sheet.specs.Party.{Agree}
use Rattle.sheet.specs.declared.Call.{Call}
use Rattle.language.specs.Read.{read_of}

-- "For two accepted sheets that agree on which adapters are the party's, and on those adapters' rows in their order, the same text and primary given
-- and all else alike, the party's call gives the same answer": number, place, detail and lists, and every word of the buffer at exit. What agreeing
-- is looks neither at the sheets' `primary` lines nor at how `party` rows are spelled, nor at anything of another's adapters.
abbrev pub Isolated : Type 0
Isolated =
    (call : Call) (text s t : List ℕ) (lent : List (List ℕ)) (words : List ℕ) → sheet_check s ≡ well_formed → sheet_check t ≡ well_formed → Agree call.party s t →
    read_of call text s lent words ≡ read_of call text t lent words
