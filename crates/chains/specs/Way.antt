-- How the next sequence is found: the last piece that can be raised is raised, and the rest filled up with the least. No part of the promise
-- (Listed.antt).
use Rattle.std.specs.Prelude.{ℕ, zero, suc, ◌+◌, ◌-◌, Bool, true, false, List, [], ◌∷◌, ltb, eqb, length, get_or}
use Rattle.text.specs.Choice.{pick}
use Rattle.chains.specs.Vocabulary.{piece_count}
use Rattle.chains.specs.Listed.{most_pieces, chain, refused}
use Rattle.chains.specs.Places.{step, may_end}
use Rattle.chains.specs.declared.Chain.{Chain}
use Rattle.chains.specs.declared.place.Place.{Place}
use Rattle.chains.specs.declared.place.Place.TheVariants.{Start}

-- the place behind a sequence
unfoldable pub reached : Place → List ℕ → Place
reached place [] = place
reached place (q ∷ v) = reached (step place q) v

-- the least piece from q on behind which n pieces may follow up to the end; piece_count if there is none
unfoldable pub least_from : Place → ℕ → ℕ → ℕ → ℕ
least_from place n zero q = piece_count
least_from place n (suc k) q =
    let later = least_from place n k (q + 1) in
    pick (may_end (step place q) n) q later

unfoldable pub least : Place → ℕ → ℕ → ℕ
least place q n = least_from place n (piece_count - q) q

-- the index of the last piece that can be raised, of those from the index i on; `best` if there is none
unfoldable pub last_raised : Place → List ℕ → ℕ → ℕ → ℕ
last_raised place [] i best = best
last_raised place (q ∷ v) i best =
    last_raised (step place q) v (i + 1) (pick (ltb (least place (q + 1) (length v)) piece_count) i best)

-- n pieces from the index i on: those of v before the index p, there the least from `low` on, behind it the least
unfoldable pub piece_at : List ℕ → ℕ → ℕ → ℕ → Place → ℕ → ℕ
piece_at v p low i place n = pick (ltb i p) (get_or v i 0) (least place (pick (eqb i p) low 0) n)

unfoldable pub built : List ℕ → ℕ → ℕ → ℕ → Place → ℕ → List ℕ
built v p low i place zero = []
built v p low i place (suc n) =
    let q = piece_at v p low i place n in
    q ∷ built v p low (i + 1) (step place q) n

-- the first of the shortest from n pieces on; no pieces if there is none
unfoldable pub longer_from : List ℕ → ℕ → ℕ → List ℕ
longer_from v zero n = []
longer_from v (suc k) n =
    let longer = longer_from v k (n + 1) in
    let first = built v 0 0 0 Start n in
    pick (may_end Start n) first longer

unfoldable pub longer : List ℕ → ℕ → List ℕ
longer v n = longer_from v (most_pieces + 1 - n) n

-- the first behind v that is as long
unfoldable pub raised : List ℕ → ℕ → List ℕ
raised v p = built v p (get_or v p 0 + 1) 0 Start (length v)

-- the next one; no pieces if none follows
unfoldable pub following : List ℕ → List ℕ
following v =
    let p = last_raised Start v 0 (length v) in
    pick (ltb p (length v)) (raised v p) (longer v (length v + 1))

-- may the list be gone on with from here?
unfoldable pub is_start : List ℕ → Bool
is_start v = pick (eqb (length v) 0) true (pick (ltb most_pieces (length v)) false (may_end (reached Start v) 0))

-- the whole answer; that it is what Listed.antt asks for is `next-answered` (proofs/NextLaws.antt)
unfoldable pub next_of : List ℕ → Chain
next_of v = pick (is_start v) (chain (following v)) refused
