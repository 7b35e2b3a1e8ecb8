use mathlib.Core.Path.{◌≡◌}
use mathlib.Core.List.{[]}
use Prim.Native.Nat.{ℕ}
use lib.ListN.{get_or}
use Rattle.flat.proofs.EntryLaws.{rows_to}
use Rattle.flat.proofs.put_rows.Given as goal

-- the first i rows are written
abbrev pub invariant-loop-i : goal.invariant-loop-i
invariant-loop-i l = l.out ≡ rows_to l.i l.initial.out l.first (λ (k : ℕ). get_or l.rows k [])
