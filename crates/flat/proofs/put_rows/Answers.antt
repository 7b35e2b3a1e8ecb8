use mathlib.Core.List.{[]}
use Prim.Native.Nat.{ℕ}
use native.Mathlib.Omega.{arith}
use lib.ListN.{get_or}
use Rattle.flat.proofs.EntryLaws.{all-four}
use Rattle.flat.proofs.put_rows.Goals as goal

pub returns : goal.returns
returns c = let a = c.args in all-four c.loop-i.i a.out.now a.first (λ (k : ℕ). get_or a.rows k []) (omega arith) c.loop-i.invariant
