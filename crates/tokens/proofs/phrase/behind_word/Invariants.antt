use mathlib.Core.Path.{◌≡◌}
use Prim.Native.Nat.{ℕ, ◌+◌, ◌<◌, ◌≤◌}
use lib.ListN.{length, get_or}
use Rattle.text.specs.Find.{first_at}
use Rattle.tokens.proofs.phrase.behind_word.Given as goal

-- the first k bytes are the same, and no space is among them
abbrev pub invariant-loop-k : goal.invariant-loop-k
invariant-loop-k l = (first_at 0x20 l.list (l.at + l.k) ≡ first_at 0x20 l.list l.at) × ((m : ℕ) → m < l.k → get_or l.w m 0 ≡ get_or l.list (l.at + m) 0) × (l.k ≤ length l.w)
