use Prim.Native.Nat.{◌-◌}
use lib.ListN.{length}
use Rattle.tokens.proofs.ScanLaws.{CommentFrom}
use Rattle.tokens.proofs.scan.plain_end.Given as goal

-- the comment from here, where so many bytes have been passed, ends where it does from the start
abbrev pub invariant-loop-start : goal.invariant-loop-start
invariant-loop-start l = CommentFrom l.s l.start l.line l.column l.at

abbrev pub decreases-loop-start : goal.decreases-loop-start
decreases-loop-start l = length l.s - l.at
