use Prim.Native.Nat.{◌-◌}
use Rattle.tokens.specs.Lexing.{most_tokens}
use Rattle.tokens.proofs.LexAllLaws.{Going}
use Rattle.tokens.proofs.lexer.lex_all.Given as goal

abbrev pub invariant-loop-code : goal.invariant-loop-code
invariant-loop-code l = Going l.s l.initial.words l.words l.p l.count

abbrev pub decreases-loop-code : goal.decreases-loop-code
decreases-loop-code l = most_tokens - l.count
