use mathlib.Core.Path.{◌≡◌, refl}
use Prim.Native.Nat.{◌≤◌}
use native.Mathlib.Omega.{arith}
use lib.ListN.{length, length-set}
use borrow.Author.Rules.{rules}
use Rattle.chains.specs.Listed.{most_pieces}
use Rattle.tergyosul.specs.Chains.{chain_answer_words}
use Rattle.tergyosul.proofs.ChainLaws.{unwritten, one_piece, all-pieces}
use Rattle.tergyosul.proofs.chain.put_chain.Goals as goal

pub returns-then-answer-lt-CHAIN_WORDS : goal.returns-then-answer-lt-CHAIN_WORDS
returns-then-answer-lt-CHAIN_WORDS c = search (rules, unwritten)

pub loop-i-init : goal.loop-i-init
loop-i-init c = (refl, refl)

pub bounds-answer-i : goal.bounds-answer-i
bounds-answer-i c = rw c.loop-i.invariant.0 (simp length-set (omega arith))

pub loop-i-preserved : goal.loop-i-preserved
loop-i-preserved c = (search rules, search (rules, one_piece))

pub shape_of-answer : goal.shape_of-answer
shape_of-answer c = rw c.loop-i.invariant.0 (simp length-set (search rules))

pub returns : goal.returns
returns c = let a = c.args in
    let room : chain_answer_words ≤ length a.answer.now = search rules in
    let size : length a.c.pieces ≡ most_pieces = search rules in
    let done : length a.c.pieces ≤ c.loop-i.i = omega arith in
    all-pieces a.c a.answer.now room c.put_four.ensures c.held.ensures done c.loop-i.invariant.1
