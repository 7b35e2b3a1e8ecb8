use borrow.Author.Rules.{rules}
use native.Mathlib.Omega.{arith}
use lib.ListN.{length-set}
use Rattle.text.proofs.Tests.{steps}
use Rattle.tokens.specs.Record.{written, capacity}
use Rattle.tokens.proofs.RecordLaws.{five_stores}
use Rattle.tokens.proofs.record.put.Goals as goal

pub returns-then-words-i : goal.returns-then-words-i
unfolding written capacity
returns-then-words-i c = search steps

pub place_word-place-requires : goal.place_word-place-requires
unfolding written capacity
place_word-place-requires c = search rules

pub offset_bounds-words-at : goal.offset_bounds-words-at
unfolding written capacity
offset_bounds-words-at c = search rules

pub offset_bounds-words-at-2 : goal.offset_bounds-words-at-2
unfolding written capacity
offset_bounds-words-at-2 c = search rules

pub bounds-words-at-2 : goal.bounds-words-at-2
unfolding written capacity
bounds-words-at-2 c = simp length-set (omega arith)

pub offset_bounds-words-at-3 : goal.offset_bounds-words-at-3
unfolding written capacity
offset_bounds-words-at-3 c = search rules

pub bounds-words-at-3 : goal.bounds-words-at-3
unfolding written capacity
bounds-words-at-3 c = simp length-set (omega arith)

pub offset_bounds-words-at-4 : goal.offset_bounds-words-at-4
unfolding written capacity
offset_bounds-words-at-4 c = search rules

pub bounds-words-at-4 : goal.bounds-words-at-4
unfolding written capacity
bounds-words-at-4 c = simp length-set (omega arith)

pub offset_bounds-words-at-5 : goal.offset_bounds-words-at-5
unfolding written capacity
offset_bounds-words-at-5 c = search rules

pub bounds-words-at-5 : goal.bounds-words-at-5
unfolding written capacity
bounds-words-at-5 c = simp length-set (omega arith)

pub shape_of-words : goal.shape_of-words
unfolding written capacity
shape_of-words c = search rules

pub returns : goal.returns
unfolding written capacity
returns c = let a = c.args in five_stores a.words.now a.i a.r c.place_word-place.ensures c.if-words-i.false
