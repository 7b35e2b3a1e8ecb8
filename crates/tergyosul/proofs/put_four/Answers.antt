use borrow.Author.Rules.{rules}
use native.Mathlib.Omega.{arith}
use lib.ListN.{length-set}
use borrow.Author.Tests.{le-ltb}
use Rattle.text.proofs.Tests.{steps}
use Rattle.tergyosul.specs.Lexing.{four_first}
use Rattle.tergyosul.specs.Room.{by_room}
use Rattle.tergyosul.proofs.put_four.Goals as goal

pub returns-then-words-lt-LEX_WORDS : goal.returns-then-words-lt-LEX_WORDS
unfolding four_first by_room
returns-then-words-lt-LEX_WORDS c = search steps

pub bounds-words-1 : goal.bounds-words-1
unfolding four_first by_room
bounds-words-1 c = simp length-set (omega arith)

pub bounds-words-2 : goal.bounds-words-2
unfolding four_first by_room
bounds-words-2 c = simp length-set (omega arith)

pub shape_of-words : goal.shape_of-words
unfolding four_first by_room
shape_of-words c = search rules

pub returns : goal.returns
unfolding four_first by_room
returns c = simp (le-ltb _ _ c.if-words-lt-LEX_WORDS.false)
