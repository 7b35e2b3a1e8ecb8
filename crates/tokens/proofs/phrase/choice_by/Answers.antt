use borrow.Author.Rules.{rules}
use Rattle.text.proofs.SplitLaws.{less-left, next_fits}
use Rattle.tokens.proofs.Chain.{taken-ok, taken-no}
use Rattle.tokens.proofs.ChoiceLaws.{whole, here, over, on, on-past, past, counted-on}
use Rattle.tokens.proofs.phrase.choice_by.Goals as goal
use Rattle.tokens.proofs.phrase.choice_by.Goals.{then-list-at+else-behind_word-ne0, else-list-at}

pub loop-at-init : goal.loop-at-init
loop-at-init c = (whole _ _ _ _ _, search rules)

pub returns-then-n-lt4294967296 : goal.returns-then-n-lt4294967296
returns-then-n-lt4294967296 c = search (rules, taken-ok, here)

pub returns-then-behind_word-ne0 : goal.returns-then-behind_word-ne0
returns-then-behind_word-ne0 c = search (rules, taken-no, over)

pub overflow_add-at : goal.overflow_add-at
overflow_add-at c = search (rules, next_fits)

pub loop-at-smaller : goal.loop-at-smaller
loop-at-smaller c = search (rules, less-left)

pub loop-at-preserved : goal.loop-at-preserved
loop-at-preserved c = (
  elim c.if-list-at.branch [
    | then-list-at+else-behind_word-ne0 w ↦
        on _ _ _ _ _ _ _ c.loop-at.invariant.0 c.loop-at-test.true w.behind_word.ensures w.if-behind_word-ne0.false c.find-at.ensures
    | else-list-at w ↦
        on-past _ _ _ _ _ _ _ c.loop-at.invariant.0 c.loop-at-test.true c.first_byte-first.ensures w.if-list-at.false c.find-at.ensures
  ],
  search (rules, counted-on),
)

pub returns : goal.returns
returns c = search (rules, taken-no, past)
