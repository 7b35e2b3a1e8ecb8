use mathlib.Core.Path.{ap, sym}
use native.Mathlib.Nat.{add-zero}
use native.Mathlib.Omega.{arith}
use borrow.Author.Count.{below_more}
use borrow.Author.Rules.{rules}
use Rattle.text.specs.Find.{first_at}
use Rattle.tokens.proofs.ListWordLaws.{none_past, too_long, other_byte, a-space, one_more, word-last, word-here, word-longer}
use Rattle.tokens.proofs.phrase.behind_word.Goals as goal

pub returns-then-len-at : goal.returns-then-len-at
returns-then-len-at c = search (rules, none_past)

pub returns-then-len-at-2 : goal.returns-then-len-at-2
returns-then-len-at-2 c = search (rules, too_long)

pub loop-k-init : goal.loop-k-init
loop-k-init c = let a = c.args in (ap (first_at 0x20 a.list.now) (add-zero a.at), (λ m l. absurd (omega arith)), search rules)

pub returns-then-list-at : goal.returns-then-list-at
returns-then-list-at c = other_byte _ _ _ (search rules) _ (search rules) (search rules) (search rules) c.if-list-at.true

pub returns-then-b-eq32 : goal.returns-then-b-eq32
returns-then-b-eq32 c = a-space _ _ _ (search rules) _ (search rules) (search rules) (search rules) c.if-list-at.false c.if-b-eq32.true

pub loop-k-preserved : goal.loop-k-preserved
loop-k-preserved c = let a = c.args in
    let l = c.loop-k in (one_more a.list.now a.at a.w.now (search rules) l.k l.invariant.0 (search rules) (search rules) c.if-list-at.false c.if-b-eq32.false, below_more _ _ l.invariant.1 (sym c.if-list-at.false), search rules)

pub returns-then-end-len : goal.returns-then-end-len
returns-then-end-len c = word-last _ _ _ (search rules) _ (search rules) c.loop-k.invariant.1 (search rules) (search rules) (search rules)

pub returns-then-list-end-eq32 : goal.returns-then-list-end-eq32
returns-then-list-end-eq32 c = word-here _ _ _ (search rules) _ (search rules) c.loop-k.invariant.1 (search rules) (search rules) (search rules) (search rules)

pub returns-else-list-end-eq32 : goal.returns-else-list-end-eq32
returns-else-list-end-eq32 c = word-longer _ _ _ (search rules) _ (search rules) c.loop-k.invariant.1 (search rules) (search rules) (search rules) (search rules)
