use Prim.Native.Nat.{ℕ}
use mathlib.Core.Path.{◌≡◌, ◌∙◌, refl, ap, sym}
use mathlib.Core.Bool.{Bool, true, false}
use mathlib.Core.List.{List, [], ◌∷◌}
use native.Mathlib.Omega.{arith}
use borrow.Author.Rules.{rules}
use Rattle.text.specs.Choice.{pick}
use Rattle.text.specs.Part.{part_of}
use Rattle.text.specs.Find.{first_at}
use Rattle.text.specs.Split.{split}
use Rattle.text.proofs.Tests.{told-yes, told-no}
use Rattle.text.proofs.PartLaws.{part-past}
use Rattle.text.proofs.SplitLaws.{split-on}
use Rattle.tokens.specs.Cursor.{Tok, is_word}
use Rattle.tokens.specs.Phrase.{words_in, head_of, either_at}
use Rattle.tokens.proofs.Chain.{taken-ok, taken-no, then-taken, stop_taken}
use Rattle.tokens.proofs.cursor.Cursor.expect_either.Goals as goal

-- the first word, as the code reads it
first_word : (s : List ℕ) → part_of s 0 (first_at 0x20 s 0) ≡ head_of (words_in s)
unfolding head_of words_in split
first_word [] = sym (part-past [] 0 (first_at 0x20 [] 0) (omega arith))
first_word (c ∷ s) = sym (ap head_of (split-on 0x20 (c ∷ s) 0 (omega arith)))

module _ (t : ℕ → Tok) (s : List ℕ) (i : ℕ) {end : ℕ} (e : end ≡ first_at 0x20 s 0) {p : List ℕ} (q : p ≡ part_of s 0 end) {r : Bool}
    (d : r ≡ is_word t p i) where
  test : r ≡ is_word t (head_of (words_in s)) i
  test = d ∙ ap (λ (w : List ℕ). is_word t w i) (q ∙ ap (part_of s 0) e ∙ first_word s)

  yes : {A : Type 0} (a b : A) {x : A} → r ≡ true → x ≡ a → x ≡ pick (is_word t (head_of (words_in s)) i) a b
  yes a b h g = told-yes _ a b test h g

  no : {A : Type 0} (a b : A) {x : A} → r ≡ false → x ≡ b → x ≡ pick (is_word t (head_of (words_in s)) i) a b
  no a b h g = told-no _ a b test h g

pub returns-in_err-behind : goal.returns-in_err-behind
unfolding either_at
returns-in_err-behind c = search (rules, yes, taken-no, stop_taken)

pub returns-then-peek_kw : goal.returns-then-peek_kw
unfolding either_at
returns-then-peek_kw c = taken-ok _ (yes _ _ _ c.find-end.ensures c.part.ensures c.peek_kw.ensures _ _ c.if-peek_kw.true (then-taken _ _ c.expect_phrase.ensures c.in_ok-behind.was refl))

pub returns-in_err-behind-2 : goal.returns-in_err-behind-2
unfolding either_at
returns-in_err-behind-2 c = search (rules, no, taken-no, stop_taken)

pub returns : goal.returns
unfolding either_at
returns c = taken-ok _ (no _ _ _ c.find-end.ensures c.part.ensures c.peek_kw.ensures _ _ c.if-peek_kw.false (then-taken _ _ c.expect_phrase-2.ensures c.in_ok-behind-2.was refl))
