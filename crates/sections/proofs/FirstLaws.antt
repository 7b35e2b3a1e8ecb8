-- The place of a word in a list, as a chain of comparisons finds it, and what an arm and a return behind a row of tests are proved by.
use Prim.Native.Nat.{ℕ, ◌+◌}
use native.Mathlib.Omega.{arith}
use native.Mathlib.Nat.{zero-add}
use mathlib.Core.Path.{◌≡◌, ◌∙◌, refl, sym}
use mathlib.Core.Bool.{Bool, true, false}
use mathlib.Core.List.{List, [], ◌∷◌}
use lib.ListN.{length}
use lib.Dec.{eqb, ltb}
use borrow.Author.Rules.{rules}
use borrow.Author.Tests.{lt-ltb, ltb-true}
use Rattle.text.specs.Choice.{pick}
use Rattle.text.specs.Part.{same_bytes}
use Rattle.text.specs.Split.{split}
use Rattle.text.proofs.Tests.{told-yes, told-no}
use Rattle.tokens.specs.Result.{Res, ok, no, refuse}
use Rattle.tokens.specs.declared.cursor.Refusal.{Refusal}
use Rattle.tokens.specs.Phrase.{words_in, position, choice_by}
use Rattle.sections.specs.First.{first_words, place_from}
use Rattle.language.specs.Trigger.{trigger_words}
use Rattle.language.specs.Condition.{condition_words}

counted-on : (b : Bool) (n p : ℕ) {m : ℕ} → m ≡ n + 1 + p → pick b n m ≡ n + pick b 0 (p + 1)
counted-on true n p e = omega arith
counted-on false n p e = omega arith

from_on : (n : ℕ) (w : List ℕ) (xs : List (List ℕ)) → place_from n w xs ≡ n + position w xs
unfolding place_from position
from_on n w [] = omega arith
from_on n w (x ∷ xs) = counted-on (same_bytes w x) n (position w xs) (from_on (n + 1) w xs)

pub placed-from : (w : List ℕ) (xs : List (List ℕ)) {r : ℕ} → r ≡ place_from 0 w xs → r ≡ position w xs
placed-from w xs e = e ∙ from_on 0 w xs ∙ zero-add (position w xs)

by_count_lem : (n : ℕ) (b : Bool) → ltb n first_words ≡ b → b ≡ pick b (ltb n 4294967296) false
by_count_lem n true e = sym (lt-ltb n 4294967296 (let h = ltb-true n first_words e in omega arith))
by_count_lem n false e = refl

-- the answer by the place of a word, whose bytes are b, is the choice from the list
by_place : (list : List ℕ) (i j : ℕ) (w : List ℕ) {b : List ℕ} {n : ℕ} → length (words_in list) ≡ first_words → b ≡ w → n ≡ position b (words_in list) →
    pick (ltb n first_words) (ok n j) (refuse 21 i) ≡ choice_by list 21 i j w
unfolding choice_by
by_place list i j w {n = n} l d e = rw (← d, ← e, l, ← (by_count_lem n (ltb n first_words) refl))

pub trigger_by_lem : (i j : ℕ) (w : List ℕ) {b : List ℕ} {n : ℕ} → b ≡ w → n ≡ position b (words_in trigger_words) →
    pick (ltb n first_words) (ok n j) (refuse 21 i) ≡ choice_by trigger_words 21 i j w
unfolding words_in split
trigger_by_lem i j w d e = by_place trigger_words i j w refl d e

pub condition_by_lem : (i j : ℕ) (w : List ℕ) {b : List ℕ} {n : ℕ} → b ≡ w → n ≡ position b (words_in condition_words) →
    pick (ltb n first_words) (ok n j) (refuse 21 i) ≡ choice_by condition_words 21 i j w
unfolding words_in split
condition_by_lem i j w d e = by_place condition_words i j w refl d e

-- closes a chain of comparisons
pub ruleset places = (rules, told-yes, told-no)

-- one arm of a match on a number m, which is k: a test for another number fails
pub eq-other : {A : Type 0} (m n : ℕ) (a b : A) {k : ℕ} {x : A} → m ≡ k → eqb k n ≡ false → x ≡ b → x ≡ pick (eqb m n) a b
eq-other m n a b d f e = rw (d, f) e

-- a refusal that a function made
pub refused : {A : Type 0} (number i : ℕ) {r : Refusal} → r ≡ record { number = number; token = i; detail = 0 } →
    ◌≡◌ {A = Res A} (no r) (refuse number i)
refused number i e = rw e
